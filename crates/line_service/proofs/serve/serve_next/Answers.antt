use Rattle.std.proofs.Common.{[], arith, refl, subst}
use Rattle.std.proofs.lemmas.Result.{err_from_is_err_and}
use Rattle.std.proofs.KnownBytes.{Keeps-trans}
use Rattle.line_service.specs.Pieces.{WritesFront}
use Rattle.line_service.specs.Steps.{AnswersNext}
use Rattle.line_service.proofs.LineLemmas.{AreFirstLines-consumed, AreFirstLines-nil, ConsumesLines-nil}
use Rattle.line_service.proofs.PageLemmas.{Serves-nil, Serves-kept, StopsEarly-after, StopsEarly-line, StopsEarly-whole, other_error}
use Rattle.line_service.proofs.serve.serve_next.Goals as goal

pub returns-in_err-ready-clause-stopped : goal.returns-in_err-ready-clause-stopped
returns-in_err-ready-clause-stopped g c =
    let p = err_from_is_err_and c.from_residual.result c.from_residual.ensures.1 in
    let e = c.in_err-ready.field-0.0 in
    rw (p.1, p.2) (
    StopsEarly-whole g.S.LineService.shown g.S.LineService.next _ _ c.args.number _ _ _ [] e
    (other_error c.ready.result e _ c.ready.ensures.error c.in_err-ready.was)
    (AreFirstLines-nil _)
    (Serves-nil g.S.LineService.shown g.S.LineService.next _ _ c.args.number _ _ refl c.ready.ensures.shown)
    )

pub returns-in_err-used_up-clause-stopped : goal.returns-in_err-used_up-clause-stopped
returns-in_err-used_up-clause-stopped g c =
    let p = err_from_is_err_and c.from_residual-in_err-used_up.result c.from_residual-in_err-used_up.ensures.1 in
    let e = c.in_err-used_up.field-0.0 in
    let same = c.in_err-used_up.ensures.err in
    rw (p.1, p.2) (
    StopsEarly-whole g.S.LineService.shown g.S.LineService.next _ _ c.args.number _ _ _ [] e
    (other_error c.answer_next.result e _ c.answer_next.ensures.error c.in_err-used_up.was)
    (AreFirstLines-nil _)
    (Serves-nil g.S.LineService.shown g.S.LineService.next _ _ c.args.number _ _ same (Keeps-trans _ _ _ c.ready.ensures.shown c.answer_next.ensures.shown))
    )

pub returns-in_err-write_whole-in-Line-clause-stopped : goal.returns-in_err-write_whole-in-Line-clause-stopped
returns-in_err-write_whole-in-Line-clause-stopped g c =
    let p = err_from_is_err_and c.from_residual-in_err-write_whole-in-Line.result c.from_residual-in_err-write_whole-in-Line.ensures.1 in
    let e = c.in_err-write_whole-in-Line.field-0.0 in
    let now = subst (AnswersNext g.S.LineService.shown g.S.LineService.next _ _ _ _ _ _) c.in-Line.is c.in_ok-used_up.ensures.next in
    let before = Serves-nil g.S.LineService.shown g.S.LineService.next _ _ c.args.number _ _ refl (Keeps-trans _ _ _ c.ready.ensures.shown c.answer_next.ensures.shown) in
    let wrote = subst (λ bytes. WritesFront (g.W.Write.contents c.answer_next.new.output) (g.W.Write.contents c.write_whole.new.output) bytes e) c.printed.ensures c.in_err-write_whole-in-Line.ensures.err in
    rw (p.1, p.2) (
    StopsEarly-after g.S.LineService.shown g.S.LineService.next _ _ _ c.args.number c.args.number _ _ _ _ _ [] e (omega arith) (ConsumesLines-nil _ _ c.ready.ensures.kept) before
    (StopsEarly-line g.S.LineService.shown g.S.LineService.next _ _ c.args.number _ _ _ now.line _ e (AreFirstLines-consumed _ _ _ now.read) now.answers wrote)
    )

pub returns-in_err-write_whole-in-LastLine-clause-stopped : goal.returns-in_err-write_whole-in-LastLine-clause-stopped
returns-in_err-write_whole-in-LastLine-clause-stopped g c =
    let p = err_from_is_err_and c.from_residual-in_err-write_whole-in-LastLine.result c.from_residual-in_err-write_whole-in-LastLine.ensures.1 in
    let e = c.in_err-write_whole-in-LastLine.field-0.0 in
    let now = (subst (AnswersNext g.S.LineService.shown g.S.LineService.next _ _ _ _ _ _) c.in-LastLine.is c.in_ok-used_up.ensures.next).0 in
    let before = Serves-nil g.S.LineService.shown g.S.LineService.next _ _ c.args.number _ _ refl (Keeps-trans _ _ _ c.ready.ensures.shown c.answer_next.ensures.shown) in
    let wrote = subst (λ bytes. WritesFront (g.W.Write.contents c.answer_next.new.output) (g.W.Write.contents c.write_whole-in-LastLine.new.output) bytes e) c.printed-in-LastLine.ensures c.in_err-write_whole-in-LastLine.ensures.err in
    rw (p.1, p.2) (
    StopsEarly-after g.S.LineService.shown g.S.LineService.next _ _ _ c.args.number c.args.number _ _ _ _ _ [] e (omega arith) (ConsumesLines-nil _ _ c.ready.ensures.kept) before
    (StopsEarly-line g.S.LineService.shown g.S.LineService.next _ _ c.args.number _ _ _ now.line _ e (AreFirstLines-consumed _ _ _ now.read) now.answers wrote)
    )

pub returns-in_err-flush-in-NoLine-clause-stopped : goal.returns-in_err-flush-in-NoLine-clause-stopped
returns-in_err-flush-in-NoLine-clause-stopped g c =
    let p = err_from_is_err_and c.from_residual-in_err-flush-in-NoLine.result c.from_residual-in_err-flush-in-NoLine.ensures.1 in
    let e = c.in_err-flush-in-NoLine.field-0.0 in
    let now = subst (AnswersNext g.S.LineService.shown g.S.LineService.next _ _ _ _ _ _) c.in-NoLine.is c.in_ok-used_up.ensures.next in
    let before = Serves-nil g.S.LineService.shown g.S.LineService.next _ _ c.args.number _ _ now.state (Keeps-trans _ _ _ c.ready.ensures.shown c.answer_next.ensures.shown) in
    rw (p.1, p.2) (
    StopsEarly-whole g.S.LineService.shown g.S.LineService.next _ _ c.args.number _ _ _ [] e
    (other_error c.flush.result e _ c.flush.ensures.error c.in_err-flush-in-NoLine.was)
    (AreFirstLines-nil _)
    (Serves-kept g.S.LineService.shown g.S.LineService.next _ _ c.args.number _ _ _ _ before c.flush.ensures.shown)
    )
