use Rattle.std.proofs.Common.{◌≡◌, ◌+◌, ◌++◌, ◌∷◌, [], Ok, length, arith, subst, ap, ◌∙◌, append-nil, length-append}
use Rattle.std.proofs.lemmas.Result.{err_from_is_err_and}
use Rattle.line_service.specs.Lines.{ConsumesLines}
use Rattle.line_service.specs.Steps.{ServesNext}
use Rattle.line_service.proofs.LineLemmas.{AreFirstLines-consumed, AreLines-all, ConsumesLines-nil, ConsumesLines-trans, HasMoreLines-after, lines_end}
use Rattle.line_service.proofs.PageLemmas.{Serves-kept, Serves-trans, Stops-early, StopsEarly-after, StopsEarly-whole, other_error}
use Rattle.line_service.proofs.serve.serve.Goals as goal

pub returns-in_err-now-clause-err : goal.returns-in_err-now-clause-err
returns-in_err-now-clause-err g c =
    let p = err_from_is_err_and c.from_residual.result c.from_residual.ensures.1 in
    let e = c.in_err-now.field-0.0 in
    let before = c.loop-answered.invariant in
    let stopped = c.in_err-now.ensures.stopped in
    rw (p.1, p.2) (
    Stops-early g.S.LineService.shown g.S.LineService.next g.S.LineService.LAST _ _ _ _ _ _ e
    (StopsEarly-after g.S.LineService.shown g.S.LineService.next _ _ _ 1 (c.loop-answered.answered + 1) _ _ _ _ _ before.lines e (omega (arith, before.count)) before.read before.serves stopped)
    )

pub returns-in-Done-clause-ok : goal.returns-in-Done-clause-ok
returns-in-Done-clause-ok g c =
    let before = c.loop-answered.invariant in
    let done = c.in_ok-now.ensures.served in
    let last = subst (ServesNext g.S.LineService.shown g.S.LineService.next _ _ _ _ _ _ _) c.in-Done.is done in
    let lines = before.lines ++ last.0 in
    let read = ConsumesLines-trans _ _ _ before.lines last.0 before.read last.3.read in
    let end = lines_end _ _ _ before.lines before.read last.2 in (
      lines,
      AreLines-all _ _ lines read end,
      end,
      omega (arith, length-append before.lines last.0, before.count, last.1, c.loop-answered-test.true),
      Serves-trans g.S.LineService.shown g.S.LineService.next _ _ _ 1 (c.loop-answered.answered + 1) before.lines last.0 _ _ _ (omega (arith, before.count)) before.serves last.3.serves,
    )

pub loop-answered-preserved : goal.loop-answered-preserved
loop-answered-preserved g c =
    let before = c.loop-answered.invariant in
    let more = c.in_ok-now.ensures.served in
    let one = subst (ServesNext g.S.LineService.shown g.S.LineService.next _ _ _ _ _ _ _) c.in-More.is more in
    let line = one.0 ∷ [] in
    record {
      room = c.serve_next.ensures.room ∙ before.room;
      lines = before.lines ++ line;
      count = omega (arith, length-append before.lines line, before.count);
      read = ConsumesLines-trans _ _ _ before.lines line before.read one.1.read;
      serves = Serves-trans g.S.LineService.shown g.S.LineService.next _ _ _ 1 (c.loop-answered.answered + 1) before.lines line _ _ _ (omega (arith, before.count)) before.serves one.1.serves;
      kept = g.met.S.LineService.kept_on _ _ _ before.kept c.serve_next.ensures.kept;
    }

pub returns-in_err-wait_for_more-clause-err : goal.returns-in_err-wait_for_more-clause-err
returns-in_err-wait_for_more-clause-err g c =
    let p = err_from_is_err_and c.from_residual-in_err-wait_for_more.result c.from_residual-in_err-wait_for_more.ensures.1 in
    let e = c.in_err-wait_for_more.field-0.0 in
    let before = c.loop-answered.invariant in
    rw (p.1, p.2) (
    Stops-early g.S.LineService.shown g.S.LineService.next g.S.LineService.LAST _ _ _ _ _ _ e (
    StopsEarly-whole g.S.LineService.shown g.S.LineService.next _ _ 1 _ _ _ before.lines e
    (other_error c.wait_for_more.result e _ c.wait_for_more.ensures.error c.in_err-wait_for_more.was)
    (AreFirstLines-consumed _ _ _ before.read)
    (Serves-kept g.S.LineService.shown g.S.LineService.next _ _ 1 before.lines _ _ _ before.serves c.wait_for_more.ensures.shown)
    )
    )

pub returns-then-branch-clause-err : goal.returns-then-branch-clause-err
returns-then-branch-clause-err g c =
    let before = c.loop-answered.invariant in
    let all : length before.lines ≡ g.S.LineService.LAST = omega (arith, before.count, c.loop-answered.auto.answered-end, c.loop-answered-test.false) in
    let more = c.wait_for_more.ensures.more (c.in_ok-wait_for_more.was ∙ ap Ok c.if-branch.true) in (
      before.lines,
      all,
      HasMoreLines-after _ _ before.lines _ before.read all more,
      subst (ConsumesLines _ _) (append-nil before.lines) (ConsumesLines-trans _ _ _ before.lines [] before.read (ConsumesLines-nil _ _ c.wait_for_more.ensures.kept)),
      Serves-kept g.S.LineService.shown g.S.LineService.next _ _ 1 before.lines _ _ _ before.serves c.wait_for_more.ensures.shown,
    )
