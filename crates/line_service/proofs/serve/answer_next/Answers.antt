use Rattle.std.proofs.Common.{◌≡◌, ◌++◌, length, take, ap, subst, ◌∙◌}
use Rattle.line_service.specs.Steps.{LooksAt}
use Rattle.line_service.proofs.LineLemmas.{ConsumesLines-rest, ConsumesLines-rest_at_end, end_after}
use Rattle.line_service.proofs.PageLemmas.{Answers-cut}
use Rattle.line_service.proofs.serve.answer_next.Goals as goal

pub returns-then-line-clause-next : goal.returns-then-line-clause-next
returns-then-line-clause-next g c =
    let longest = length c.args.kept.now in
    let begun = subst (LooksAt g.S.LineService.shown g.S.LineService.next _ _ _ _ _ _ _) c.in-Part.is c.in-Ok.ensures.begun in
    let took = c.in_ok-line-in-Part.ensures.piece in
    let held = took.held begun.bytes begun.held in
    let line = begun.bytes ++ took.bytes in
    let room : length c.finish_line.new.kept ≡ longest = c.finish_line.ensures.room ∙ c.look.ensures.room in
    let cut = held.bytes ∙ ap (λ k. take k line) (room ∙ c.requires.looks) in
    record {
      line = line;
      read = ConsumesLines-rest _ _ _ _ _ _ _ begun.bytes begun.within begun.read took c.if-line.true;
      answers = Answers-cut g.S.LineService.shown g.S.LineService.next g.S.LineService.LONGEST g.met.S.LineService.looks_shown g.met.S.LineService.looks_next _ _ _ c.args.number line _ _ begun.state cut (c.answer.ensures.next c.requires.number) (c.answer.ensures.shown c.requires.number);
    }

pub returns-else-line-clause-next : goal.returns-else-line-clause-next
returns-else-line-clause-next g c =
    let longest = length c.args.kept.now in
    let begun = subst (LooksAt g.S.LineService.shown g.S.LineService.next _ _ _ _ _ _ _) c.in-Part.is c.in-Ok.ensures.begun in
    let took = c.in_ok-line-in-Part.ensures.piece in
    let end = c.in_ok-line-in-Part.ensures.end c.if-line.false in
    let held = took.held begun.bytes begun.held in
    let line = begun.bytes ++ took.bytes in
    let room : length c.finish_line.new.kept ≡ longest = c.finish_line.ensures.room ∙ c.look.ensures.room in
    let cut = held.bytes ∙ ap (λ k. take k line) (room ∙ c.requires.looks) in (
      record {
        line = line;
        read = ConsumesLines-rest_at_end _ _ _ _ _ _ _ begun.bytes begun.within begun.read took c.if-line.false begun.some end;
        answers = Answers-cut g.S.LineService.shown g.S.LineService.next g.S.LineService.LONGEST g.met.S.LineService.looks_shown g.met.S.LineService.looks_next _ _ _ c.args.number line _ _ begun.state cut (c.answer.ensures.next c.requires.number) (c.answer.ensures.shown c.requires.number);
      },
      end_after _ _ _ begun.bytes begun.read end,
    )
