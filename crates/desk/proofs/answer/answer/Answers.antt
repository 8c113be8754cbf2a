-- The page has room for the reply, so that its line is printed.
use Rattle.std.proofs.Common.{ap, length, ◌∙◌}
use Rattle.page.specs.Phrases.{phrases}
use Rattle.page.specs.Printed.{over, said}
use Rattle.desk.proofs.Showing.{fitting_has_line, printed_is_result}
use Rattle.desk.proofs.answer.answer.Goals as goal

pub returns-clause-answered : goal.returns-clause-answered
returns-clause-answered g c long low =
    let ps = phrases c.args.table.now.rows in
    let reply = c.deal-reply.result in
    let line = fitting_has_line ps c.args.number reply low c.deal-reply.ensures.fits in
    let result = printed_is_result ps c.args.number reply (length c.args.out.now) long line.0 line.1 in (
      reply,
      c.deal-reply.ensures.dealt,
      record {
        line = line.0;
        printed = line.1;
        bytes = c.print.ensures.bytes ∙ ap (λ r. over r c.args.out.now) result;
      },
      c.print.ensures.value ∙ ap said result,
    )
