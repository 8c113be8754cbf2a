-- The lines are calls of one run.
use Rattle.desk.proofs.Led.{lines_keep_the_law}
use Rattle.market.specs.Rule.{Lawful}
use Rattle.desk.proofs.desk.Desk.serve.Goals as goal

pub returns-clause-law : goal.returns-clause-law
returns-clause-law g c L₀ calls led lines =
    let rule = c.args.self.now.market.book.rule.rule in
    let lawful : Lawful (g.R.QueueRule.rule rule) = record {
      irreflexive = g.met.R.QueueRule.irreflexive rule;
      transitive = g.met.R.QueueRule.transitive rule;
      decided = g.met.R.QueueRule.decided rule;
      meeting = g.met.R.QueueRule.meeting rule;
    } in
    lines_keep_the_law lines _ lawful L₀ calls led
