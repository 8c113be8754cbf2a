-- The book's call is as defined, and so keeps the law.
use Rattle.market.proofs.Runs.{call_keeps_the_law}
use Rattle.market.specs.BookState.{state_of}
use Rattle.market.specs.Rule.{Lawful}
use Rattle.market.proofs.market.Market.call.Goals as goal

pub returns-clause-law : goal.returns-clause-law
returns-clause-law g c =
    let m = c.args.self.now in
    let rule = m.book.rule.rule in
    let R = g.R.QueueRule.rule rule in
    let lawful : Lawful R = record {
      irreflexive = g.met.R.QueueRule.irreflexive rule;
      transitive = g.met.R.QueueRule.transitive rule;
      decided = g.met.R.QueueRule.decided rule;
      meeting = g.met.R.QueueRule.meeting rule;
    } in
    call_keeps_the_law R lawful (g.C.Centre.own m.centre) (state_of m.book) (g.C.Centre.lines m.centre) c.args.call _ _ _ c.call.ensures.answered
