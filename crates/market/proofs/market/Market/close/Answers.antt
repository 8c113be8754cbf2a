-- What rests comes back, and after a run that is all that is held.
use Rattle.std.proofs.Common.{sym, ap, ◌∙◌, subst}
use Rattle.market.proofs.Closings.{comes_back, nothing_stays_held}
use Rattle.market.specs.BookState.{state_of}
use Rattle.market.specs.Closing.{ComesBack, NothingStaysHeld, all_given_back}
use Rattle.market.specs.Rule.{Lawful}
use Rattle.market.proofs.market.Market.close.Goals as goal

pub returns-clause-back : goal.returns-clause-back
returns-clause-back g c =
    let m = c.args.self in
    let L = g.C.Centre.lines m.centre in
    subst (ComesBack (state_of m.book) L) (sym (c.close-2.ensures.lines ∙ ap (λ M. all_given_back M m.book.sells.orders) c.close.ensures.lines)) (comes_back (state_of m.book) L)

pub returns-clause-law : goal.returns-clause-law
returns-clause-law g c =
    let m = c.args.self in
    let rule = m.book.rule.rule in
    let R = g.R.QueueRule.rule rule in
    let C = g.C.Centre.own m.centre in
    let L = g.C.Centre.lines m.centre in
    let lawful : Lawful R = record {
      irreflexive = g.met.R.QueueRule.irreflexive rule;
      transitive = g.met.R.QueueRule.transitive rule;
      decided = g.met.R.QueueRule.decided rule;
      meeting = g.met.R.QueueRule.meeting rule;
    } in
    subst (NothingStaysHeld R C (state_of m.book) L) (sym (c.close-2.ensures.lines ∙ ap (λ M. all_given_back M m.book.sells.orders) c.close.ensures.lines)) (nothing_stays_held R lawful C (state_of m.book) L)
