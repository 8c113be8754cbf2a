-- The entry's own queue is that of its side, and the walk goes down the other.
use Rattle.std.proofs.Common.{Ok, sym, refl, ap, ◌∙◌, ap₂}
use Rattle.clearing.specs.declared.side.Side.TheVariants.{Buy, Sell}
use Rattle.market.proofs.Accepting.{carried_as, carry_needs, number_kept, plan_left, queues_kept}
use Rattle.market.specs.BookState.{state_of}
use Rattle.market.specs.Calls.{done}
use Rattle.market.proofs.book.Book.carry_out.Goals as goal
use Rattle.market.proofs.book.Book.carry_out.Goals.{in-Buy, in-Sell}

pub carry-requires : goal.carry-requires
carry-requires g c =
    let b = c.args.self.now in
    let R = g.R.QueueRule.rule b.rule.rule in
    let n = carry_needs R (g.C.Centre.own c.args.centre.now) (g.C.Centre.lines c.args.centre.now) b c.args.entry.now c.args.plan c.requires Buy c.in-Buy.is in
    record { asked = n.0; planned = n.1; register = n.2; queue = n.3 }

pub invariant_of-self : goal.invariant_of-self
invariant_of-self g c =
    let b = c.args.self.now in
    let R = g.R.QueueRule.rule b.rule.rule in
    let last = c.carry.new in
    let kept = queues_kept R (g.C.Centre.own c.args.centre.now) (g.C.Centre.lines c.args.centre.now) b c.args.entry.now c.args.plan c.requires Buy c.in-Buy.is (g.C.Centre.lines last.centre) last.mine.orders last.theirs.orders last.register c.carry.ensures.entered in
    record { bought = kept.0; sold = kept.1; given = number_kept R (g.C.Centre.own c.args.centre.now) (g.C.Centre.lines c.args.centre.now) b c.args.entry.now c.args.plan c.requires Buy c.in-Buy.is; buys_fit = kept.2; sells_fit = kept.3 }

pub carry-requires-in-Sell : goal.carry-requires-in-Sell
carry-requires-in-Sell g c =
    let b = c.args.self.now in
    let R = g.R.QueueRule.rule b.rule.rule in
    let n = carry_needs R (g.C.Centre.own c.args.centre.now) (g.C.Centre.lines c.args.centre.now) b c.args.entry.now c.args.plan c.requires Sell c.in-Sell.is in
    record { asked = n.0; planned = n.1; register = n.2; queue = n.3 }

pub invariant_of-self-in-Sell : goal.invariant_of-self-in-Sell
invariant_of-self-in-Sell g c =
    let b = c.args.self.now in
    let R = g.R.QueueRule.rule b.rule.rule in
    let last = c.carry-in-Sell.new in
    let kept = queues_kept R (g.C.Centre.own c.args.centre.now) (g.C.Centre.lines c.args.centre.now) b c.args.entry.now c.args.plan c.requires Sell c.in-Sell.is (g.C.Centre.lines last.centre) last.mine.orders last.theirs.orders last.register c.carry-in-Sell.ensures.entered in
    record { bought = kept.1; sold = kept.0; given = number_kept R (g.C.Centre.own c.args.centre.now) (g.C.Centre.lines c.args.centre.now) b c.args.entry.now c.args.plan c.requires Sell c.in-Sell.is; buys_fit = kept.3; sells_fit = kept.2 }

pub outcome-requires : goal.outcome-requires
outcome-requires g c =
    let b = c.args.self.now in
    let R = g.R.QueueRule.rule b.rule.rule in
    plan_left R (g.C.Centre.own c.args.centre.now) (g.C.Centre.lines c.args.centre.now) b c.args.entry.now c.args.plan c.requires c.args.entry.now.side refl

pub returns-clause-answered : goal.returns-clause-answered
returns-clause-answered g c =
    let b = c.args.self.now in
    let R = g.R.QueueRule.rule b.rule.rule in
    elim c.match-entry.branch [
      | in-Buy w ↦ (
          let last = w.carry.new in
          let did = carried_as R (g.C.Centre.own c.args.centre.now) (g.C.Centre.lines c.args.centre.now) b c.args.entry.now c.args.plan c.requires Buy w.in-Buy.is (g.C.Centre.lines last.centre) last.mine.orders last.theirs.orders last.register w.carry.ensures.entered c.outcome.result c.outcome.ensures in
          did ∙ ap₂ (λ T M. done T M (Ok c.outcome.result)) (sym (ap state_of w.self-is)) (sym (ap g.C.Centre.lines w.centre-is)))
      | in-Sell w ↦ (
          let last = w.carry-in-Sell.new in
          let did = carried_as R (g.C.Centre.own c.args.centre.now) (g.C.Centre.lines c.args.centre.now) b c.args.entry.now c.args.plan c.requires Sell w.in-Sell.is (g.C.Centre.lines last.centre) last.mine.orders last.theirs.orders last.register w.carry-in-Sell.ensures.entered c.outcome.result c.outcome.ensures in
          did ∙ ap₂ (λ T M. done T M (Ok c.outcome.result)) (sym (ap state_of w.self-is)) (sym (ap g.C.Centre.lines w.centre-is)))
    ]
