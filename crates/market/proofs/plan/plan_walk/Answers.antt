-- Each turn uses an order up, or ends the walk where the orders before it were used up.
use Rattle.std.proofs.Common.{◌+◌, ◌-◌, drop, pos, sym, subst, arith}
use Rattle.clearing.specs.declared.side.Side.TheVariants.{Buy}
use Rattle.market.specs.Order.{order_of}
use Rattle.market.specs.PlanTable.{walk_by}
use Rattle.market.proofs.PlanTables.{Onward, onward_stopped, onward_used}
use Rattle.market.proofs.plan.plan_walk.Goals as goal

pub returns-in-Stopped : goal.returns-in-Stopped
returns-in-Stopped g c =
    let end = onward_stopped (g.R.QueueRule.rule c.args.rule.now) c.args.taker.now _ _ _ _ c.loop-i.invariant.1 (order_of (pos 0) Buy 0 (pos 0) 0) c.in-Stopped.ending c.loop-i-test.true c.in-Stopped.ensures in
    record { ending = end.0; left = end.1; trades = end.2 }

pub loop-i-preserved : goal.loop-i-preserved
loop-i-preserved g c =
    let R = g.R.QueueRule.rule c.args.rule.now in
    let t = c.args.taker.now in
    let q = c.args.queue.now in
    let on = onward_used R t _ _ _ _ c.loop-i.invariant.1 (order_of (pos 0) Buy 0 (pos 0) 0) c.loop-i-test.true c.in-UsedUp.ensures in
    (omega arith, subst (λ m. Onward (walk_by R t c.args.lots q) (c.loop-i.i + 1) (walk_by R t (c.loop-i.left - m) (drop (c.loop-i.i + 1) q))) (sym c.lots.ensures) on)
