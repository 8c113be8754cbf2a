use Rattle.std.proofs.Common.{◌≤◌, length, drop}
use Rattle.market.specs.PlanTable.{walk_by}
use Rattle.market.proofs.PlanTables.{Onward}
use Rattle.market.proofs.plan.plan_walk.Given as goal

-- each order so far was used up, by one trade
abbrev pub invariant-loop-i : goal.invariant-loop-i
invariant-loop-i g l =
    let R = g.R.QueueRule.rule l.rule in
    (l.i ≤ length l.queue) × Onward (walk_by R l.taker l.lots l.queue) l.i (walk_by R l.taker l.left (drop l.i l.queue))
