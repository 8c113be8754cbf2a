-- The order is lowered in its place, and then leaves if it has no lots left.
use Rattle.std.proofs.Common.{length, ap, ◌∙◌, arith, length-set}
use Rattle.market.proofs.QueueTables.{any_order, lowered_then_cleared}
use Rattle.market.proofs.queue.Queue.lower.Goals as goal

pub leave-requires : goal.leave-requires
leave-requires c =
    let long = ap length (c.call_up-grant.ensures.lowered any_order) ∙ length-set c.args.self.now.orders c.args.at _ in
    omega (arith, c.requires.within, long)

pub returns-clause-lowered : goal.returns-clause-lowered
returns-clause-lowered c = lowered_then_cleared c.args.self.now.orders _ _ c.args.at c.args.lots c.requires.within (c.call_up-grant.ensures.lowered any_order) (c.leave.ensures any_order)
