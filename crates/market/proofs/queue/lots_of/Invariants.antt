use Rattle.std.proofs.Common.{◌≡◌, ◌+◌, ◌*◌, ◌≤◌, drop}
use Rattle.market.specs.Order.{lots_resting}
use Rattle.market.proofs.queue.lots_of.Given as goal

-- the sum so far fits, and makes up the lots of all orders with those of the orders to come
abbrev pub invariant-loop-order : goal.invariant-loop-order
invariant-loop-order l = (l.lots ≤ 18446744073709551615 * l.order-index) × (l.lots + lots_resting l.account (drop l.order-index l.orders) ≡ lots_resting l.account l.orders)
