-- Resting orders and trades. Assumes nothing.
use Rattle.std.specs.Prelude.{ℕ, ◌+◌, ◌-◌, Bool, true, false, cond, List, [], ◌∷◌, ◌++◌, ℤ, ◌==◌, nat_le}
use Rattle.ordered.specs.Key.{eq_z}
use Rattle.ordered.specs.Row.{place}
use Rattle.std.specs.List.{list_all, insert}
use Rattle.clearing.specs.Grant.{resting_of}
use Rattle.clearing.specs.declared.side.Side.{Side}
use Rattle.clearing.specs.declared.side.Side.TheVariants.{Buy, Sell}
use Rattle.market.specs.Rule.{Rule}
use Rattle.market.specs.declared.order.Order.{Order}
use Rattle.market.specs.declared.rule.Quote.{Quote}
use Rattle.market.specs.declared.trade.Party.{Party}
use Rattle.market.specs.declared.trade.Trade.{Trade}

abbrev pub account_of : Order → ℤ
account_of o = o.resting.account

abbrev pub side_of : Order → Side
side_of o = o.resting.side

-- the lots that are left of an order
abbrev pub lots_of : Order → ℕ
lots_of o = o.resting.lots

-- a side is this one
abbrev pub is_side : Side → Side → Bool
is_side Buy Buy = true
is_side Buy Sell = false
is_side Sell Buy = false
is_side Sell Sell = true

-- an order is of a side
abbrev pub is_on : Side → Order → Bool
is_on s o = is_side s (side_of o)

-- all orders are of one side
abbrev pub all_on : Side → List Order → Bool
all_on s q = list_all (is_on s) q

-- the order numbered k, of an account and side, at the price p, with n lots
abbrev pub order_of : ℤ → Side → ℕ → ℤ → ℕ → Order
order_of a s k p n = record { number = k; price = p; resting = resting_of a s n }

abbrev pub quoted : Side → ℤ → ℕ → Quote
quoted s p k = record { side = s; price = p; number = k }

-- what a queue rule sees of an order
abbrev pub quote_of : Order → Quote
quote_of o = quoted (side_of o) o.price o.number

-- x stands before y, by the rule
abbrev pub before : Rule → Order → Order → Bool
before R x y = R.stands (quote_of x) (quote_of y)

-- a standing order over all orders: on one side by the rule, and buys before sells, which no queue has together
abbrev pub by_side : Side → Side → Bool → Bool
by_side Buy Buy b = b
by_side Buy Sell b = true
by_side Sell Buy b = false
by_side Sell Sell b = b

abbrev pub sided : Rule → Order → Order → Bool
sided R x y = by_side (side_of x) (side_of y) (before R x y)

-- the queue with an order put into its place
abbrev pub joined : Rule → Order → List Order → List Order
joined R o q = insert q (place (sided R) q o) o

-- the order with n lots fewer
abbrev pub lowered : Order → ℕ → Order
lowered o n = order_of (account_of o) (side_of o) o.number o.price (lots_of o - n)

-- what stays in the queue of an order lowered by n lots: one with no lots left leaves
abbrev pub left_of : Order → ℕ → List Order
left_of o n = cond (nat_le (lots_of o) n) [] (lowered o n ∷ [])

-- the queue with the order numbered k lowered by n lots, in its place
abbrev pub lower : ℕ → ℕ → List Order → List Order
lower k n [] = []
lower k n (o ∷ os) = cond (o.number == k) (left_of o n ++ os) (o ∷ lower k n os)

-- the lots that an account has resting in a queue
abbrev pub lots_resting : ℤ → List Order → ℕ
lots_resting a [] = 0
lots_resting a (o ∷ os) = cond (eq_z (account_of o) a) (lots_of o) 0 + lots_resting a os

abbrev pub party : ℕ → ℤ → Party
party k a = record { number = k; account = a }

abbrev pub party_of : Order → Party
party_of o = party o.number (account_of o)

-- an entry of the side s trades n lots with a resting order, at its price
abbrev pub trade_of : Side → Party → Order → ℕ → Trade
trade_of Buy me o n = record { buy = me; sell = party_of o; price = o.price; lots = n }
trade_of Sell me o n = record { buy = party_of o; sell = me; price = o.price; lots = n }

-- the party of a trade on one side
abbrev pub party_on : Side → Trade → Party
party_on Buy t = t.buy
party_on Sell t = t.sell
