-- What the plan of a walk is made of: the taker's own test of an order, and what a walk comes to at one order.
-- Assumes nothing.
use Rattle.std.specs.Prelude.{ℕ, Bool, false, cond, not, ◌&&◌, List, [], ◌∷◌, ℤ, pos, ◌-ℤ◌, Some, None, Option, ◌==◌, int_le, nat_le, unsigned_abs}
use Rattle.ordered.specs.Key.{eq_z}
use Rattle.dealing.specs.declared.call.Entry.{Entry}
use Rattle.dealing.specs.declared.call.Kind.{Kind}
use Rattle.dealing.specs.declared.call.Kind.TheVariants.{Limited, Market}
use Rattle.market.specs.Order.{account_of, lots_of, quote_of}
use Rattle.market.specs.Rule.{Rule, meets_across}
use Rattle.market.specs.Walk.{Walked, entry_quote, walk}
use Rattle.market.specs.declared.ending.Ending.TheVariants.{Filled as filled, Own as own, Short as short}
use Rattle.market.specs.declared.order.Order.{Order}
use Rattle.market.specs.declared.plan.Reach.{Reach}
use Rattle.market.specs.declared.plan.Reach.TheVariants.{UsedUp, Partly, Stopped}
use Rattle.market.specs.declared.taker.Taker.{Taker}

-- a limited price outside the band from low to high
abbrev pub outside_band : Kind → ℤ → ℤ → ℤ → Bool
outside_band Limited low high p = not (int_le low p && int_le p high)
outside_band Market low high p = false

-- at least 1 lot, and fewer than there are
abbrev pub lessens : ℤ → ℕ → Bool
lessens n lots = int_le (pos 1) n && not (int_le (pos lots) n)

-- the price of the order that stands first in a queue
abbrev pub first_price : List Order → Option ℤ
first_price [] = None
first_price (o ∷ q) = Some o.price

-- a price within the deviation d of the first one
abbrev pub near_price : ℕ → Option ℤ → ℤ → Bool
near_price d None p = false
near_price d (Some first) p = nat_le (unsigned_abs (p -ℤ first)) d

abbrev pub eligible_as : Kind → Rule → Taker → Order → Bool
eligible_as Limited R t o = meets_across R t.numbered.entry.side (entry_quote t.numbered.entry t.numbered.number) (quote_of o)
eligible_as Market R t o = near_price t.deviation t.first o.price

-- whether a resting order is eligible, by what the taker knows
abbrev pub eligible_by : Rule → Taker → Order → Bool
eligible_by R t o = eligible_as t.numbered.entry.kind R t o

-- the walk of a taker with n lots left
abbrev pub walk_by : Rule → Taker → ℕ → List Order → Walked
walk_by R t n q = walk (eligible_by R t) t.numbered.entry t.numbered.number n q

-- what a walk with n lots left comes to at an order
abbrev pub reach_of : (Order → Bool) → Entry → ℕ → Order → Reach
reach_of eligible e n o =
    cond (n == 0) (Stopped filled)
    (cond (not (eligible o)) (Stopped short)
    (cond (eq_z (account_of o) e.account) (Stopped own)
    (cond (nat_le (lots_of o) n) UsedUp Partly)))
