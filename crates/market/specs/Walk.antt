-- The walk of an entry: what it trades with, order after order, and how it ends. Assumes nothing.
use Rattle.std.specs.Prelude.{ℕ, ◌-◌, Bool, false, cond, not, List, [], ◌∷◌, ◌-ℤ◌, ◌==◌, nat_le, unsigned_abs}
use Rattle.ordered.specs.Key.{eq_z}
use Rattle.dealing.specs.declared.call.Entry.{Entry}
use Rattle.dealing.specs.declared.call.Kind.{Kind}
use Rattle.dealing.specs.declared.call.Kind.TheVariants.{Limited, Market}
use Rattle.market.specs.Order.{account_of, lots_of, lowered, party, quote_of, quoted, trade_of}
use Rattle.market.specs.Rule.{Rule, meets_across}
use Rattle.market.specs.declared.ending.Ending.{Ending}
use Rattle.market.specs.declared.ending.Ending.TheVariants.{Filled as filled, Short as short, Own as own}
use Rattle.market.specs.declared.order.Order.{Order}
use Rattle.market.specs.declared.rule.Quote.{Quote}
use Rattle.market.specs.declared.trade.Trade.{Trade}

-- an entry as a queue rule sees it, under the number k
abbrev pub entry_quote : Entry → ℕ → Quote
entry_quote e k = quoted e.side e.price k

-- within the deviation d of the price of the order that stands first in a queue
abbrev pub near_first : ℕ → List Order → Order → Bool
near_first d [] o = false
near_first d (head ∷ q) o = nat_le (unsigned_abs (o.price -ℤ head.price)) d

-- whether a resting order is eligible for an entry that comes under the number k, at the deviation d, to the queue q:
-- a limited one meets it, and a market one finds its price near
abbrev pub eligible_for : Kind → Rule → ℕ → ℕ → List Order → Entry → Order → Bool
eligible_for Limited R d k q e o = meets_across R e.side (entry_quote e k) (quote_of o)
eligible_for Market R d k q e o = near_first d q o

-- where a walk has come to: the trades made, the queue and the lots that are left, and how it ends
pub record Walked : Type 0 where
  pub trades : List Trade
  pub queue : List Order
  pub left : ℕ
  pub ending : Ending

abbrev pub walked : List Trade → List Order → ℕ → Ending → Walked
walked ts q n e = record { trades = ts; queue = q; left = n; ending = e }

-- a trade made first
abbrev pub after_trade : Trade → Walked → Walked
after_trade t w = walked (t ∷ w.trades) w.queue w.left w.ending

-- the walk of an entry numbered k with n lots left down a queue, of whose orders some are eligible. At each order:
-- nothing left, not eligible, own account, or a trade, which empties the order or uses the entry up
abbrev pub walk : (Order → Bool) → Entry → ℕ → ℕ → List Order → Walked
walk eligible e k n [] = walked [] [] n (cond (n == 0) filled short)
walk eligible e k n (o ∷ os) =
    cond (n == 0) (walked [] (o ∷ os) n filled)
    (cond (not (eligible o)) (walked [] (o ∷ os) n short)
    (cond (eq_z (account_of o) e.account) (walked [] (o ∷ os) n own)
    (cond (nat_le (lots_of o) n)
    (after_trade (trade_of e.side (party k e.account) o (lots_of o)) (walk eligible e k (n - lots_of o) os))
    (walked (trade_of e.side (party k e.account) o n ∷ []) (lowered o n ∷ os) 0 filled))))
