-- The state of a market, without its centre. Assumes nothing.
use Rattle.std.specs.Prelude.{ℕ, Bool, true, false, List, [], ◌++◌, ℤ, pos, Option}
use Rattle.ordered.specs.Row.{at_key}
use Rattle.clearing.specs.declared.side.Side.{Side}
use Rattle.clearing.specs.declared.side.Side.TheVariants.{Buy, Sell}
use Rattle.market.specs.declared.order.Order.{Order}
use Rattle.market.specs.declared.period.Period.{Period}
use Rattle.market.specs.declared.period.Period.TheVariants.{Unopened, Trading, Suspended}
use Rattle.market.specs.declared.trade.Trade.{Trade}

-- period, band, deviation, the last number given, both queues from first to last, and the trades in the order made
pub record State : Type 0 where
  pub period : Period
  pub low : ℤ
  pub high : ℤ
  pub deviation : ℕ
  pub last : ℕ
  pub buys : List Order
  pub sells : List Order
  pub register : List Trade

abbrev pub new_market : State
new_market = record { period = Unopened; low = pos 0; high = pos 0; deviation = 0; last = 0; buys = []; sells = []; register = [] }

abbrev pub queue_of : Side → State → List Order
queue_of Buy S = S.buys
queue_of Sell S = S.sells

abbrev pub with_period : Period → State → State
with_period p S = record { period = p; low = S.low; high = S.high; deviation = S.deviation; last = S.last; buys = S.buys; sells = S.sells; register = S.register }

abbrev pub with_terms : ℤ → ℤ → ℕ → State → State
with_terms low high deviation S = record { period = Trading; low = low; high = high; deviation = deviation; last = S.last; buys = S.buys; sells = S.sells; register = S.register }

-- the queues of the side s and of the other side, the last number and the register become these
abbrev pub with_book : Side → List Order → List Order → ℕ → List Trade → State → State
with_book Buy mine theirs k ts S = record { period = S.period; low = S.low; high = S.high; deviation = S.deviation; last = k; buys = mine; sells = theirs; register = ts }
with_book Sell mine theirs k ts S = record { period = S.period; low = S.low; high = S.high; deviation = S.deviation; last = k; buys = theirs; sells = mine; register = ts }

abbrev pub is_unopened : Period → Bool
is_unopened Unopened = true
is_unopened Trading = false
is_unopened Suspended = false

abbrev pub is_trading : Period → Bool
is_trading Unopened = false
is_trading Trading = true
is_trading Suspended = false

abbrev pub is_suspended : Period → Bool
is_suspended Unopened = false
is_suspended Trading = false
is_suspended Suspended = true

-- the resting order with a number, or none
abbrev pub order_numbered : State → ℤ → Option Order
order_numbered S k = at_key (λ o. pos o.number) (S.buys ++ S.sells) k
