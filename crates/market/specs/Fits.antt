-- How large the numbers of a market are: those of its replies, and those of the orders that rest in it. Assumes nothing.
use Rattle.std.specs.Prelude.{◌≡◌, ℕ, ◌≤◌, Bool, true, ◌&&◌, ◌||◌, List, IfErr, IfOk, IfSome, nat_le}
use Rattle.std.specs.List.{list_all}
use Rattle.clearing.specs.Line.{lots_max}
use Rattle.dealing.specs.Replies.{Reply, denial, figures, reply_number}
use Rattle.dealing.specs.declared.outcome.Figures.{Figures}
use Rattle.market.specs.Order.{lots_of}
use Rattle.market.specs.declared.order.Order.{Order}

-- the last order number that is given
abbrev pub number_max : ℕ
number_max = 999999

-- a resting order has a number that is given, and no more lots than one entry
abbrev pub order_fits : Order → Bool
order_fits o = nat_le o.number number_max && nat_le (lots_of o) lots_max

-- all orders of a queue are such orders
abbrev pub orders_fit : List Order → Bool
orders_fit q = list_all order_fits q

-- a market refuses by a number from 1 to 14, and accepts by one from 50 to 60
abbrev pub is_market_number : ℕ → Bool
is_market_number n = nat_le 1 n && nat_le n 14 || nat_le 50 n && nat_le n 60

-- figures have a number that is given, and count no more lots than one entry's
pub record FiguresFit (f : Figures) : Type 0 where
  pub number : f.number ≤ number_max
  pub traded : f.traded ≤ lots_max
  pub resting : f.resting ≤ lots_max
  pub off : f.taken_off ≤ lots_max

-- a reply that a market can give: its number is one of the market's, its figures fit, and its denial comes from no layer
-- above 99
pub record IsMarketReply (reply : Reply) : Type 0 where
  pub number : is_market_number (reply_number reply) ≡ true
  pub figures : IfOk reply (λ o. FiguresFit (figures o))
  pub depth : IfErr reply (λ e. IfSome (denial e) (λ d. d.depth ≤ 99))
