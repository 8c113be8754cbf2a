-- How the day of an example ends. Assumes nothing.
use Rattle.std.specs.Prelude.{ℕ, Bool, true, false, ◌&&◌, List, [], ◌∷◌, ℤ, pos, Some, None, Option, ◌==◌}
use Rattle.ordered.specs.Key.{eq_z}
use Rattle.clearing.specs.declared.line.Line.{Line}
use Rattle.market.specs.Order.{lots_of, party}
use Rattle.market.specs.Run.{Day}
use Rattle.market.specs.declared.order.Order.{Order}
use Rattle.market.specs.declared.trade.Party.{Party}
use Rattle.market.specs.declared.trade.Trade.{Trade}
use Rattle.floor_examples.specs.Replies.{same}

infixr 64 ◌and◌
-- whatever the day ends as
abbrev pub any : Day → Bool
any d = true

-- both of two things hold of the end
abbrev pub ◌and◌ : (Day → Bool) → (Day → Bool) → Day → Bool
◌and◌ p q d = p d && q d

-- the numbers and lots of a queue, from first to last
abbrev pub numbers_and_lots : List Order → List ℕ
numbers_and_lots [] = []
numbers_and_lots (o ∷ os) = o.number ∷ lots_of o ∷ numbers_and_lots os

-- the queue of buys holds these orders, by number and lots
abbrev pub buys : List ℕ → Day → Bool
buys expected d = same (numbers_and_lots d.state.buys) expected

-- and the queue of sells these
abbrev pub sells : List ℕ → Day → Bool
sells expected d = same (numbers_and_lots d.state.sells) expected

-- number of the buy and of the sell, account of the buy and of the sell, price, lots
abbrev pub trade_at : ℕ → ℕ → ℕ → ℕ → ℤ → ℕ → Trade
trade_at b s ba sa p n = record { buy = party b (pos ba); sell = party s (pos sa); price = p; lots = n }

-- the same at a price that is not below 0
abbrev pub trade : ℕ → ℕ → ℕ → ℕ → ℕ → ℕ → Trade
trade b s ba sa p n = trade_at b s ba sa (pos p) n

-- two parties are the same order of the same account
abbrev pub same_party : Party → Party → Bool
same_party x y = x.number == y.number && eq_z x.account y.account

-- two trades are equal
abbrev pub same_trade : Trade → Trade → Bool
same_trade x y = same_party x.buy y.buy && same_party x.sell y.sell && eq_z x.price y.price && x.lots == y.lots

-- two registers are equal
abbrev pub same_trades : List Trade → List Trade → Bool
same_trades [] [] = true
same_trades [] (y ∷ ys) = false
same_trades (x ∷ xs) [] = false
same_trades (x ∷ xs) (y ∷ ys) = same_trade x y && same_trades xs ys

-- the register is this one
abbrev pub register : List Trade → Day → Bool
register expected d = same_trades d.state.register expected

-- held and settled, of the buy side and of the sell side; nothing where there is no line
abbrev pub four : Option Line → List ℕ
four None = []
four (Some l) = l.buy.held ∷ l.buy.settled ∷ l.sell.held ∷ l.sell.settled ∷ []

-- the line of an account shows these four counts
abbrev pub line : ℕ → List ℕ → Day → Bool
line a expected d = same (four (d.lines (pos a))) expected
