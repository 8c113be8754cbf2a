-- An example: where its day starts, its calls with the replies expected, and how the day ends. Assumes nothing.
use Rattle.std.specs.Prelude.{ℕ, Bool, true, false, cond, ◌&&◌, List, [], ◌∷◌, map, pos, None}
use Rattle.ordered.specs.Key.{eq_z}
use Rattle.clearing.specs.Centre.{Lines}
use Rattle.clearing.specs.Line.{counts, line_of}
use Rattle.clearing.specs.Table.{with_entry}
use Rattle.clearing.specs.declared.line.Line.{Line}
use Rattle.clearing.specs.declared.side.Side.TheVariants.{Buy, Sell}
use Rattle.dealing.specs.declared.call.Call.{Call}
use Rattle.market.specs.Order.{order_of}
use Rattle.market.specs.Rule.{Rule}
use Rattle.market.specs.Run.{Day, Step, new_day, run}
use Rattle.market.specs.declared.order.Order.{Order}
use Rattle.market.specs.declared.period.Period.TheVariants.{Trading}
use Rattle.market.specs.declared.trade.Trade.{Trade}
use Rattle.floor_examples.specs.Replies.{same, seven}
use Rattle.floor_examples.specs.House.{Centre}

infix 68 ◌⇒◌
-- a call with the reply expected
pub record Row : Type 0 where
  pub call : Call
  pub reply : List ℕ

-- a row of the table
abbrev pub ◌⇒◌ : Call → List ℕ → Row
◌⇒◌ c r = record { call = c; reply = r }

-- each step's reply is the one expected, and there are as many
abbrev pub agree : List Step → List Row → Bool
agree [] [] = true
agree [] (r ∷ rs) = false
agree (s ∷ ss) [] = false
agree (s ∷ ss) (r ∷ rs) = same (seven s.reply) r.reply && agree ss rs

-- the replies are those expected, and the day ends as it should
abbrev pub judged : Day → List Row → (Day → Bool) → Bool
judged d rows ends = agree d.history rows && ends d

-- over a centre, from a start with its lines, the calls give the replies expected, and the day ends as it should
abbrev pub case : Rule → Centre → (Lines → Day) → List Row → (Day → Bool) → Bool
case R C begins rows ends = judged (run R C.own (begins C.lines) (map (λ r. r.call) rows)) rows ends

-- a new market
abbrev pub morning : Lines → Day
morning L = new_day L

-- a trading market with any last number, queues and register, after the lines were changed; band 1 to 100000, deviation 50
abbrev pub begun : ℕ → List Order → List Order → List Trade → (Lines → Lines) → Lines → Day
begun last bs ss ts change L =
    record { state = record { period = Trading; low = pos 1; high = pos 100000; deviation = 50; last = last; buys = bs; sells = ss; register = ts }; lines = change L; history = [] }

-- number, account, price, lots
abbrev pub bid : ℕ → ℕ → ℕ → ℕ → Order
bid k a p n = order_of (pos a) Buy k (pos p) n

-- the same of a sell
abbrev pub ask : ℕ → ℕ → ℕ → ℕ → Order
ask k a p n = order_of (pos a) Sell k (pos p) n

-- the line of an account: buy held, buy settled, sell held, sell settled
abbrev pub counted : ℕ → ℕ → ℕ → ℕ → Line
counted bh bs sh ss = line_of (counts bh bs) (counts sh ss)

-- the lines with that of one account changed
abbrev pub with_line : ℕ → Line → Lines → Lines
with_line a l L = with_entry L (pos a) l

-- the lines with none for one account
abbrev pub without_line : ℕ → Lines → Lines
without_line a L = λ b. cond (eq_z (pos a) b) None (L b)

-- the lines as they are
abbrev pub as_made : Lines → Lines
as_made L = L
