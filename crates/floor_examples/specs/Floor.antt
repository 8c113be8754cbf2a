-- The table of the floor's rules, and the further examples from the same start. Assumes nothing.
use Rattle.std.specs.Prelude.{ℕ, Bool, ◌&&◌, List, [], ◌∷◌, ◌++◌}
use Rattle.dealing.specs.declared.call.Rest.TheVariants.{Queue as Q, TakeOff as T, InFull as F}
use Rattle.market.specs.QueueRules.{by_rate as rate}
use Rattle.market.specs.Run.{Day}
use Rattle.market.specs.declared.trade.Trade.{Trade}
use Rattle.floor_examples.specs.Calls.{buy, buy_market, opens, reduces, sell, sell_market, withdraws}
use Rattle.floor_examples.specs.Replies.{centre_says, just, ok, refusal}
use Rattle.floor_examples.specs.House.{position}
use Rattle.floor_examples.specs.Ends.{any, buys, line, register, sells, trade, ◌and◌}
use Rattle.floor_examples.specs.Days.{Row, case, morning, ◌⇒◌}

-- band 1 to 100000, a deviation, and two sells that rest
abbrev pub start : ℕ → List Row
start deviation = opens 1 100000 deviation ⇒ just 60 ∷ sell Q 101 7000 10 ⇒ ok 51 1 0 10 0 ∷ sell Q 102 7001 10 ⇒ ok 51 2 0 10 0 ∷ []

-- one row more from this start, and how the day ends
abbrev pub from_start : ℕ → Row → (Day → Bool) → Bool
from_start deviation r ends = case rate (position 50) morning (start deviation ++ (r ∷ [])) ends

-- the trade with the first sell
abbrev pub at_7000 : ℕ → Trade
at_7000 account = trade 3 1 account 101 7000 10

-- the trade with the second
abbrev pub at_7001 : Trade
at_7001 = trade 3 2 103 102 7001 10

-- the first table of the floor's rules
abbrev pub floor_table : Bool
floor_table =
    from_start 50 (buy Q 102 7005 15 ⇒ ok 55 3 10 0 5) (register (at_7000 102 ∷ []) and buys [] and sells (2 ∷ 10 ∷ []))
    && from_start 50 (buy Q 103 7000 10 ⇒ ok 50 3 10 0 0) (register (at_7000 103 ∷ []) and buys [] and sells (2 ∷ 10 ∷ []))
    && from_start 50 (buy Q 103 7000 12 ⇒ ok 52 3 10 2 0) (register (at_7000 103 ∷ []) and buys (3 ∷ 2 ∷ []) and sells (2 ∷ 10 ∷ []))
    && from_start 50 (buy T 103 7000 12 ⇒ ok 54 3 10 0 2) (register (at_7000 103 ∷ []) and buys [] and sells (2 ∷ 10 ∷ []))
    && from_start 50 (buy F 103 7001 20 ⇒ ok 50 3 20 0 0) (register (at_7000 103 ∷ at_7001 ∷ []) and buys [] and sells [])
    && from_start 50 (buy F 103 7001 21 ⇒ refusal 7) (register [] and buys [] and sells (1 ∷ 10 ∷ 2 ∷ 10 ∷ []))
    && from_start 50 (buy Q 101 7005 5 ⇒ refusal 6) (register [])
    && from_start 50 (buy F 102 7005 15 ⇒ refusal 7) (register [])
    && from_start 50 (buy Q 103 6999 50 ⇒ ok 51 3 0 50 0) (register [] and buys (3 ∷ 50 ∷ []))
    && from_start 50 (buy Q 103 6999 51 ⇒ centre_says 3 0) (register [] and buys [])
    && from_start 0 (buy_market T 103 25 ⇒ ok 54 3 10 0 15) (register (at_7000 103 ∷ []) and sells (2 ∷ 10 ∷ []))
    && from_start 1 (buy_market T 103 25 ⇒ ok 54 3 20 0 5) (register (at_7000 103 ∷ at_7001 ∷ []) and sells [])

-- the centre's lines after two of them
abbrev pub floor_lines : Bool
floor_lines =
    from_start 50 (buy Q 102 7005 15 ⇒ ok 55 3 10 0 5)
    (line 101 (0 ∷ 0 ∷ 0 ∷ 10 ∷ []) and line 102 (0 ∷ 10 ∷ 10 ∷ 0 ∷ []) and line 103 (0 ∷ 0 ∷ 0 ∷ 0 ∷ []) and line 104 [])
    && from_start 50 (buy Q 103 7000 12 ⇒ ok 52 3 10 2 0)
    (line 101 (0 ∷ 0 ∷ 0 ∷ 10 ∷ []) and line 102 (0 ∷ 0 ∷ 10 ∷ 0 ∷ []) and line 103 (2 ∷ 10 ∷ 0 ∷ 0 ∷ []) and line 104 [])

-- the further examples from the same start
abbrev pub floor_further : Bool
floor_further =
    from_start 50 (buy T 102 7000 15 ⇒ ok 54 3 10 0 5) any
    && from_start 50 (buy Q 102 7005 10 ⇒ ok 50 3 10 0 0) any
    && from_start 50 (buy F 101 7005 5 ⇒ refusal 6) any
    && from_start 50 (sell_market T 103 5 ⇒ ok 53 3 0 0 5) any
    && from_start 50 (sell_market F 103 5 ⇒ refusal 7) any
    && from_start 50 (buy Q 999 6999 1 ⇒ centre_says 1 0) any
    && from_start 50 (reduces 101 1 4 ⇒ ok 57 1 0 6 4) (sells (1 ∷ 6 ∷ 2 ∷ 10 ∷ []) and line 101 (0 ∷ 0 ∷ 6 ∷ 0 ∷ []))
    && from_start 50 (reduces 101 1 10 ⇒ refusal 12) any
    && from_start 50 (withdraws 101 1 ⇒ ok 56 1 0 0 10) (sells (2 ∷ 10 ∷ []) and line 101 (0 ∷ 0 ∷ 0 ∷ 0 ∷ []))
    && from_start 50 (withdraws 102 1 ⇒ refusal 11) any
    && from_start 50 (withdraws 102 3 ⇒ refusal 10) any
    && from_start 50 (opens 1 100000 50 ⇒ refusal 1) any
