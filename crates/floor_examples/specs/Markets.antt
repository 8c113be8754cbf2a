-- Entries at market. Assumes nothing.
use Rattle.std.specs.Prelude.{Bool, ◌&&◌, List, [], ◌∷◌, ◌++◌, pos}
use Rattle.clearing.specs.declared.side.Side.TheVariants.{Buy, Sell}
use Rattle.dealing.specs.declared.call.Call.TheVariants.{Open}
use Rattle.dealing.specs.declared.call.Kind.TheVariants.{Limited}
use Rattle.dealing.specs.declared.call.Rest.TheVariants.{Queue as Q, TakeOff as T, InFull as F}
use Rattle.market.specs.QueueRules.{by_rate as rate, by_yield as yield}
use Rattle.market.specs.Run.{Day}
use Rattle.floor_examples.specs.Calls.{buy, buy_market, entry, neg, opens, sell, sell_market}
use Rattle.floor_examples.specs.Replies.{centre_says, just, ok, refusal}
use Rattle.floor_examples.specs.House.{aloof, position}
use Rattle.floor_examples.specs.Ends.{any, buys, register, sells, trade, trade_at, ◌and◌}
use Rattle.floor_examples.specs.Days.{Row, case, morning, ◌⇒◌}

-- sells at 100, 105, 110 and 111, 2 lots each; deviation 10
abbrev pub four_sells : List Row
four_sells =
    opens 1 100000 10 ⇒ just 60
    ∷ sell Q 101 100 2 ⇒ ok 51 1 0 2 0
    ∷ sell Q 101 110 2 ⇒ ok 51 2 0 2 0
    ∷ sell Q 101 111 2 ⇒ ok 51 3 0 2 0
    ∷ sell Q 102 105 2 ⇒ ok 51 4 0 2 0
    ∷ []

-- rows after these four
abbrev pub after_sells : List Row → (Day → Bool) → Bool
after_sells rows ends = case rate (position 50) morning (four_sells ++ rows) ends

-- deviations, own orders and entries in full
abbrev pub markets : Bool
markets =
    after_sells (buy_market T 103 20 ⇒ ok 54 5 6 0 14 ∷ buy_market T 103 3 ⇒ ok 54 6 2 0 1 ∷ buy_market T 103 1 ⇒ ok 53 7 0 0 1 ∷ buy_market F 103 1 ⇒ refusal 7 ∷ [])
    (sells [] and register (trade 5 1 103 101 100 2 ∷ trade 5 4 103 102 105 2 ∷ trade 5 2 103 101 110 2 ∷ trade 6 3 103 101 111 2 ∷ []))
    && after_sells (buy_market F 103 6 ⇒ ok 50 5 6 0 0 ∷ []) (sells (3 ∷ 2 ∷ []))
    && after_sells (buy_market F 103 7 ⇒ refusal 7 ∷ []) (sells (1 ∷ 2 ∷ 4 ∷ 2 ∷ 2 ∷ 2 ∷ 3 ∷ 2 ∷ []))
    && after_sells (buy_market T 103 5 ⇒ ok 50 5 5 0 0 ∷ []) (sells (2 ∷ 1 ∷ 3 ∷ 2 ∷ []))
    && after_sells (buy_market T 102 20 ⇒ ok 55 5 2 0 18 ∷ []) (sells (4 ∷ 2 ∷ 2 ∷ 2 ∷ 3 ∷ 2 ∷ []))
    && after_sells (buy_market F 102 20 ⇒ refusal 7 ∷ buy_market F 102 2 ⇒ ok 50 5 2 0 0 ∷ []) (sells (4 ∷ 2 ∷ 2 ∷ 2 ∷ 3 ∷ 2 ∷ []))
    && after_sells (buy_market F 101 1 ⇒ refusal 6 ∷ buy_market T 101 1 ⇒ refusal 6 ∷ buy_market T 101 51 ⇒ refusal 6 ∷ []) any
    && after_sells (buy_market T 103 51 ⇒ centre_says 3 0 ∷ buy_market F 103 51 ⇒ refusal 7 ∷ buy_market T 999 1 ⇒ centre_says 1 0 ∷ []) any
    -- deviation 0: only the first price
    && case rate (position 50) morning
    (opens 1 1000 0 ⇒ just 60 ∷ sell Q 101 100 2 ⇒ ok 51 1 0 2 0 ∷ sell Q 102 100 3 ⇒ ok 51 2 0 3 0 ∷ sell Q 101 101 1 ⇒ ok 51 3 0 1 0 ∷ buy_market F 103 6 ⇒ refusal 7 ∷ buy_market T 103 9 ⇒ ok 54 4 5 0 4 ∷ [])
    (sells (3 ∷ 1 ∷ []))
    -- a sell goes down the buys
    && case rate (position 50) morning
    (opens 1 1000 10 ⇒ just 60 ∷ buy Q 101 100 2 ⇒ ok 51 1 0 2 0 ∷ buy Q 102 90 2 ⇒ ok 51 2 0 2 0 ∷ buy Q 101 89 2 ⇒ ok 51 3 0 2 0 ∷ sell_market T 103 9 ⇒ ok 54 4 4 0 5 ∷ [])
    (buys (3 ∷ 2 ∷ []) and register (trade 1 4 101 103 100 2 ∷ trade 2 4 102 103 90 2 ∷ []))
    -- by yield
    && case yield (position 50) morning
    (opens 1 1000 5 ⇒ just 60 ∷ sell Q 101 300 2 ⇒ ok 51 1 0 2 0 ∷ sell Q 102 295 2 ⇒ ok 51 2 0 2 0 ∷ sell Q 101 294 2 ⇒ ok 51 3 0 2 0 ∷ buy_market T 103 9 ⇒ ok 54 4 4 0 5 ∷ [])
    (sells (3 ∷ 2 ∷ []))
    -- prices below 0
    && case rate (position 50) morning
    (Open (neg 100) (pos 100) (pos 10) ⇒ just 60
    ∷ entry Sell Limited Q (pos 101) (neg 5) (pos 2) ⇒ ok 51 1 0 2 0
    ∷ entry Sell Limited Q (pos 102) (pos 5) (pos 2) ⇒ ok 51 2 0 2 0
    ∷ entry Sell Limited Q (pos 101) (pos 6) (pos 2) ⇒ ok 51 3 0 2 0
    ∷ entry Sell Limited Q (pos 102) (neg 4) (pos 2) ⇒ ok 51 4 0 2 0
    ∷ entry Buy Limited Q (pos 103) (neg 6) (pos 1) ⇒ ok 51 5 0 1 0
    ∷ entry Buy Limited T (pos 103) (neg 5) (pos 1) ⇒ ok 50 6 1 0 0
    ∷ buy_market T 103 9 ⇒ ok 54 7 5 0 4
    ∷ entry Sell Limited F (pos 102) (neg 6) (pos 1) ⇒ ok 50 8 1 0 0
    ∷ [])
    (buys [] and sells (3 ∷ 2 ∷ [])
    and register (trade_at 6 1 103 101 (neg 5) 1 ∷ trade_at 7 1 103 101 (neg 5) 1 ∷ trade_at 7 4 103 102 (neg 4) 2 ∷ trade_at 7 2 103 102 (pos 5) 2 ∷ trade_at 5 8 103 102 (neg 6) 1 ∷ []))
    -- the widest band and window
    && case rate (position 50) morning
    (Open (neg 999999999) (pos 999999999) (pos 999999999) ⇒ just 60
    ∷ entry Sell Limited Q (pos 101) (neg 999999999) (pos 1) ⇒ ok 51 1 0 1 0
    ∷ sell Q 102 0 1 ⇒ ok 51 2 0 1 0
    ∷ sell Q 102 1 1 ⇒ ok 51 3 0 1 0
    ∷ sell Q 101 999999999 1 ⇒ ok 51 4 0 1 0
    ∷ buy_market T 103 5 ⇒ ok 54 5 2 0 3
    ∷ buy_market F 103 2 ⇒ ok 50 6 2 0 0
    ∷ [])
    (sells [])
    -- a walk stops at the first order that is not eligible, whatever stands behind it, and both ends of the window are in it
    && case aloof (position 50) morning
    (opens 1 1000 10 ⇒ just 60
    ∷ sell Q 101 100 1 ⇒ ok 51 1 0 1 0
    ∷ sell Q 102 90 1 ⇒ ok 51 2 0 1 0
    ∷ sell Q 101 110 1 ⇒ ok 51 3 0 1 0
    ∷ sell Q 102 111 1 ⇒ ok 51 4 0 1 0
    ∷ sell Q 101 100 1 ⇒ ok 51 5 0 1 0
    ∷ sell Q 103 122 1 ⇒ ok 51 6 0 1 0
    ∷ buy Q 103 500 5 ⇒ ok 51 7 0 5 0
    ∷ buy F 103 500 1 ⇒ refusal 7
    ∷ buy T 102 500 1 ⇒ ok 53 8 0 0 1
    ∷ buy_market T 103 9 ⇒ ok 54 9 3 0 6
    ∷ buy_market T 103 9 ⇒ ok 54 10 1 0 8
    ∷ buy_market T 103 9 ⇒ ok 54 11 1 0 8
    ∷ buy_market T 103 9 ⇒ refusal 6
    ∷ [])
    (buys (7 ∷ 5 ∷ []) and sells (6 ∷ 1 ∷ []))
