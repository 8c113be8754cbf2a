-- Entries: lots, the terms of a market entry, the band, numbers, own orders and entries in full. Assumes nothing.
use Rattle.std.specs.Prelude.{Bool, ◌&&◌, List, [], ◌∷◌, ◌++◌, pos}
use Rattle.clearing.specs.declared.side.Side.TheVariants.{Buy, Sell}
use Rattle.dealing.specs.declared.call.Call.TheVariants.{Suspend}
use Rattle.dealing.specs.declared.call.Kind.TheVariants.{Limited, Market}
use Rattle.dealing.specs.declared.call.Rest.TheVariants.{Queue as Q, TakeOff as T, InFull as F}
use Rattle.market.specs.QueueRules.{by_rate as rate}
use Rattle.market.specs.Run.{Day}
use Rattle.floor_examples.specs.Calls.{buy, buy_market, entry, largest, least, neg, opens, reduces, sell, sell_market, withdraws}
use Rattle.floor_examples.specs.Replies.{centre_says, just, ok, refusal}
use Rattle.floor_examples.specs.House.{position}
use Rattle.floor_examples.specs.Ends.{any, buys, line, register, sells, trade, ◌and◌}
use Rattle.floor_examples.specs.Days.{Row, as_made, begun, case, morning, ◌⇒◌}

-- lots, terms of a market entry, the band
abbrev pub ranges : Bool
ranges =
    case rate (position 999999999) morning
    (opens 1 100000 50 ⇒ just 60
    ∷ buy Q 101 7000 0 ⇒ refusal 2
    ∷ sell T 101 7000 0 ⇒ refusal 2
    ∷ entry Buy Limited Q (pos 101) (pos 7000) (neg 1) ⇒ refusal 2
    ∷ entry Buy Limited Q (pos 101) (pos 7000) least ⇒ refusal 2
    ∷ entry Buy Limited Q (pos 101) (pos 7000) largest ⇒ refusal 2
    ∷ buy Q 101 7000 1000001 ⇒ refusal 2
    ∷ buy F 999 0 1000001 ⇒ refusal 2
    ∷ buy_market Q 101 0 ⇒ refusal 2
    ∷ entry Sell Market Q (pos 101) (pos 9) (neg 9) ⇒ refusal 2
    ∷ buy_market Q 101 1 ⇒ refusal 3
    ∷ entry Buy Market T (pos 101) (pos 1) (pos 1) ⇒ refusal 3
    ∷ entry Sell Market F (pos 101) (neg 1) (pos 1) ⇒ refusal 3
    ∷ entry Sell Market T (pos 101) largest (pos 1) ⇒ refusal 3
    ∷ entry Buy Market F (pos 101) least (pos 1) ⇒ refusal 3
    ∷ entry Buy Market Q (pos 999) (pos 7000) (pos 1) ⇒ refusal 3
    ∷ buy_market T 101 1 ⇒ ok 53 1 0 0 1
    ∷ buy Q 101 0 1 ⇒ refusal 4
    ∷ sell Q 101 100001 1 ⇒ refusal 4
    ∷ entry Buy Limited T (pos 101) least (pos 1) ⇒ refusal 4
    ∷ entry Sell Limited F (pos 101) largest (pos 1) ⇒ refusal 4
    ∷ entry Sell Limited F least (neg 7000) (pos 1) ⇒ refusal 4
    ∷ buy Q 101 1 1000000 ⇒ ok 51 2 0 1000000 0
    ∷ sell Q 102 100000 1000000 ⇒ ok 51 3 0 1000000 0
    ∷ sell F 103 1 1000000 ⇒ ok 50 4 1000000 0 0
    ∷ buy F 103 100000 999999 ⇒ ok 50 5 999999 0 0
    ∷ [])
    (buys [] and sells (3 ∷ 1 ∷ []) and register (trade 2 4 101 103 1 1000000 ∷ trade 5 3 103 102 100000 999999 ∷ []))

-- the last order numbers
abbrev pub last_numbers : Bool
last_numbers =
    case rate (position 50) (begun 999998 [] [] [] as_made)
    (buy Q 101 7000 10 ⇒ ok 51 999999 0 10 0
    ∷ buy Q 101 7000 10 ⇒ refusal 5
    ∷ sell Q 101 7000 10 ⇒ refusal 5
    ∷ sell F 102 7000 11 ⇒ refusal 5
    ∷ sell T 102 7000 1 ⇒ refusal 5
    ∷ buy Q 999 7000 51 ⇒ refusal 5
    ∷ buy_market T 101 1 ⇒ refusal 5
    ∷ buy_market Q 101 1 ⇒ refusal 3
    ∷ buy Q 101 0 10 ⇒ refusal 4
    ∷ buy Q 101 7000 0 ⇒ refusal 2
    ∷ reduces 101 999999 3 ⇒ ok 57 999999 0 7 3
    ∷ withdraws 101 999999 ⇒ ok 56 999999 0 0 7
    ∷ buy Q 101 7000 10 ⇒ refusal 5
    ∷ Suspend ⇒ just 58
    ∷ buy Q 101 7000 10 ⇒ refusal 1
    ∷ [])
    (buys [] and sells [] and register [] and line 101 (0 ∷ 0 ∷ 0 ∷ 0 ∷ []))
    -- a refused entry uses no number, and one that is all taken off does
    && case rate (position 50) (begun 999997 [] [] [] as_made)
    (buy Q 101 7000 51 ⇒ centre_says 3 0 ∷ buy T 101 7000 1 ⇒ ok 53 999998 0 0 1 ∷ buy F 101 7000 1 ⇒ refusal 7 ∷ buy T 101 7000 1 ⇒ ok 53 999999 0 0 1 ∷ buy F 101 7000 1 ⇒ refusal 5 ∷ [])
    any

-- two buys that rest
abbrev pub two_buys : List Row
two_buys = opens 1 100000 50 ⇒ just 60 ∷ buy Q 101 7000 10 ⇒ ok 51 1 0 10 0 ∷ buy Q 102 6999 10 ⇒ ok 51 2 0 10 0 ∷ []

-- rows after these two
abbrev pub after_buys : List Row → (Day → Bool) → Bool
after_buys rows ends = case rate (position 50) morning (two_buys ++ rows) ends

-- own orders and entries in full, on the sell side
abbrev pub selling : Bool
selling =
    after_buys
    (sell Q 101 6995 5 ⇒ refusal 6
    ∷ sell F 101 6995 5 ⇒ refusal 6
    ∷ sell F 101 6995 11 ⇒ refusal 6
    ∷ sell T 101 7000 5 ⇒ refusal 6
    ∷ sell_market T 101 5 ⇒ refusal 6
    ∷ sell_market F 101 5 ⇒ refusal 6
    ∷ sell Q 101 6995 51 ⇒ refusal 6
    ∷ sell F 101 7001 5 ⇒ refusal 7
    ∷ sell Q 101 7001 5 ⇒ ok 51 3 0 5 0
    ∷ sell F 102 6999 15 ⇒ refusal 7
    ∷ sell F 103 6999 21 ⇒ refusal 7
    ∷ sell F 103 7000 11 ⇒ refusal 7
    ∷ sell F 103 7001 1 ⇒ refusal 7
    ∷ sell F 999 6999 51 ⇒ refusal 7
    ∷ sell F 103 6999 20 ⇒ ok 50 4 20 0 0
    ∷ [])
    (buys [] and sells (3 ∷ 5 ∷ []) and register (trade 1 4 101 103 7000 10 ∷ trade 2 4 102 103 6999 10 ∷ []) and line 101 (0 ∷ 10 ∷ 5 ∷ 0 ∷ []) and line 102 (0 ∷ 10 ∷ 0 ∷ 0 ∷ []) and line 103 (0 ∷ 0 ∷ 0 ∷ 20 ∷ []))
    && after_buys (sell Q 102 6990 15 ⇒ ok 55 3 10 0 5 ∷ []) (buys (2 ∷ 10 ∷ []) and sells [] and register (trade 1 3 101 102 7000 10 ∷ []) and line 102 (10 ∷ 0 ∷ 0 ∷ 10 ∷ []))
    && after_buys (sell T 102 6999 11 ⇒ ok 55 3 10 0 1 ∷ []) (buys (2 ∷ 10 ∷ []) and sells [])
    && after_buys (sell_market T 102 15 ⇒ ok 55 3 10 0 5 ∷ []) (buys (2 ∷ 10 ∷ []) and sells [])
    && after_buys (sell_market F 102 15 ⇒ refusal 7 ∷ []) (buys (1 ∷ 10 ∷ 2 ∷ 10 ∷ []))
    && after_buys (sell T 102 7000 15 ⇒ ok 54 3 10 0 5 ∷ []) (buys (2 ∷ 10 ∷ []) and sells [])
    && after_buys (sell Q 102 7000 15 ⇒ ok 52 3 10 5 0 ∷ []) (buys (2 ∷ 10 ∷ []) and sells (3 ∷ 5 ∷ []))
    && after_buys (sell Q 102 6990 10 ⇒ ok 50 3 10 0 0 ∷ []) (buys (2 ∷ 10 ∷ []) and sells [])
    && after_buys (sell Q 102 6990 9 ⇒ ok 50 3 9 0 0 ∷ []) (buys (1 ∷ 1 ∷ 2 ∷ 10 ∷ []) and line 101 (1 ∷ 9 ∷ 0 ∷ 0 ∷ []))
    && after_buys (sell Q 103 6990 12 ⇒ ok 50 3 12 0 0 ∷ []) (buys (2 ∷ 8 ∷ []) and register (trade 1 3 101 103 7000 10 ∷ trade 2 3 102 103 6999 2 ∷ []) and line 102 (8 ∷ 2 ∷ 0 ∷ 0 ∷ []))
    && after_buys (sell Q 103 6995 25 ⇒ ok 52 3 20 5 0 ∷ []) (buys [] and sells (3 ∷ 5 ∷ []) and line 103 (0 ∷ 0 ∷ 5 ∷ 20 ∷ []))
    && after_buys (sell Q 103 7001 25 ⇒ ok 51 3 0 25 0 ∷ []) (buys (1 ∷ 10 ∷ 2 ∷ 10 ∷ []) and sells (3 ∷ 25 ∷ []))
    && after_buys (sell T 103 7001 25 ⇒ ok 53 3 0 0 25 ∷ []) (buys (1 ∷ 10 ∷ 2 ∷ 10 ∷ []) and sells [] and line 103 (0 ∷ 0 ∷ 0 ∷ 0 ∷ []))
