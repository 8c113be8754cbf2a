-- The centre's no. Assumes nothing.
use Rattle.std.specs.Prelude.{Bool, ◌&&◌, [], ◌∷◌, pos}
use Rattle.clearing.specs.declared.side.Side.TheVariants.{Buy, Sell}
use Rattle.dealing.specs.declared.call.Kind.TheVariants.{Limited}
use Rattle.dealing.specs.declared.call.Rest.TheVariants.{Queue as Q, TakeOff as T, InFull as F}
use Rattle.market.specs.QueueRules.{by_rate as rate}
use Rattle.floor_examples.specs.Calls.{buy, buy_market, entry, largest, least, neg, opens, sell, sell_market, withdraws}
use Rattle.floor_examples.specs.Replies.{centre_says, just, ok, refusal}
use Rattle.floor_examples.specs.House.{free, position, prepaid, two_caps}
use Rattle.floor_examples.specs.Ends.{any, buys, line, sells, ◌and◌}
use Rattle.floor_examples.specs.Days.{begun, case, counted, morning, with_line, ◌⇒◌}
use Rattle.floor_examples.specs.Floor.{from_start}

-- by position: an account without a line, limits, lots asked for, a side's most lots, and a layer's depth
abbrev pub denials : Bool
denials =
    case rate (position 50) morning
    (opens 1 100000 50 ⇒ just 60
    ∷ buy Q 999 100 1 ⇒ centre_says 1 0
    ∷ buy Q 999 100 1000000 ⇒ centre_says 1 0
    ∷ buy Q 999 100 0 ⇒ refusal 2
    ∷ buy T 999 100 1 ⇒ centre_says 1 0
    ∷ buy F 999 100 1 ⇒ refusal 7
    ∷ sell_market T 999 1 ⇒ centre_says 1 0
    ∷ entry Buy Limited Q least (pos 100) (pos 1) ⇒ centre_says 1 0
    ∷ entry Sell Limited Q largest (pos 100) (pos 1) ⇒ centre_says 1 0
    ∷ entry Buy Limited Q (neg 101) (pos 100) (pos 1) ⇒ centre_says 1 0
    ∷ buy Q 0 100 1 ⇒ centre_says 1 0
    ∷ buy Q 101 100 51 ⇒ centre_says 3 0
    ∷ buy Q 101 100 50 ⇒ ok 51 1 0 50 0
    ∷ buy Q 101 100 1 ⇒ centre_says 3 0
    ∷ buy T 101 100 1 ⇒ centre_says 3 0
    ∷ sell Q 101 200 50 ⇒ ok 51 2 0 50 0
    ∷ sell Q 101 200 1 ⇒ centre_says 3 0
    ∷ sell Q 102 100 51 ⇒ centre_says 3 0
    ∷ sell Q 102 100 30 ⇒ ok 50 3 30 0 0
    ∷ sell Q 101 200 31 ⇒ centre_says 3 0
    ∷ sell Q 101 200 30 ⇒ ok 51 4 0 30 0
    ∷ sell Q 101 200 1 ⇒ centre_says 3 0
    ∷ buy T 102 100 81 ⇒ centre_says 3 0
    ∷ buy T 102 100 80 ⇒ ok 53 5 0 0 80
    ∷ buy Q 101 1 1 ⇒ centre_says 3 0
    ∷ withdraws 101 1 ⇒ ok 56 1 0 0 20
    ∷ buy Q 101 1 21 ⇒ centre_says 3 0
    ∷ buy Q 101 1 20 ⇒ ok 51 6 0 20 0
    ∷ [])
    (buys (6 ∷ 20 ∷ []) and sells (2 ∷ 50 ∷ 4 ∷ 30 ∷ []) and line 101 (20 ∷ 30 ∷ 80 ∷ 0 ∷ []) and line 102 (0 ∷ 0 ∷ 0 ∷ 30 ∷ []) and line 999 [])
    -- all lots are asked for, also those that would be taken off
    && from_start 50 (buy T 103 7000 51 ⇒ centre_says 3 0) any
    && from_start 50 (buy Q 102 7005 51 ⇒ centre_says 3 0) any
    && from_start 50 (buy F 103 7001 51 ⇒ refusal 7) any
    -- a side's sum is at most 999,999,999
    && case rate (free (position 50).lines) (begun 0 [] [] [] (with_line 103 (counted 0 999999998 0 0)))
    (buy T 103 100 1 ⇒ ok 53 1 0 0 1
    ∷ buy Q 103 100 2 ⇒ centre_says 2 0
    ∷ buy Q 103 100 1 ⇒ ok 51 2 0 1 0
    ∷ buy Q 103 100 1 ⇒ centre_says 2 0
    ∷ sell Q 103 200 1000000 ⇒ ok 51 3 0 1000000 0
    ∷ withdraws 103 2 ⇒ ok 56 2 0 0 1
    ∷ buy_market T 102 1 ⇒ ok 50 4 1 0 0
    ∷ [])
    (line 103 (0 ∷ 999999998 ∷ 999999 ∷ 1 ∷ []))
    && case rate (position 0) (begun 0 [] [] [] (with_line 103 (counted 999999999 0 0 0))) (buy Q 103 100 1 ⇒ centre_says 2 0 ∷ sell Q 103 100 1 ⇒ centre_says 3 0 ∷ []) any
    -- the depth is the centre's
    && case rate (two_caps 60 10) morning (opens 1 1000 0 ⇒ just 60 ∷ buy Q 101 100 11 ⇒ centre_says 4 2 ∷ buy Q 999 100 11 ⇒ centre_says 1 0 ∷ buy Q 101 100 10 ⇒ ok 51 1 0 10 0 ∷ []) (line 101 (10 ∷ 0 ∷ 0 ∷ 0 ∷ []))

-- prepaid: all lots of an account, settled ones too, are within its deposit; a deposit for 50 lots, one that is short of
-- the 51st by 1, and none
abbrev pub deposits : Bool
deposits =
    case rate (prepaid 200 10000) morning
    (opens 1 100000 50 ⇒ just 60
    ∷ buy Q 101 100 30 ⇒ ok 51 1 0 30 0
    ∷ sell Q 101 200 20 ⇒ ok 51 2 0 20 0
    ∷ buy Q 101 100 1 ⇒ centre_says 3 0
    ∷ sell Q 101 200 1 ⇒ centre_says 3 0
    ∷ sell Q 102 100 10 ⇒ ok 50 3 10 0 0
    ∷ sell Q 101 200 1 ⇒ centre_says 3 0
    ∷ buy Q 102 200 41 ⇒ centre_says 3 0
    ∷ buy Q 102 200 40 ⇒ ok 52 4 20 20 0
    ∷ withdraws 101 1 ⇒ ok 56 1 0 0 20
    ∷ sell Q 101 200 21 ⇒ centre_says 3 0
    ∷ sell T 101 201 20 ⇒ ok 53 5 0 0 20
    ∷ buy Q 103 100 51 ⇒ centre_says 3 0
    ∷ buy Q 999 100 1 ⇒ centre_says 1 0
    ∷ [])
    (buys (4 ∷ 20 ∷ []) and sells [] and line 101 (0 ∷ 10 ∷ 0 ∷ 20 ∷ []) and line 102 (20 ∷ 20 ∷ 0 ∷ 10 ∷ []) and line 103 (0 ∷ 0 ∷ 0 ∷ 0 ∷ []))
    && case rate (prepaid 200 10199) morning (opens 1 1000 0 ⇒ just 60 ∷ buy Q 101 100 51 ⇒ centre_says 3 0 ∷ buy Q 101 100 50 ⇒ ok 51 1 0 50 0 ∷ []) any
    && case rate (prepaid 1 0) morning (opens 1 1000 0 ⇒ just 60 ∷ sell T 103 100 1 ⇒ centre_says 3 0 ∷ []) any

-- two caps over a position centre: the lowest layer that says no gives the answer
abbrev pub layers : Bool
layers =
    case rate (two_caps 60 40) morning
    (opens 1 1000 0 ⇒ just 60
    ∷ buy Q 101 100 30 ⇒ ok 51 1 0 30 0
    ∷ buy Q 102 100 30 ⇒ ok 51 2 0 30 0
    ∷ buy Q 102 100 1 ⇒ centre_says 4 1
    ∷ sell Q 103 200 10 ⇒ ok 51 3 0 10 0
    ∷ sell Q 103 200 1 ⇒ centre_says 4 2
    ∷ buy Q 101 100 11 ⇒ centre_says 4 1
    ∷ buy Q 101 100 21 ⇒ centre_says 3 0
    ∷ buy Q 999 100 1 ⇒ centre_says 1 0
    ∷ withdraws 102 2 ⇒ ok 56 2 0 0 30
    ∷ buy Q 103 100 1 ⇒ centre_says 4 2
    ∷ buy Q 102 100 30 ⇒ ok 51 4 0 30 0
    ∷ [])
    (buys (1 ∷ 30 ∷ 4 ∷ 30 ∷ []) and sells (3 ∷ 10 ∷ []) and line 101 (30 ∷ 0 ∷ 0 ∷ 0 ∷ []) and line 102 (30 ∷ 0 ∷ 0 ∷ 0 ∷ []) and line 103 (0 ∷ 0 ∷ 10 ∷ 0 ∷ []))
