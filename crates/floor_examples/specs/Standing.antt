-- The standing order, by rate, by yield and by a rule of some house, and long walks. Assumes nothing.
use Rattle.std.specs.Prelude.{Bool, ◌&&◌, [], ◌∷◌, pos, Some}
use Rattle.clearing.specs.Line.{empty}
use Rattle.clearing.specs.declared.side.Side.TheVariants.{Buy, Sell}
use Rattle.dealing.specs.declared.call.Call.TheVariants.{Withdraw, Reduce}
use Rattle.dealing.specs.declared.call.Kind.TheVariants.{Limited, Market}
use Rattle.dealing.specs.declared.call.Rest.TheVariants.{Queue as Q, TakeOff as T, InFull as F}
use Rattle.market.specs.QueueRules.{by_rate as rate, by_yield as yield}
use Rattle.floor_examples.specs.Calls.{buy, entry, largest, least, neg, opens, sell, sell_market}
use Rattle.floor_examples.specs.Replies.{just, ok, refusal}
use Rattle.floor_examples.specs.House.{free, late, position}
use Rattle.floor_examples.specs.Ends.{buys, line, register, sells, trade, ◌and◌}
use Rattle.floor_examples.specs.Days.{case, morning, ◌⇒◌}

-- by rate: ties, and long walks
abbrev pub ties : Bool
ties =
    case rate (position 50) morning
    (opens 1 100000 50 ⇒ just 60
    ∷ sell Q 101 7000 3 ⇒ ok 51 1 0 3 0
    ∷ sell Q 102 7000 4 ⇒ ok 51 2 0 4 0
    ∷ sell Q 101 6999 5 ⇒ ok 51 3 0 5 0
    ∷ sell Q 102 7001 6 ⇒ ok 51 4 0 6 0
    ∷ sell Q 101 7000 2 ⇒ ok 51 5 0 2 0
    ∷ [])
    (sells (3 ∷ 5 ∷ 1 ∷ 3 ∷ 2 ∷ 4 ∷ 5 ∷ 2 ∷ 4 ∷ 6 ∷ []))
    && case rate (position 50) morning
    (opens 1 100000 50 ⇒ just 60
    ∷ sell Q 101 7000 3 ⇒ ok 51 1 0 3 0
    ∷ sell Q 102 7000 4 ⇒ ok 51 2 0 4 0
    ∷ sell Q 101 6999 5 ⇒ ok 51 3 0 5 0
    ∷ sell Q 102 7001 6 ⇒ ok 51 4 0 6 0
    ∷ sell Q 101 7000 2 ⇒ ok 51 5 0 2 0
    ∷ buy Q 103 7000 9 ⇒ ok 50 6 9 0 0
    ∷ buy Q 103 7000 9 ⇒ ok 52 7 5 4 0
    ∷ buy Q 102 7000 2 ⇒ ok 51 8 0 2 0
    ∷ buy Q 101 7000 1 ⇒ ok 51 9 0 1 0
    ∷ buy Q 101 6999 1 ⇒ ok 51 10 0 1 0
    ∷ buy Q 103 7000 1 ⇒ ok 51 11 0 1 0
    ∷ [])
    (buys (7 ∷ 4 ∷ 8 ∷ 2 ∷ 9 ∷ 1 ∷ 11 ∷ 1 ∷ 10 ∷ 1 ∷ []) and sells (4 ∷ 6 ∷ []))
    && case rate (position 50) morning
    (opens 1 100000 50 ⇒ just 60
    ∷ sell Q 101 7000 3 ⇒ ok 51 1 0 3 0
    ∷ sell Q 102 7000 4 ⇒ ok 51 2 0 4 0
    ∷ sell Q 101 6999 5 ⇒ ok 51 3 0 5 0
    ∷ sell Q 102 7001 6 ⇒ ok 51 4 0 6 0
    ∷ sell Q 101 7000 2 ⇒ ok 51 5 0 2 0
    ∷ buy Q 103 7000 9 ⇒ ok 50 6 9 0 0
    ∷ buy Q 103 7000 9 ⇒ ok 52 7 5 4 0
    ∷ buy Q 102 7000 2 ⇒ ok 51 8 0 2 0
    ∷ buy Q 101 7000 1 ⇒ ok 51 9 0 1 0
    ∷ buy Q 101 6999 1 ⇒ ok 51 10 0 1 0
    ∷ buy Q 103 7000 1 ⇒ ok 51 11 0 1 0
    ∷ sell T 101 7000 7 ⇒ ok 55 12 6 0 1
    ∷ sell_market T 102 5 ⇒ ok 54 13 3 0 2
    ∷ [])
    (buys [] and sells (4 ∷ 6 ∷ [])
    and register
    (trade 6 3 103 101 6999 5
    ∷ trade 6 1 103 101 7000 3
    ∷ trade 6 2 103 102 7000 1
    ∷ trade 7 2 103 102 7000 3
    ∷ trade 7 5 103 101 7000 2
    ∷ trade 7 12 103 101 7000 4
    ∷ trade 8 12 102 101 7000 2
    ∷ trade 9 13 101 102 7000 1
    ∷ trade 11 13 103 102 7000 1
    ∷ trade 10 13 101 102 6999 1
    ∷ [])
    and line 101 (0 ∷ 2 ∷ 0 ∷ 16 ∷ [])
    and line 102 (0 ∷ 2 ∷ 6 ∷ 7 ∷ [])
    and line 103 (0 ∷ 19 ∷ 0 ∷ 0 ∷ []))

-- by yield
abbrev pub yields : Bool
yields =
    case yield (position 50) morning
    (opens 1 1000 5 ⇒ just 60
    ∷ sell Q 101 300 10 ⇒ ok 51 1 0 10 0
    ∷ sell Q 102 305 10 ⇒ ok 51 2 0 10 0
    ∷ sell Q 102 300 5 ⇒ ok 51 3 0 5 0
    ∷ buy Q 103 310 5 ⇒ ok 51 4 0 5 0
    ∷ buy Q 103 302 5 ⇒ ok 50 5 5 0 0
    ∷ [])
    (buys (4 ∷ 5 ∷ []) and sells (2 ∷ 5 ∷ 1 ∷ 10 ∷ 3 ∷ 5 ∷ []))
    && case yield (position 50) morning
    (opens 1 1000 5 ⇒ just 60
    ∷ sell Q 101 300 10 ⇒ ok 51 1 0 10 0
    ∷ sell Q 102 305 10 ⇒ ok 51 2 0 10 0
    ∷ sell Q 102 300 5 ⇒ ok 51 3 0 5 0
    ∷ buy Q 103 310 5 ⇒ ok 51 4 0 5 0
    ∷ buy Q 103 302 5 ⇒ ok 50 5 5 0 0
    ∷ buy Q 101 300 12 ⇒ ok 55 6 5 0 7
    ∷ buy F 103 300 16 ⇒ refusal 7
    ∷ buy F 103 301 1 ⇒ refusal 7
    ∷ buy T 103 301 1 ⇒ ok 53 7 0 0 1
    ∷ buy Q 101 300 1 ⇒ refusal 6
    ∷ buy F 103 299 15 ⇒ ok 50 8 15 0 0
    ∷ sell T 101 311 3 ⇒ ok 50 9 3 0 0
    ∷ sell T 101 309 3 ⇒ ok 53 10 0 0 3
    ∷ buy Q 101 308 4 ⇒ ok 51 11 0 4 0
    ∷ buy Q 102 310 1 ⇒ ok 51 12 0 1 0
    ∷ sell Q 101 308 3 ⇒ refusal 6
    ∷ sell Q 102 310 9 ⇒ ok 55 13 6 0 3
    ∷ sell_market T 103 3 ⇒ ok 54 14 1 0 2
    ∷ [])
    (buys [] and sells []
    and register
    (trade 5 2 103 102 305 5
    ∷ trade 6 2 101 102 305 5
    ∷ trade 8 1 103 101 300 10
    ∷ trade 8 3 103 102 300 5
    ∷ trade 4 9 103 101 310 3
    ∷ trade 11 13 101 102 308 4
    ∷ trade 4 13 103 102 310 2
    ∷ trade 12 14 102 103 310 1
    ∷ []))
    -- buys at rest: the lower yield first, and ties by number
    && case yield (position 50) morning
    (opens 1 1000 5 ⇒ just 60 ∷ buy Q 101 310 1 ⇒ ok 51 1 0 1 0 ∷ buy Q 102 308 2 ⇒ ok 51 2 0 2 0 ∷ buy Q 103 310 3 ⇒ ok 51 3 0 3 0 ∷ buy Q 101 308 4 ⇒ ok 51 4 0 4 0 ∷ [])
    (buys (2 ∷ 2 ∷ 4 ∷ 4 ∷ 1 ∷ 1 ∷ 3 ∷ 3 ∷ []))

-- what an entry is to a rule, and what an account may be
abbrev pub strangers : Bool
strangers =
    -- a rule sees an entry under the number that it would get
    case late (position 50) morning
    (opens 1 1000 0 ⇒ just 60
    ∷ sell Q 101 100 5 ⇒ ok 51 1 0 5 0
    ∷ buy F 103 1000 1 ⇒ refusal 7
    ∷ buy Q 103 1000 1 ⇒ ok 51 2 0 1 0
    ∷ buy Q 103 50 1 ⇒ ok 50 3 1 0 0
    ∷ sell Q 102 10 1 ⇒ ok 51 4 0 1 0
    ∷ buy T 103 50 2 ⇒ ok 50 5 2 0 0
    ∷ buy Q 101 50 2 ⇒ refusal 6
    ∷ [])
    (buys (2 ∷ 1 ∷ []) and sells (1 ∷ 3 ∷ []) and register (trade 3 1 103 101 100 1 ∷ trade 5 4 103 102 10 1 ∷ trade 5 1 103 101 100 1 ∷ []))
    -- a centre with a line for every number
    && case rate (free (λ a. Some empty)) morning
    (opens 1 1000 0 ⇒ just 60
    ∷ entry Sell Limited Q least (pos 100) (pos 2) ⇒ ok 51 1 0 2 0
    ∷ entry Sell Limited Q largest (pos 100) (pos 2) ⇒ ok 51 2 0 2 0
    ∷ entry Buy Limited Q least (pos 100) (pos 1) ⇒ refusal 6
    ∷ entry Buy Limited Q largest (pos 100) (pos 3) ⇒ ok 55 3 2 0 1
    ∷ Withdraw least (pos 1) ⇒ refusal 10
    ∷ entry Buy Market T (neg 1) (pos 0) (pos 1) ⇒ ok 50 4 1 0 0
    ∷ Reduce largest (pos 2) (pos 1) ⇒ refusal 12
    ∷ Withdraw (neg 1) (pos 2) ⇒ refusal 11
    ∷ Withdraw largest (pos 2) ⇒ ok 56 2 0 0 1
    ∷ [])
    (buys [] and sells [] and line 0 (0 ∷ 0 ∷ 0 ∷ 0 ∷ []))
