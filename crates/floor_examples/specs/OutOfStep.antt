-- Orders that the lines of their accounts do not cover. Assumes nothing.
use Rattle.std.specs.Prelude.{Bool, ◌&&◌, [], ◌∷◌, None}
use Rattle.clearing.specs.Centre.{Lines}
use Rattle.dealing.specs.declared.call.Call.TheVariants.{Suspend}
use Rattle.dealing.specs.declared.call.Rest.TheVariants.{Queue as Q, TakeOff as T, InFull as F}
use Rattle.market.specs.QueueRules.{by_rate as rate}
use Rattle.market.specs.Run.{Day}
use Rattle.floor_examples.specs.Calls.{buy, buy_market, reduces, sell, sell_market, withdraws}
use Rattle.floor_examples.specs.Replies.{centre_says, just, ok, refusal}
use Rattle.floor_examples.specs.House.{position}
use Rattle.floor_examples.specs.Ends.{any, buys, line, sells, ◌and◌}
use Rattle.floor_examples.specs.Days.{ask, begun, bid, case, counted, with_line, without_line, ◌⇒◌}

-- three sells of accounts 101 and 102 and a buy of account 103, with lines for 101 and 102 as given
abbrev pub stepped : (Lines → Lines) → Lines → Day
stepped with = begun 4 (bid 4 103 90 3 ∷ []) (ask 1 101 100 5 ∷ ask 2 102 101 5 ∷ ask 3 101 102 5 ∷ []) [] (λ L. with (with_line 103 (counted 3 0 0 0) L))

-- lines that cover less than what rests, no line, and more than what rests
abbrev pub steps : Bool
steps =
    -- account 101 has 10 resting and 9 held
    case rate (position 50) (stepped (λ L. with_line 101 (counted 0 0 9 0) (with_line 102 (counted 0 0 5 0) L)))
    (buy Q 103 100 5 ⇒ refusal 13
    ∷ buy T 103 100 1 ⇒ refusal 13
    ∷ buy_market T 103 1 ⇒ refusal 13
    ∷ buy F 103 100 6 ⇒ refusal 7
    ∷ buy T 101 100 1 ⇒ refusal 6
    ∷ buy Q 103 99 1 ⇒ ok 51 5 0 1 0
    ∷ buy Q 999 100 1 ⇒ refusal 13
    ∷ buy Q 103 100 51 ⇒ refusal 13
    ∷ withdraws 101 1 ⇒ refusal 13
    ∷ reduces 101 3 1 ⇒ refusal 13
    ∷ reduces 101 3 5 ⇒ refusal 12
    ∷ withdraws 102 1 ⇒ refusal 11
    ∷ withdraws 102 2 ⇒ ok 56 2 0 0 5
    ∷ withdraws 103 4 ⇒ ok 56 4 0 0 3
    ∷ sell Q 101 200 1 ⇒ ok 51 6 0 1 0
    ∷ withdraws 101 6 ⇒ refusal 13
    ∷ Suspend ⇒ just 58
    ∷ withdraws 101 6 ⇒ refusal 13
    ∷ [])
    (buys (5 ∷ 1 ∷ []) and sells (1 ∷ 5 ∷ 3 ∷ 5 ∷ 6 ∷ 1 ∷ []) and line 101 (0 ∷ 0 ∷ 10 ∷ 0 ∷ []))
    -- account 102 has no line
    && case rate (position 50) (stepped (λ L. with_line 101 (counted 0 0 10 0) (without_line 102 L)))
    (buy Q 103 101 6 ⇒ refusal 13
    ∷ buy Q 103 102 5 ⇒ ok 50 5 5 0 0
    ∷ buy Q 103 101 1 ⇒ refusal 13
    ∷ buy Q 999 101 1 ⇒ refusal 13
    ∷ buy Q 102 101 1 ⇒ refusal 6
    ∷ withdraws 102 2 ⇒ refusal 13
    ∷ reduces 102 2 1 ⇒ refusal 13
    ∷ reduces 102 2 5 ⇒ refusal 12
    ∷ withdraws 101 3 ⇒ ok 56 3 0 0 5
    ∷ sell F 101 90 3 ⇒ ok 50 6 3 0 0
    ∷ [])
    (buys [] and sells (2 ∷ 5 ∷ []) and line 101 (0 ∷ 0 ∷ 0 ∷ 8 ∷ []) and line 103 (0 ∷ 8 ∷ 0 ∷ 0 ∷ []))
    -- neither settled lots nor those of the other side cover what rests
    && case rate (position 500) (stepped (λ L. with_line 101 (counted 100 100 9 100) (without_line 102 L))) (buy Q 103 100 5 ⇒ refusal 13 ∷ withdraws 101 1 ⇒ refusal 13 ∷ []) any
    -- more held than rests is no fault
    && case rate (position 50) (stepped (λ L. with_line 101 (counted 0 0 11 0) (without_line 102 L))) (buy Q 103 100 4 ⇒ ok 50 5 4 0 0 ∷ withdraws 101 1 ⇒ ok 56 1 0 0 1 ∷ []) (line 101 (0 ∷ 0 ∷ 6 ∷ 4 ∷ []))
    -- the buy's line is gone
    && case rate (position 50) (begun 1 (bid 1 101 100 5 ∷ []) [] [] (λ L a. None)) (sell T 102 100 1 ⇒ refusal 13 ∷ sell T 102 101 1 ⇒ centre_says 1 0 ∷ sell_market F 102 5 ⇒ refusal 13 ∷ withdraws 101 1 ⇒ refusal 13 ∷ []) (buys (1 ∷ 5 ∷ []))
