-- Periods and openings. Assumes nothing.
use Rattle.std.specs.Prelude.{Bool, ◌&&◌, [], ◌∷◌, pos}
use Rattle.clearing.specs.declared.side.Side.TheVariants.{Buy}
use Rattle.dealing.specs.declared.call.Call.TheVariants.{Open, Suspend, Resume}
use Rattle.dealing.specs.declared.call.Kind.TheVariants.{Limited}
use Rattle.dealing.specs.declared.call.Rest.TheVariants.{Queue as Q, TakeOff as T, InFull as F}
use Rattle.market.specs.QueueRules.{by_rate as rate}
use Rattle.floor_examples.specs.Calls.{buy, entry, largest, least, neg, opens, reduces, sell, sell_market, withdraws}
use Rattle.floor_examples.specs.Replies.{just, ok, refusal}
use Rattle.floor_examples.specs.House.{position}
use Rattle.floor_examples.specs.Ends.{buys, line, register, sells, trade, ◌and◌}
use Rattle.floor_examples.specs.Days.{case, morning, ◌⇒◌}

-- what each period allows, the terms of an opening, and a band of one price
abbrev pub periods : Bool
periods =
    case rate (position 50) morning
    (buy Q 101 7000 10 ⇒ refusal 1
    ∷ buy Q 101 7000 0 ⇒ refusal 1
    ∷ withdraws 101 1 ⇒ refusal 1
    ∷ reduces 101 1 1 ⇒ refusal 1
    ∷ Suspend ⇒ refusal 1
    ∷ Resume ⇒ refusal 1
    ∷ opens 5 4 0 ⇒ refusal 4
    ∷ opens 1 1000000000 0 ⇒ refusal 4
    ∷ Open (neg 1000000000) (pos 5) (pos 0) ⇒ refusal 4
    ∷ opens 1000000000 1000000000 0 ⇒ refusal 4
    ∷ Open (neg 1000000000) (neg 1000000000) (pos 0) ⇒ refusal 4
    ∷ Open (pos 1) (pos 2) (neg 1) ⇒ refusal 4
    ∷ opens 1 2 1000000000 ⇒ refusal 4
    ∷ Open least largest (pos 0) ⇒ refusal 4
    ∷ Open least (pos 0) (pos 0) ⇒ refusal 4
    ∷ Open (pos 0) largest (pos 0) ⇒ refusal 4
    ∷ Open largest least (pos 0) ⇒ refusal 4
    ∷ Open (pos 0) (pos 0) largest ⇒ refusal 4
    ∷ Open (pos 0) (pos 0) least ⇒ refusal 4
    ∷ Open (neg 999999999) (pos 999999999) (pos 999999999) ⇒ just 60
    ∷ opens 1 2 0 ⇒ refusal 1
    ∷ opens 2 1 0 ⇒ refusal 1
    ∷ Resume ⇒ refusal 1
    ∷ Suspend ⇒ just 58
    ∷ Suspend ⇒ refusal 1
    ∷ opens 1 2 0 ⇒ refusal 1
    ∷ buy Q 101 7000 10 ⇒ refusal 1
    ∷ buy Q 101 7000 0 ⇒ refusal 1
    ∷ withdraws 101 1 ⇒ refusal 10
    ∷ reduces 101 1 0 ⇒ refusal 10
    ∷ Resume ⇒ just 59
    ∷ Resume ⇒ refusal 1
    ∷ buy Q 101 7000 10 ⇒ ok 51 1 0 10 0
    ∷ entry Buy Limited Q (pos 101) (neg 999999999) (pos 1) ⇒ ok 51 2 0 1 0
    ∷ entry Buy Limited Q (pos 101) (neg 1000000000) (pos 1) ⇒ refusal 4
    ∷ sell Q 102 999999999 5 ⇒ ok 51 3 0 5 0
    ∷ sell Q 102 1000000000 5 ⇒ refusal 4
    ∷ Suspend ⇒ just 58
    ∷ withdraws 102 1 ⇒ refusal 11
    ∷ reduces 101 1 10 ⇒ refusal 12
    ∷ reduces 101 1 4 ⇒ ok 57 1 0 6 4
    ∷ withdraws 101 2 ⇒ ok 56 2 0 0 1
    ∷ sell T 103 0 10 ⇒ refusal 1
    ∷ Resume ⇒ just 59
    ∷ sell T 103 0 10 ⇒ ok 54 4 6 0 4
    ∷ [])
    (buys [] and sells (3 ∷ 5 ∷ []) and register (trade 1 4 101 103 7000 6 ∷ []) and line 101 (0 ∷ 6 ∷ 0 ∷ 0 ∷ []) and line 102 (0 ∷ 0 ∷ 5 ∷ 0 ∷ []) and line 103 (0 ∷ 0 ∷ 0 ∷ 6 ∷ []))
    -- a band of one price
    && case rate (position 50) morning
    (opens 5 5 0 ⇒ just 60 ∷ buy Q 101 5 1 ⇒ ok 51 1 0 1 0 ∷ buy Q 101 4 1 ⇒ refusal 4 ∷ buy Q 101 6 1 ⇒ refusal 4 ∷ sell Q 102 5 1 ⇒ ok 50 2 1 0 0 ∷ [])
    (buys [] and sells [] and register (trade 1 2 101 102 5 1 ∷ []))
    && case rate (position 50) morning
    (opens 0 0 0 ⇒ just 60 ∷ buy Q 101 0 1 ⇒ ok 51 1 0 1 0 ∷ entry Buy Limited Q (pos 101) (neg 1) (pos 1) ⇒ refusal 4 ∷ sell_market F 102 1 ⇒ ok 50 2 1 0 0 ∷ [])
    (buys [] and sells [] and register (trade 1 2 101 102 0 1 ∷ []))
