-- Withdrawals and reductions. Assumes nothing.
use Rattle.std.specs.Prelude.{Bool, ◌&&◌, [], ◌∷◌, pos}
use Rattle.dealing.specs.declared.call.Call.TheVariants.{Withdraw, Reduce}
use Rattle.dealing.specs.declared.call.Rest.TheVariants.{Queue as Q}
use Rattle.market.specs.QueueRules.{by_rate as rate}
use Rattle.floor_examples.specs.Calls.{buy, largest, least, neg, opens, reduces, sell, withdraws}
use Rattle.floor_examples.specs.Replies.{just, ok, refusal}
use Rattle.floor_examples.specs.House.{position}
use Rattle.floor_examples.specs.Ends.{buys, line, register, sells, ◌and◌}
use Rattle.floor_examples.specs.Days.{case, morning, ◌⇒◌}

-- whose order it is, which lots a reduction may have, and what is left
abbrev pub calls_taking_off : Bool
calls_taking_off =
    case rate (position 50) morning
    (opens 1 100000 50 ⇒ just 60
    ∷ buy Q 101 100 10 ⇒ ok 51 1 0 10 0
    ∷ buy Q 102 100 10 ⇒ ok 51 2 0 10 0
    ∷ buy Q 101 101 7 ⇒ ok 51 3 0 7 0
    ∷ sell Q 102 200 9 ⇒ ok 51 4 0 9 0
    ∷ withdraws 101 9 ⇒ refusal 10
    ∷ withdraws 101 0 ⇒ refusal 10
    ∷ Withdraw (pos 101) (neg 1) ⇒ refusal 10
    ∷ Withdraw (pos 101) largest ⇒ refusal 10
    ∷ Withdraw least least ⇒ refusal 10
    ∷ Withdraw least (pos 1) ⇒ refusal 11
    ∷ Withdraw largest (pos 1) ⇒ refusal 11
    ∷ Withdraw (neg 101) (pos 1) ⇒ refusal 11
    ∷ withdraws 0 1 ⇒ refusal 11
    ∷ withdraws 102 1 ⇒ refusal 11
    ∷ withdraws 101 4 ⇒ refusal 11
    ∷ reduces 101 9 1 ⇒ refusal 10
    ∷ reduces 102 9 0 ⇒ refusal 10
    ∷ Reduce largest least largest ⇒ refusal 10
    ∷ Reduce (pos 101) largest (pos 1) ⇒ refusal 10
    ∷ reduces 102 1 0 ⇒ refusal 11
    ∷ reduces 102 1 99 ⇒ refusal 11
    ∷ Reduce least (pos 1) (pos 1) ⇒ refusal 11
    ∷ reduces 101 1 0 ⇒ refusal 12
    ∷ Reduce (pos 101) (pos 1) (neg 1) ⇒ refusal 12
    ∷ Reduce (pos 101) (pos 1) least ⇒ refusal 12
    ∷ Reduce (pos 101) (pos 1) largest ⇒ refusal 12
    ∷ reduces 101 1 10 ⇒ refusal 12
    ∷ reduces 101 1 11 ⇒ refusal 12
    ∷ reduces 101 1 9 ⇒ ok 57 1 0 1 9
    ∷ reduces 101 1 1 ⇒ refusal 12
    ∷ [])
    (buys (3 ∷ 7 ∷ 1 ∷ 1 ∷ 2 ∷ 10 ∷ []) and sells (4 ∷ 9 ∷ []) and line 101 (8 ∷ 0 ∷ 0 ∷ 0 ∷ []))
    && case rate (position 50) morning
    (opens 1 100000 50 ⇒ just 60
    ∷ buy Q 101 100 10 ⇒ ok 51 1 0 10 0
    ∷ buy Q 102 100 10 ⇒ ok 51 2 0 10 0
    ∷ buy Q 101 101 7 ⇒ ok 51 3 0 7 0
    ∷ sell Q 102 200 9 ⇒ ok 51 4 0 9 0
    ∷ reduces 102 4 8 ⇒ ok 57 4 0 1 8
    ∷ withdraws 102 4 ⇒ ok 56 4 0 0 1
    ∷ withdraws 102 4 ⇒ refusal 10
    ∷ reduces 102 4 1 ⇒ refusal 10
    ∷ withdraws 101 1 ⇒ ok 56 1 0 0 10
    ∷ withdraws 102 2 ⇒ ok 56 2 0 0 10
    ∷ reduces 101 3 3 ⇒ ok 57 3 0 4 3
    ∷ reduces 101 3 3 ⇒ ok 57 3 0 1 3
    ∷ reduces 101 3 3 ⇒ refusal 12
    ∷ [])
    (buys (3 ∷ 1 ∷ []) and sells [] and register [] and line 101 (1 ∷ 0 ∷ 0 ∷ 0 ∷ []) and line 102 (0 ∷ 0 ∷ 0 ∷ 0 ∷ []))
    -- an order of which some lots have traded
    && case rate (position 50) morning
    (opens 1 100000 50 ⇒ just 60
    ∷ buy Q 101 100 10 ⇒ ok 51 1 0 10 0
    ∷ sell Q 102 100 4 ⇒ ok 50 2 4 0 0
    ∷ reduces 101 1 6 ⇒ refusal 12
    ∷ reduces 101 1 5 ⇒ ok 57 1 0 1 5
    ∷ withdraws 101 1 ⇒ ok 56 1 0 0 1
    ∷ withdraws 102 2 ⇒ refusal 10
    ∷ [])
    (buys [] and sells [] and line 101 (0 ∷ 4 ∷ 0 ∷ 0 ∷ []) and line 102 (0 ∷ 0 ∷ 0 ∷ 4 ∷ []))
