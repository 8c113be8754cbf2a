-- What the words of a line ask for, or what was expected at the first one that is wrong. Assumes nothing.
use Rattle.std.specs.Prelude.{ℕ, ◌-◌, Bool, cond, false, List, ℤ, pos, Ok, Err, Some, None, Option, Result, bytes_eq, codes, drop, int_le, is_some, unsigned_abs}
use Rattle.ordered.specs.Key.{eq_z}
use Rattle.clearing.specs.declared.side.Side.{Side}
use Rattle.clearing.specs.declared.side.Side.TheVariants.{Buy, Sell}
use Rattle.dealing.specs.declared.call.Call.{Call}
use Rattle.dealing.specs.declared.call.Call.TheVariants as call
use Rattle.dealing.specs.declared.call.Kind.{Kind}
use Rattle.dealing.specs.declared.call.Kind.TheVariants.{Limited, Market}
use Rattle.dealing.specs.declared.call.Rest.{Rest}
use Rattle.dealing.specs.declared.call.Rest.TheVariants.{Queue, TakeOff, InFull}
use Rattle.scenario.specs.Texts.{alone, number_of, number_or, word_at}
use Rattle.scenario.specs.declared.words.Action.TheVariants as action
use Rattle.scenario.specs.declared.words.Asked.{Asked}
use Rattle.scenario.specs.declared.words.Asked.TheVariants.{Do, Show}
use Rattle.scenario.specs.declared.words.Expected.{Expected}
use Rattle.scenario.specs.declared.words.Expected.TheVariants as expected
use Rattle.scenario.specs.declared.words.View.{View}
use Rattle.scenario.specs.declared.words.View.TheVariants as view

-- the first of two readings, and then the other with it
abbrev pub then : {A B : Type 0} → Result A Expected → (A → Result B Expected) → Result B Expected
then (Ok x) f = f x
then (Err e) f = Err e

abbrev pub side_of : List ℕ → Result Side Expected
side_of w = cond (bytes_eq w (codes "B")) (Ok Buy) (cond (bytes_eq w (codes "S")) (Ok Sell) (Err expected.Side))

abbrev pub kind_of : List ℕ → Result Kind Expected
kind_of w = cond (bytes_eq w (codes "L")) (Ok Limited) (cond (bytes_eq w (codes "M")) (Ok Market) (Err expected.Kind))

abbrev pub rest_of : List ℕ → Result Rest Expected
rest_of w = cond (bytes_eq w (codes "Q")) (Ok Queue) (cond (bytes_eq w (codes "T")) (Ok TakeOff) (cond (bytes_eq w (codes "F")) (Ok InFull) (Err expected.Rest)))

abbrev pub is_one : Option ℤ → Bool
is_one None = false
is_one (Some z) = eq_z z (pos 1)

abbrev pub instrument : List ℕ → Result (Unit {0}) Expected
instrument w = cond (is_one (number_of w)) (Ok tt) (Err expected.Instrument)

-- 1 open LOW HIGH DEVIATION
abbrev pub opening_of : List (List ℕ) → Result Call Expected
opening_of ws =
    then (number_or (word_at ws 2)) (λ low.
    then (number_or (word_at ws 3)) (λ high.
    then (number_or (word_at ws 4)) (λ deviation.
    alone 5 ws (call.Open low high deviation))))

-- 1 enter ACCOUNT SIDE KIND REST PRICE LOTS
abbrev pub entry_of : List (List ℕ) → Result Call Expected
entry_of ws =
    then (number_or (word_at ws 2)) (λ account.
    then (side_of (word_at ws 3)) (λ side.
    then (kind_of (word_at ws 4)) (λ kind.
    then (rest_of (word_at ws 5)) (λ rest.
    then (number_or (word_at ws 6)) (λ price.
    then (number_or (word_at ws 7)) (λ lots.
    alone 8 ws (call.Enter (record { account = account; side = side; kind = kind; rest = rest; price = price; lots = lots }))))))))

-- 1 withdraw ACCOUNT NUMBER
abbrev pub withdrawal_of : List (List ℕ) → Result Call Expected
withdrawal_of ws =
    then (number_or (word_at ws 2)) (λ account.
    then (number_or (word_at ws 3)) (λ number.
    alone 4 ws (call.Withdraw account number)))

-- 1 reduce ACCOUNT NUMBER LOTS
abbrev pub reduction_of : List (List ℕ) → Result Call Expected
reduction_of ws =
    then (number_or (word_at ws 2)) (λ account.
    then (number_or (word_at ws 3)) (λ number.
    then (number_or (word_at ws 4)) (λ lots.
    alone 5 ws (call.Reduce account number lots))))

-- a call by its word
abbrev pub named : List ℕ → List (List ℕ) → Result Call Expected
named w ws =
    cond (bytes_eq w (codes "open")) (opening_of ws)
    (cond (bytes_eq w (codes "enter")) (entry_of ws)
    (cond (bytes_eq w (codes "withdraw")) (withdrawal_of ws)
    (cond (bytes_eq w (codes "reduce")) (reduction_of ws)
    (cond (bytes_eq w (codes "suspend")) (alone 2 ws call.Suspend)
    (cond (bytes_eq w (codes "resume")) (alone 2 ws call.Resume)
    (Err expected.Call))))))

-- the instrument, and the call
abbrev pub call_of : List (List ℕ) → Result Call Expected
call_of ws = then (instrument (word_at ws 0)) (λ _. named (word_at ws 1) ws)

-- how many times more than once
abbrev pub more_than_once : Option ℤ → Result ℕ Expected
more_than_once None = Err expected.Times
more_than_once (Some z) = cond (int_le (pos 1) z) (Ok (unsigned_abs z - 1)) (Err expected.Times)

abbrev pub again_of : List ℕ → Result ℕ Expected
again_of w = more_than_once (number_of w)

abbrev pub view_of : List ℕ → Result View Expected
view_of w =
    cond (bytes_eq w (codes "book")) (Ok view.Book)
    (cond (bytes_eq w (codes "trades")) (Ok view.Trades)
    (cond (bytes_eq w (codes "market")) (Ok view.Market)
    (cond (bytes_eq w (codes "lines")) (Ok view.Lines)
    (Err expected.View))))

-- times N CALL
abbrev pub repeated_of : List (List ℕ) → Result Asked Expected
repeated_of ws =
    then (again_of (word_at ws 1)) (λ n.
    then (call_of (drop 2 ws)) (λ call.
    Ok (Do (action.Call call n))))

-- account ACCOUNT SETTING
abbrev pub account_of : List (List ℕ) → Result Asked Expected
account_of ws =
    then (number_or (word_at ws 1)) (λ account.
    then (number_or (word_at ws 2)) (λ setting.
    alone 3 ws (Do (action.Account account setting))))

-- firm FIRM CAP
abbrev pub firm_of : List (List ℕ) → Result Asked Expected
firm_of ws =
    then (number_or (word_at ws 1)) (λ firm.
    then (number_or (word_at ws 2)) (λ cap'.
    alone 3 ws (Do (action.Firm firm cap'))))

-- the lines are the centre's, and the others name an instrument
abbrev pub of_instrument : View → List (List ℕ) → Result Asked Expected
of_instrument view.Lines ws = alone 2 ws (Show view.Lines)
of_instrument view.Book ws = then (instrument (word_at ws 2)) (λ _. alone 3 ws (Show view.Book))
of_instrument view.Trades ws = then (instrument (word_at ws 2)) (λ _. alone 3 ws (Show view.Trades))
of_instrument view.Market ws = then (instrument (word_at ws 2)) (λ _. alone 3 ws (Show view.Market))

-- show VIEW INSTRUMENT
abbrev pub shown_of : List (List ℕ) → Result Asked Expected
shown_of ws = then (view_of (word_at ws 1)) (λ v. of_instrument v ws)

-- a line that begins with an instrument is one call
abbrev pub called_of : List (List ℕ) → Result Asked Expected
called_of ws =
    cond (is_some (number_of (word_at ws 0)))
    (then (call_of ws) (λ call. Ok (Do (action.Call call 0))))
    (Err expected.Start)

-- a line by its first word
abbrev pub by_word : List ℕ → List (List ℕ) → Result Asked Expected
by_word w ws =
    cond (bytes_eq w (codes "times")) (repeated_of ws)
    (cond (bytes_eq w (codes "account")) (account_of ws)
    (cond (bytes_eq w (codes "firm")) (firm_of ws)
    (cond (bytes_eq w (codes "show")) (shown_of ws)
    (called_of ws))))

abbrev pub asked : List (List ℕ) → Result Asked Expected
asked ws = by_word (word_at ws 0) ws
