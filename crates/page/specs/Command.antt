-- What a command line calls for. Assumes nothing.
-- Columns are counted from 1: the letters stand in 1 to 4, the three fields in 5 to 15, 16 to 26 and 27 to 37.
use Rattle.std.specs.Prelude.{◌≡◌, ℕ, Bool, true, false, cond, List, length, take, drop, ℤ, Some, None, Ok, Err, Option, Result, ◌==◌, slice_index}
use Rattle.std.specs.Option.{ok_or}
use Rattle.clearing.specs.declared.side.Side.{Side}
use Rattle.clearing.specs.declared.side.Side.TheVariants.{Buy, Sell}
use Rattle.dealing.specs.declared.call.Call.{Call}
use Rattle.dealing.specs.declared.call.Call.TheVariants as call
use Rattle.dealing.specs.declared.call.Kind.{Kind}
use Rattle.dealing.specs.declared.call.Kind.TheVariants.{Limited, Market}
use Rattle.dealing.specs.declared.call.Rest.{Rest}
use Rattle.dealing.specs.declared.call.Rest.TheVariants.{Queue, TakeOff, InFull}
use Rattle.dealing.specs.declared.refusal.Refusal.{Refusal}
use Rattle.dealing.specs.declared.refusal.Refusal.TheVariants.{CommandLength, CommandLetter, CommandNumber}
use Rattle.page.specs.declared.command.Head.{Head}
use Rattle.page.specs.declared.command.Head.TheVariants as head
use Rattle.page.specs.Bytes.{blank, number}

-- f of the value, where there are both
abbrev pub apply : {A B : Type 0} → Option (A → B) → Option A → Option B
apply None o = None
apply (Some f) None = None
apply (Some f) (Some x) = Some (f x)

-- o, where the test holds
abbrev pub where_holds : {A : Type 0} → Bool → Option A → Option A
where_holds true o = o
where_holds false o = None

-- column 2 of an entry: B buy, S sell
abbrev pub side_of : ℕ → Option Side
side_of b = cond (b == 66) (Some Buy) (cond (b == 83) (Some Sell) None)

-- column 3 of an entry: L limited, M market
abbrev pub kind_of : ℕ → Option Kind
kind_of b = cond (b == 76) (Some Limited) (cond (b == 77) (Some Market) None)

-- column 4 of an entry: Q queue the rest, T take it off, F in full or reject
abbrev pub rest_of : ℕ → Option Rest
rest_of b = cond (b == 81) (Some Queue) (cond (b == 84) (Some TakeOff) (cond (b == 70) (Some InFull) None))

-- the six letters
abbrev pub plain_letter : ℕ → Option Head
plain_letter b = cond (b == 79) (Some head.Open) (cond (b == 87) (Some head.Withdraw) (cond (b == 82) (Some head.Reduce) (cond (b == 72) (Some head.Suspend) (cond (b == 71) (Some head.Resume) None))))

-- columns 1 to 4: a letter and three blanks, or E with side, kind and type
abbrev pub head_of : List ℕ → Option Head
head_of bs =
    cond (slice_index bs 0 == 69)
    (apply (apply (apply (Some (λ s k r. head.Enter s k r)) (side_of (slice_index bs 1))) (kind_of (slice_index bs 2))) (rest_of (slice_index bs 3)))
    (where_holds (blank (take 3 (drop 1 bs))) (plain_letter (slice_index bs 0)))

-- the three fields
abbrev pub first : List ℕ → List ℕ
first bs = take 11 (drop 4 bs)

abbrev pub second : List ℕ → List ℕ
second bs = take 11 (drop 15 bs)

abbrev pub third : List ℕ → List ℕ
third bs = take 11 (drop 26 bs)

-- the calls, by their numbers in the sequence of the fields
abbrev pub opening : ℤ → ℤ → ℤ → Call
opening low high deviation = call.Open low high deviation

abbrev pub entry : Side → Kind → Rest → ℤ → ℤ → ℤ → Call
entry s k r account price lots = call.Enter (record { account = account; side = s; kind = k; rest = r; price = price; lots = lots })

abbrev pub withdrawal : ℤ → ℤ → Call
withdrawal account order = call.Withdraw account order

abbrev pub reduction : ℤ → ℤ → ℤ → Call
reduction account order lots = call.Reduce account order lots

-- a number in the first two fields
abbrev pub two_numbers : {A : Type 0} → (ℤ → ℤ → A) → List ℕ → Option A
two_numbers f bs = apply (apply (Some f) (number (first bs))) (number (second bs))

-- a number in each field
abbrev pub three_numbers : {A : Type 0} → (ℤ → ℤ → ℤ → A) → List ℕ → Option A
three_numbers f bs = apply (two_numbers f bs) (number (third bs))

-- what the fields hold for each call: numbers where they are due, and blanks where none is
abbrev pub call_of : Head → List ℕ → Option Call
call_of head.Open bs = three_numbers opening bs
call_of (head.Enter s k r) bs = three_numbers (entry s k r) bs
call_of head.Withdraw bs = where_holds (blank (third bs)) (two_numbers withdrawal bs)
call_of head.Reduce bs = three_numbers reduction bs
call_of head.Suspend bs = where_holds (blank (take 33 (drop 4 bs))) (Some call.Suspend)
call_of head.Resume bs = where_holds (blank (take 33 (drop 4 bs))) (Some call.Resume)

-- the call of a line whose letters are known, or the refusal
abbrev pub call_or_refusal : List ℕ → Option Head → Result Call Refusal
call_or_refusal bs None = Err CommandLetter
call_or_refusal bs (Some h) = ok_or (call_of h bs) CommandNumber

-- the call of a line without its byte 10: first its length is judged, then its letters, then its fields
abbrev pub read_command : List ℕ → Result Call Refusal
read_command bs = cond (length bs == 37) (call_or_refusal bs (head_of bs)) (Err CommandLength)

-- each call has one line
abbrev pub OneLineEach : Type 0
OneLineEach = (a b : List ℕ) (c : Call) → read_command a ≡ Ok c → read_command b ≡ Ok c → a ≡ b
