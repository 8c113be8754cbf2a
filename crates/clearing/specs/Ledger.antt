-- The rows of a ledger: accounts with their allowance and their line. Assumes nothing.
use Rattle.std.specs.Prelude.{◌≡◌, ℕ, ◌+◌, ◌≤◌, Bool, true, false, ◌&&◌, List, length, ℤ, Some, Ok, Err, Option, Result, int_lt, slice_index_or, refl}
use Rattle.ordered.specs.Row.{Found}
use Rattle.clearing.specs.Account.{account_fits}
use Rattle.clearing.specs.Cause.{denied}
use Rattle.clearing.specs.Centre.{Lines, adjusted, holds}
use Rattle.clearing.specs.Line.{empty, on, sound_line}
use Rattle.clearing.specs.Table.{has_place, seen, with_entry}
use Rattle.clearing.specs.declared.account_line.AccountLine.{AccountLine}
use Rattle.clearing.specs.declared.cause.Cause.TheVariants.{NotHeld}
use Rattle.clearing.specs.declared.cause.Denial.{Denial}
use Rattle.clearing.specs.declared.line.Line.{Line}
use Rattle.clearing.specs.declared.side.Side.{Side}

abbrev pub account_of : AccountLine → ℤ
account_of x = x.account

abbrev pub account_before : AccountLine → AccountLine → Bool
account_before x y = int_lt x.account y.account

abbrev pub row_of : ℤ → ℕ → (l : Line) → sound_line l ≡ true → AccountLine
row_of a n l s = record { account = a; allowance = n; line = l; sound = s }

-- the row of an account with nothing held or settled
abbrev pub opened : ℤ → ℕ → AccountLine
opened a n = row_of a n empty refl

-- the row with another line
abbrev pub with_line : AccountLine → (l : Line) → sound_line l ≡ true → AccountLine
with_line x l s = row_of x.account x.allowance l s

-- the row x with f done to its line is y
abbrev pub Relined : AccountLine → (Line → Line) → AccountLine → Type 0
Relined x f y = (s : sound_line (f x.line) ≡ true) × (y ≡ with_line x (f x.line) s)

-- the lines of the rows: what a centre over them means
abbrev pub lines_of : List AccountLine → Lines
lines_of rows = seen account_of (λ x. x.line) rows

-- the settings of the rows: what the house allows each account
abbrev pub allowances_of : List AccountLine → ℤ → Option ℕ
allowances_of rows = seen account_of (λ x. x.allowance) rows

-- the rows xs with f done to the line of the account a become ys
abbrev pub Adjusted : List AccountLine → ℤ → (Line → Line) → List AccountLine → Type 0
Adjusted xs a f ys = (lines_of ys ≡ adjusted (lines_of xs) a f) × (allowances_of ys ≡ allowances_of xs) × (length ys ≡ length xs)

-- where the row of the account is that holds the lots, or cause 5
abbrev pub Holder : List AccountLine → ℤ → Side → ℕ → Result ℕ Denial → Type 0
Holder xs a s n (Ok i) = Found account_of xs a (Some i) × (holds (lines_of xs a) s n ≡ true) × ((d : AccountLine) → n ≤ (on s (slice_index_or xs i d).line).held)
Holder xs a s n (Err d) = (holds (lines_of xs a) s n ≡ false) × (d ≡ denied NotHeld 0)

-- the rows xs with f done to the line of the account that holds the lots become ys, or by cause 5 they stay
abbrev pub HeldMoved : List AccountLine → ℤ → Side → ℕ → (Line → Line) → List AccountLine → Result (Unit {0}) Denial → Type 0
HeldMoved xs a s n f ys (Ok x) = (holds (lines_of xs a) s n ≡ true) × Adjusted xs a f ys
HeldMoved xs a s n f ys (Err d) = (holds (lines_of xs a) s n ≡ false) × (d ≡ denied NotHeld 0) × (ys ≡ xs)

-- an account that can be added
abbrev pub can_add : List AccountLine → ℤ → Bool
can_add xs a = account_fits a && has_place xs (lines_of xs a)

-- the rows xs with a new account become ys
abbrev pub Added : List AccountLine → ℤ → ℕ → List AccountLine → Type 0
Added xs a n ys = (lines_of ys ≡ with_entry (lines_of xs) a empty) × (allowances_of ys ≡ with_entry (allowances_of xs) a n) × (length ys ≡ length xs + 1)
