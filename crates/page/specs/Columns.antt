-- Numbers in the columns of a page: decimal, right-justified, blanks before them. Assumes nothing.
use Rattle.std.specs.Prelude.{ℕ, zero, suc, ◌+◌, ◌-◌, ◌*◌, ◌/◌, ◌%◌, ◌^◌, Bool, true, cond, ◌&&◌, List, [], ◌∷◌, ◌++◌, ◌==◌, nat_le, nat_lt}
use Rattle.std.specs.Char.{is_ascii_digit}
use Rattle.page.specs.declared.printed.Column.{Column}

-- the digits that stand before others, and blanks before them: none of a number that is used up
abbrev pub leading : ℕ → ℕ → List ℕ
leading zero n = []
leading (suc w) n = leading w (n / 10) ++ cond (n == 0) 32 (48 + n % 10) ∷ []

-- a number in w columns: its last digit always, so that 0 is a digit
abbrev pub column : ℕ → ℕ → List ℕ
column zero n = []
column (suc w) n = leading w (n / 10) ++ (48 + n % 10) ∷ []

-- one column after the other
abbrev pub across : List Column → List ℕ
across [] = []
across (c ∷ cs) = column c.width c.value ++ across cs

abbrev pub width_of : List Column → ℕ
width_of [] = 0
width_of (c ∷ cs) = c.width + width_of cs

-- no column is wider than eight
abbrev pub all_narrow : List Column → Bool
all_narrow [] = true
all_narrow (c ∷ cs) = nat_le c.width 8 && all_narrow cs

-- no number is wider than its column
abbrev pub all_fit : List Column → Bool
all_fit [] = true
all_fit (c ∷ cs) = nat_lt c.value (10 ^ c.width) && all_fit cs

-- what a byte counts as a digit: 0 where it is none
abbrev pub digit_of : ℕ → ℕ
digit_of b = cond (is_ascii_digit b) (b - 48) 0

-- the number that the digits of a column make, after those that make n
abbrev pub numeral : ℕ → List ℕ → ℕ
numeral n [] = n
numeral n (b ∷ bs) = numeral (10 * n + digit_of b) bs
