-- The words of a line, and the numbers among them. Assumes nothing.
use Rattle.std.specs.Prelude.{ℕ, ◌^◌, Bool, cond, ◌&&◌, List, [], length, filter, map, ℤ, negsuc, pos, Some, None, Ok, Err, Option, Result, ◌==◌, nat_lt, slice_index_or}
use Rattle.std.specs.Borrow.{Bor}
use Rattle.std.specs.Char.{digit_value}
use Rattle.std.specs.List.{list_all, slice_split}
use Rattle.std.specs.Option.{ok_or}
use Rattle.std.specs.Str.Parse.{signed_digits_value, without_leading_sign}
use Rattle.scenario.specs.declared.words.Expected.{Expected}
use Rattle.scenario.specs.declared.words.Expected.TheVariants.{End, Number}

-- the texts of some words
abbrev pub texts : List (Bor (List ℕ)) → List (List ℕ)
texts words = map (λ w. w.now) words

-- the pieces of a line between blanks, without the empty ones
abbrev pub words_of : List ℕ → List (List ℕ)
words_of line = filter (λ w. nat_lt 0 (length w)) (slice_split (λ b. b == 32) line)

-- the word at a place, empty where there is none
abbrev pub word_at : List (List ℕ) → ℕ → List ℕ
word_at ws i = slice_index_or ws i []

-- what so many words ask for, where there are no more
abbrev pub alone : {T : Type 0} → ℕ → List (List ℕ) → T → Result T Expected
alone n ws it = cond (nat_lt n (length ws)) (Err End) (Ok it)

-- digits, at least one
abbrev pub is_numeral : List ℕ → Bool
is_numeral ds = nat_lt 0 (length ds) && list_all (λ b. nat_lt (digit_value b) 10) ds

-- a number from -2 ^ 63 to 2 ^ 63 - 1
abbrev pub in_range : ℤ → Bool
in_range (pos n) = nat_lt n (2 ^ 63)
in_range (negsuc n) = nat_lt n (2 ^ 63)

-- the number that a word writes in digits, after a sign or none
abbrev pub number_of : List ℕ → Option ℤ
number_of w = cond (is_numeral (without_leading_sign w) && in_range (signed_digits_value 10 w)) (Some (signed_digits_value 10 w)) None

abbrev pub number_or : List ℕ → Result ℤ Expected
number_or w = ok_or (number_of w) Number
