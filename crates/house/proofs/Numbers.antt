-- A key that is a number. Assumes nothing.
use Rattle.std.proofs.Common.{◌≡◌, ℕ, true, ◌&&◌, List, [], ◌∷◌, length, ℤ, pos, negsuc, Ok, Err, Result, refl, arith, inl, inr, nat_lt, FitsSigned}
use Rattle.std.proofs.lemmas.Bool.{and_parts, cases_Bool}
use Rattle.std.proofs.lemmas.Bool.Decides.{nat_tests}
use Rattle.std.specs.Char.{digit_value}
use Rattle.std.specs.Int.{w64}
use Rattle.std.specs.Result.{result_ok}
use Rattle.std.specs.Str.Parse.{AllDigits, IsNumeral, ParsesSigned, signed_digits_value, without_leading_sign}
use Rattle.house.specs.Document.{all_digits, is_number, is_wide, number_of}

all_digits_from : (ds : List ℕ) → AllDigits 10 ds → all_digits ds ≡ true
all_digits_from [] h = refl
all_digits_from (d ∷ ds) h =
    let first : nat_lt (digit_value d) 10 ≡ true = grind (arith, nat_tests, h.0) in
    rw (first, all_digits_from ds h.1)

all_digits_to : (ds : List ℕ) → all_digits ds ≡ true → AllDigits 10 ds
all_digits_to [] h = tt
all_digits_to (d ∷ ds) h =
    let (first, more) = and_parts (nat_lt (digit_value d) 10) (all_digits ds) h in
    (grind (arith, nat_tests, first), all_digits_to ds more)

is_wide_from : (z : ℤ) → FitsSigned w64 z → is_wide z ≡ true
is_wide_from (pos n) h = grind (arith, nat_tests, h.sfits)
is_wide_from (negsuc n) h = grind (arith, nat_tests, h.sfits)

is_wide_to : (z : ℤ) → is_wide z ≡ true → FitsSigned w64 z
is_wide_to (pos n) h = record { sfits = grind (arith, nat_tests, h) }
is_wide_to (negsuc n) h = record { sfits = grind (arith, nat_tests, h) }

is_number_from : (bs : List ℕ) → IsNumeral 10 (without_leading_sign bs) → FitsSigned w64 (signed_digits_value 10 bs) → is_number bs ≡ true
is_number_from bs numeral fits =
    let some : nat_lt 0 (length (without_leading_sign bs)) ≡ true = grind (arith, nat_tests, numeral.0) in
    rw (some, all_digits_from _ numeral.1, is_wide_from _ fits)

is_number_to : (bs : List ℕ) → is_number bs ≡ true → IsNumeral 10 (without_leading_sign bs) × FitsSigned w64 (signed_digits_value 10 bs)
is_number_to bs h =
    let (numeral, wide) = and_parts (nat_lt 0 (length (without_leading_sign bs)) && all_digits (without_leading_sign bs)) (is_wide (signed_digits_value 10 bs)) h in
    let (some, digits) = and_parts (nat_lt 0 (length (without_leading_sign bs))) (all_digits (without_leading_sign bs)) numeral in
    ((grind (arith, nat_tests, some), all_digits_to _ digits), is_wide_to _ wide)

-- what `parse` reads is the number of the key
pub number_read : {E : Type 0} (bs : List ℕ) (r : Result ℤ E) → ParsesSigned w64 10 bs r → result_ok r ≡ number_of bs
number_read bs (Ok z) h = rw (is_number_from bs h.0.0 h.0.1, h.1)
number_read bs (Err e) h = elim (cases_Bool (is_number bs)) [
  | inl is ↦ absurd (h (is_number_to bs is))
  | inr other ↦ rw other
]
