-- A word is a number exactly where `parse` reads one. Assumes nothing.
use Rattle.std.proofs.Common.{◌≡◌, ℕ, ◌^◌, Bool, true, false, ◌&&◌, cond, List, [], ◌∷◌, length, ℤ, pos, negsuc, Some, None, Ok, Err, Result, refl, sym, ap}
use Rattle.std.specs.Bool.{Decides}
use Rattle.std.specs.Int.{w64}
use Rattle.std.specs.Char.{digit_value}
use Rattle.std.specs.Prelude.{FitsSigned, nat_lt}
use Rattle.std.specs.List.{list_all}
use Rattle.std.specs.Result.{OkIff, result_ok}
use Rattle.std.specs.Str.Parse.{AllDigits, IsNumeral}
use Rattle.std.proofs.lemmas.Bool.{true≢false}
use Rattle.std.proofs.lemmas.Bool.Decides.{Decides-and, Decides-ltb}
use Rattle.scenario.specs.Texts.{in_range, is_numeral}

all_digits : (ds : List ℕ) → Decides (list_all (λ b. nat_lt (digit_value b) 10) ds) (AllDigits 10 ds)
all_digits [] = (λ _. cc, λ _. refl)
all_digits (b ∷ bs) = Decides-and _ _ (Decides-ltb (digit_value b) 10) (all_digits bs)

numeral : (ds : List ℕ) → Decides (is_numeral ds) (IsNumeral 10 ds)
numeral ds = Decides-and _ _ (Decides-ltb 0 (length ds)) (all_digits ds)

range : (z : ℤ) → Decides (in_range z) (FitsSigned w64 z)
range (pos n) = (λ t. record { sfits = (Decides-ltb n (2 ^ 63)).0 t }, λ fits. (Decides-ltb n (2 ^ 63)).1 fits.sfits)
range (negsuc n) = (λ t. record { sfits = (Decides-ltb n (2 ^ 63)).0 t }, λ fits. (Decides-ltb n (2 ^ 63)).1 fits.sfits)

-- a value exactly where a test holds
decided : {T E P : Type 0} (b : Bool) (r : Result T E) (v : T) → Decides b P → OkIff r P v → result_ok r ≡ cond b (Some v) None
decided true (Ok x) v d is = ap (λ y. Some y) is.1
decided true (Err e) v d not_so = absurd (not_so (d.0 refl))
decided false (Ok x) v d is = absurd (true≢false (sym (d.1 is.0)))
decided false (Err e) v d not_so = refl

pub parsed : {E : Type 0} (ds : List ℕ) (z : ℤ) (r : Result ℤ E) → OkIff r (IsNumeral 10 ds × FitsSigned w64 z) z → result_ok r ≡ cond (is_numeral ds && in_range z) (Some z) None
parsed ds z r is = decided _ r z (Decides-and _ _ (numeral ds) (range z)) is
