-- The widths of columns. Assumes nothing.
use Rattle.std.proofs.Common.{◌≡◌, ℕ, zero, suc, ◌/◌, ◌^◌, ◌≤◌, length, refl, arith}
use native.Mathlib.Nat.{pow-le-pow_right}
use Rattle.std.proofs.lemmas.List.{length-append}
use Rattle.page.specs.Columns.{column, leading}

leading_length : (w n : ℕ) → length (leading w n) ≡ w
leading_length zero n = refl
leading_length (suc w) n = simp length-append (omega (arith, leading_length w (n / 10)))

pub column-length : (w n : ℕ) → length (column w n) ≡ w
column-length zero n = refl
column-length (suc w) n = simp length-append (omega (arith, leading_length w (n / 10)))

pub power_narrow : (w : ℕ) → w ≤ 8 → 10 ^ w ≤ 100000000
power_narrow w h = pow-le-pow_right {n = 10} (omega arith) {i = w} {j = 8} h
