-- A signed number that was passed to a callee is the number itself. Assumes nothing.
use Rattle.std.proofs.Common.{ℤ, subst, w64, SFits, to_z, of_z}
use Rattle.std.proofs.lemmas.Int.{to_z-of_z}

pub passed : (P : ℤ → Type 0) (z : ℤ) → SFits w64 z → P (to_z w64 (of_z w64 z)) → P z
passed P z fits = subst P (to_z-of_z w64 z fits)
