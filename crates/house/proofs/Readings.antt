-- What was read before what is left. Assumes nothing.
use Rattle.std.proofs.Common.{◌≡◌, List, [], ◌∷◌, ◌++◌, Some, None, Option, refl, ap, append_assoc, sym}
use Rattle.house.specs.Document.{after, before}

-- one more of what was read
pub after_before : {A : Type 0} (xs : List A) (x : A) (o : Option (List A)) → after xs (before x o) ≡ after (xs ++ x ∷ []) o
after_before xs x None = refl
after_before xs x (Some ys) = ap Some (sym (append_assoc xs (x ∷ []) ys))
