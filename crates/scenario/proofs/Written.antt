-- One text written after another.
use Rattle.std.proofs.Common.{List, ℕ, ◌++◌, OnOk}
use Rattle.std.specs.Prelude.{Option, Result, Ok, Err}
use Rattle.std.specs.Io.KnownBytes.{Appends}
use Rattle.std.proofs.KnownBytes.{Appends-trans}

-- bytes that were written, and then those of a call that may have failed
pub appends_then : {T E : Type 0} (a b c : Option (List ℕ)) (bs cs : List ℕ) (r : Result T E) → Appends a b bs → OnOk r (Appends b c cs) → OnOk r (Appends a c (bs ++ cs))
appends_then a b c bs cs (Ok x) p q = Appends-trans a b c bs cs p q
appends_then a b c bs cs (Err e) p q = q
