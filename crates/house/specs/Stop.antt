-- What stops the reading of a table. Assumes nothing.
use Rattle.std.specs.Prelude.{◌≡◌, Some, None, Ok, Err, Option, Result, ⊤}
use Rattle.house.specs.declared.stop.Stop.{Stop}
use Rattle.house.specs.declared.stop.Stop.TheVariants as stop

-- something in the table is not as it should be
abbrev pub IsRefusal : Stop → Type 0
IsRefusal stop.OutOfMemory = ⊥
IsRefusal (stop.Refused place expected) = ⊤

-- a result shows a meaning, which is none where the result is a refusal
abbrev pub Reads : {A B : Type 0} → (A → B) → Option B → Result A Stop → Type 0
Reads show meaning (Ok x) = meaning ≡ Some (show x)
Reads show meaning (Err e) = IsRefusal e → meaning ≡ None
