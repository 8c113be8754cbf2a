-- What becomes of a row in a `Vec` when an item comes or goes. Assumes nothing.
use Rattle.std.specs.Prelude.{◌≡◌, ℕ, ◌+◌, ◌<◌, ◌≤◌, Bool, List, length, Some, None, Ok, Err, vec_items, vec_len, vec_capacity, Option, Result, Vec, slice_index_or}
use Rattle.std.specs.List.{insert, remove}
use Rattle.ordered.specs.Row.{place}

-- an item comes to its place, in the room that was reserved, or is handed back where there is none
abbrev pub Added : {X Z : Type 0} → (X → X → Bool) → Vec X Z → X → Vec X Z → Result ℕ X → Type 0
Added before v x w (Ok i) = (vec_len v < vec_capacity v) × (i ≡ place before (vec_items v) x) × (vec_items w ≡ insert (vec_items v) i x) × (vec_len w ≡ vec_len v + 1) × (vec_capacity w ≡ vec_capacity v)
Added before v x w (Err y) = (vec_capacity v ≤ vec_len v) × (y ≡ x) × (w ≡ v)

-- the item at i goes, and the others keep their order
abbrev pub Taken : {X Z : Type 0} → Vec X Z → ℕ → Vec X Z → Option X → Type 0
Taken v i w (Some x) = (i < vec_len v) × (x ≡ slice_index_or (vec_items v) i x) × (vec_items w ≡ remove (vec_items v) i) × (vec_len w + 1 ≡ vec_len v) × (vec_capacity w ≡ vec_capacity v)
Taken v i w None = (vec_len v ≤ i) × (w ≡ v)

-- the same of a row that holds at most n items, seen as their list
abbrev pub AddedWithin : {X : Type 0} → ℕ → (X → X → Bool) → List X → X → List X → Result ℕ X → Type 0
AddedWithin n before xs x ys (Ok i) = (length xs < n) × (i ≡ place before xs x) × (ys ≡ insert xs i x)
AddedWithin n before xs x ys (Err y) = (length xs ≡ n) × (y ≡ x) × (ys ≡ xs)

abbrev pub TakenOut : {X : Type 0} → List X → ℕ → List X → Option X → Type 0
TakenOut xs i ys (Some x) = (i < length xs) × (x ≡ slice_index_or xs i x) × (ys ≡ remove xs i)
TakenOut xs i ys None = (length xs ≤ i) × (ys ≡ xs)
