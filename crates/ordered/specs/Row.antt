-- The ordered row: a list of items from first to last, under a standing order `before`, each with a key. Assumes nothing.
use Rattle.std.specs.Prelude.{◌≡◌, ℕ, zero, suc, ◌<◌, Bool, true, cond, ◌&&◌, List, [], ◌∷◌, ◌++◌, length, take, drop, ℤ, Some, None, Option, ◌≢◌, slice_index_or}
use Rattle.std.specs.List.{list_all}
use Rattle.ordered.specs.Key.{eq_z}

-- each item stands before all that come after it
abbrev pub in_order : {X : Type 0} → (X → X → Bool) → List X → Bool
in_order before [] = true
in_order before (x ∷ xs) = list_all (before x) xs && in_order before xs

-- where x goes: behind the leading items that stand before it
abbrev pub place : {X : Type 0} → (X → X → Bool) → List X → X → ℕ
place before [] x = zero
place before (y ∷ ys) x = cond (before y x) (suc (place before ys x)) zero

-- the first item with the key k, or none
abbrev pub at_key : {X : Type 0} → (X → ℤ) → List X → ℤ → Option X
at_key key [] k = None
at_key key (x ∷ xs) k = cond (eq_z (key x) k) (Some x) (at_key key xs k)

-- the row with the item at i moved behind all others
abbrev pub to_end : {X : Type 0} → List X → ℕ → List X
to_end xs i = (take i xs ++ drop (suc i) xs) ++ take 1 (drop i xs)

-- no item below the place n has the key k
abbrev pub Lacks : {X : Type 0} → (X → ℤ) → List X → ℤ → ℕ → Type 0
Lacks {X} key xs k n = (i : ℕ) (d : X) → i < n → key (slice_index_or xs i d) ≢ k

-- what a search answers: the place of the first item with the key, and none only where no item has it
abbrev pub Found : {X : Type 0} → (X → ℤ) → List X → ℤ → Option ℕ → Type 0
Found key xs k None = Lacks key xs k (length xs)
Found {X} key xs k (Some i) = (i < length xs) × ((d : X) → key (slice_index_or xs i d) ≡ k) × Lacks key xs k i
