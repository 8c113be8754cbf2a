-- Lists as a scenario shows them. Assumes nothing.
use Rattle.std.specs.Prelude.{ℕ, List, [], ◌∷◌, ◌++◌, codes}
use Rattle.std.specs.Borrow.{Bor}
use Rattle.std.specs.List.{flat_map}

-- each item with the same text before it
abbrev pub each : {T : Type 0} → List ℕ → (T → List ℕ) → List T → List ℕ
each before text items = flat_map (λ x. before ++ text x) items

-- all items, parted by a semicolon and a blank, or that there is none
abbrev pub listed : {T : Type 0} → (T → List ℕ) → List T → List ℕ
listed text [] = codes "none"
listed text (x ∷ xs) = text x ++ each (codes "; ") text xs

-- words parted by one blank
abbrev pub spaced : List (Bor (List ℕ)) → List ℕ
spaced [] = []
spaced (w ∷ ws) = w.now ++ each (codes " ") (λ x. x.now) ws
