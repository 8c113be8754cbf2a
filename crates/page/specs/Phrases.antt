-- Phrases, the 40 columns that one fills, and what makes 28 of them a table. Assumes nothing.
use Rattle.std.specs.Prelude.{◌≡◌, ℕ, suc, ◌-◌, ◌<◌, ◌≤◌, Bool, false, cond, List, [], ◌∷◌, ◌++◌, map, length, replicate, Some, None, Option, ◌==◌, slice_index_or}
use Rattle.std.specs.Str.{bytes_eq}

-- a phrase with blanks up to 40 columns
abbrev pub filled : List ℕ → List ℕ
filled p = p ++ replicate (40 - length p) 32

-- a byte before what is kept of the rest
abbrev pub kept_before : ℕ → List ℕ → List ℕ
kept_before b [] = cond (b == 32) [] (b ∷ [])
kept_before b (c ∷ cs) = b ∷ c ∷ cs

-- the bytes without the blanks at the end
abbrev pub trimmed : List ℕ → List ℕ
trimmed [] = []
trimmed (b ∷ bs) = kept_before b (trimmed bs)

-- the phrases of the rows of a table, which are filled with blanks
abbrev pub phrases : List (List ℕ) → List (List ℕ)
phrases rows = map trimmed rows

abbrev pub ends_blank : List ℕ → Bool
ends_blank [] = false
ends_blank (b ∷ []) = b == 32
ends_blank (b ∷ c ∷ cs) = ends_blank (c ∷ cs)

-- each row has its 40 columns
abbrev pub AllWide : List (List ℕ) → Type 0
AllWide rows = (i : ℕ) → i < length rows → length (slice_index_or rows i []) ≡ 40

-- what holds of a table's phrases: one for each that owns a phrase,
abbrev pub AllThere : List (List ℕ) → Type 0
AllThere ps = length ps ≡ 28

-- no empty one,
abbrev pub NoneEmpty : List (List ℕ) → Type 0
NoneEmpty ps = (i : ℕ) → i < length ps → 0 < length (slice_index_or ps i [])

-- none too long for its columns,
abbrev pub NoneLong : List (List ℕ) → Type 0
NoneLong ps = (i : ℕ) → i < length ps → length (slice_index_or ps i []) ≤ 40

-- none that the blanks after it would make another,
abbrev pub NoneEndsBlank : List (List ℕ) → Type 0
NoneEndsBlank ps = (i : ℕ) → i < length ps → ends_blank (slice_index_or ps i []) ≡ false

-- and no two equal
abbrev pub AllDifferent : List (List ℕ) → Type 0
AllDifferent ps = (i j : ℕ) → (i < j) × (j < length ps) → bytes_eq (slice_index_or ps i []) (slice_index_or ps j []) ≡ false

pub record Table (ps : List (List ℕ)) : Type 0 where
  pub count : AllThere ps
  pub named : NoneEmpty ps
  pub short : NoneLong ps
  pub ended : NoneEndsBlank ps
  pub apart : AllDifferent ps

-- the first place, counted from k, whose phrase fills these columns
abbrev pub found_from : ℕ → List ℕ → List (List ℕ) → Option ℕ
found_from k field [] = None
found_from k field (p ∷ ps) = cond (bytes_eq (filled p) field) (Some k) (found_from (suc k) field ps)
