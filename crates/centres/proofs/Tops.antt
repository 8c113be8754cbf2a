-- The highest of some tables: after it was changed, and after one was put over it. Assumes nothing.
use Rattle.std.proofs.Common.{◌≡◌, ℕ, ◌-◌, ◌<◌, List, [], ◌∷◌, ◌++◌, length, get_or, Some, sym, ap, ◌∙◌, arith, refl, length-append}
use Rattle.std.proofs.Math.ListN.{set, length-set}
use Rattle.std.proofs.lemmas.List.{get_or-set_same, take-set, set-get_or}
use Rattle.std.proofs.Math.Seq.{take-append_seam}
use Rattle.std.proofs.lemmas.Option.{slice_get-get_or}
use Rattle.std.specs.List.{slice_get}
use Rattle.centres.specs.Layers.{top_of, under_top}
use Rattle.centres.specs.declared.firm_table.FirmTable.{FirmTable}

module _ (ts : List FirmTable) (n : ℕ) (length_is : n ≡ length ts) where
  pub top_is : (t : FirmTable) → 0 < n → t ≡ get_or ts (n - 1) t → top_of ts ≡ Some t
  top_is t some read =
      rw (← length_is) (slice_get-get_or ts (n - 1) t (omega arith) ∙ ap Some (sym read))

  pub top_set : (t : FirmTable) → 0 < n → top_of (set ts (n - 1) t) ≡ Some t
  top_set t some =
      let there : length (set ts (n - 1) t) ≡ n = length-set ts (n - 1) t ∙ sym length_is in
      rw there (slice_get-get_or (set ts (n - 1) t) (n - 1) t (omega arith) ∙ ap Some (get_or-set_same ts (n - 1) t t (omega arith)))

  pub under_set : (t : FirmTable) → under_top (set ts (n - 1) t) ≡ under_top ts
  under_set t =
      let there : length (set ts (n - 1) t) ≡ n = length-set ts (n - 1) t ∙ sym length_is in
      rw (there, ← length_is) (take-set ts (n - 1) t)

  pub set_same : (t u : FirmTable) → t ≡ get_or ts (n - 1) t → u ≡ t → set ts (n - 1) u ≡ ts
  set_same t u read same = rw (same, read) (set-get_or ts (n - 1) t)

slice_get-last : {X : Type 0} (xs : List X) (x : X) → slice_get (xs ++ x ∷ []) (length xs) ≡ Some x
slice_get-last [] x = refl
slice_get-last (y ∷ xs) x = slice_get-last xs x

module _ (ts : List FirmTable) (t : FirmTable) where
  put_length : length (ts ++ t ∷ []) - 1 ≡ length ts
  put_length = let e = length-append ts (t ∷ []) in omega arith

  pub top_put : top_of (ts ++ t ∷ []) ≡ Some t
  top_put = rw put_length (slice_get-last ts t)

  pub under_put : under_top (ts ++ t ∷ []) ≡ ts
  under_put = rw put_length (take-append_seam ts (t ∷ []))

-- for what is done to the highest table
pub ruleset tops = (top_is, top_set, under_set, set_same, top_put, under_put)
