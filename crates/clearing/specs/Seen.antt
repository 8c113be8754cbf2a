-- What a row of items shows by key, through a function f of the item: after one item is replaced, and after one is added.
-- Assumes nothing.
use Rattle.std.specs.Prelude.{◌≡◌, ℕ, ◌<◌, Bool, true, false, cond, List, length, ℤ, is_some, Some, None, Option, nat_lt, slice_index_or, slice_set, refl}
use Rattle.std.proofs.Common.{inl, inr, sym, ap, subst, ◌∙◌}
use Rattle.std.proofs.Math.Path.{fun_ext}
use Rattle.std.specs.Option.{option_map}
use Rattle.std.specs.List.{insert}
use Rattle.std.proofs.lemmas.Bool.{and_parts, cases_Bool, cond-true, cond-false, ltb-true, not-true, true≢false}
use Rattle.ordered.specs.Key.{eq_z}
use Rattle.ordered.specs.Row.{Found, Lacks, at_key}
use Rattle.ordered.proofs.Keys.{eq_z_true}
use Rattle.clearing.specs.Table.{has_place, seen}
use Rattle.ordered.proofs.Lookups.{at_key_found, at_key_none, at_key-set, at_key_inserted, lacks_from_none}

mapped_cond : {X Y : Type 0} (f : X → Y) (b : Bool) (y : X) (o : Option X) → option_map f (cond b (Some y) o) ≡ cond b (Some (f y)) (option_map f o)
mapped_cond f true y o = refl
mapped_cond f false y o = refl

-- where nothing is shown, there is nothing
pub unseen : {X Y : Type 0} (f : X → Y) (o : Option X) → is_some (option_map f o) ≡ false → o ≡ None
unseen f None e = refl
unseen f (Some x) e = absurd (true≢false e)

module _ {X Y : Type 0} (key : X → ℤ) (f : X → Y) where
  -- what is seen at the place of a key
  pub seen_found : (xs : List X) (k : ℤ) (i : ℕ) → Found key xs k (Some i) → (d : X) → seen key f xs k ≡ Some (f (slice_index_or xs i d))
  seen_found xs k i found d = ap (option_map f) (at_key_found key xs k i found d)

  -- nothing is seen at a key that no item has
  pub seen_none : (xs : List X) (k : ℤ) → Lacks key xs k (length xs) → seen key f xs k ≡ None
  seen_none xs k lacks = ap (option_map f) (at_key_none key xs k lacks)

  -- where a place is free for an account, there are fewer than 32 rows, and none for it
  pub has_place_parts : (xs : List X) (k : ℤ) → has_place xs (seen key f xs k) ≡ true → (length xs < 32) × Lacks key xs k (length xs)
  has_place_parts xs k free =
      let parts = and_parts (nat_lt (length xs) 32) _ free in
      (ltb-true (length xs) 32 parts.0, lacks_from_none key xs k (unseen f (at_key key xs k) (not-true _ parts.1)))

  -- one item is replaced by another with its key
  pub seen-set : (xs : List X) (i : ℕ) (y : X) → Found key xs (key y) (Some i) → (k : ℤ) → seen key f (slice_set xs i y) k ≡ cond (eq_z (key y) k) (Some (f y)) (seen key f xs k)
  seen-set xs i y found k =
      ap (option_map f) (at_key-set key xs i y found k) ∙ mapped_cond f (eq_z (key y) k) y (at_key key xs k)

  -- the same is seen where the two show the same
  pub seen_same : (xs : List X) (i : ℕ) (y : X) → Found key xs (key y) (Some i) → f y ≡ f (slice_index_or xs i y) → seen key f (slice_set xs i y) ≡ seen key f xs
  seen_same xs i y found same =
      fun_ext (λ k. elim (cases_Bool (eq_z (key y) k)) [
        | inl e ↦
            let there : seen key f xs k ≡ Some (f (slice_index_or xs i y)) =
            subst (λ b. seen key f xs b ≡ Some (f (slice_index_or xs i y))) (eq_z_true (key y) k e) (seen_found xs (key y) i found y) in
            seen-set xs i y found k ∙ cond-true (eq_z (key y) k) _ _ e ∙ ap Some same ∙ sym there
        | inr e ↦ seen-set xs i y found k ∙ cond-false (eq_z (key y) k) _ _ e
      ])

  -- an item with a new key is added
  pub seen_inserted : (xs : List X) (i : ℕ) (x : X) → Lacks key xs (key x) (length xs) → seen key f (insert xs i x) ≡ (λ k. cond (eq_z (key x) k) (Some (f x)) (seen key f xs k))
  seen_inserted xs i x lacks =
      fun_ext (λ k. ap (option_map f) (at_key_inserted key xs i x lacks k) ∙ mapped_cond f (eq_z (key x) k) x (at_key key xs k))
