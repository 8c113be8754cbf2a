-- What a row holds under a key, from where the key was found and after an edit. Assumes nothing.
use Rattle.std.proofs.Common.{◌≡◌, ℕ, zero, suc, Bool, true, false, cond, List, [], ◌∷◌, length, get_or, set, ℤ, Some, None, sym, refl, ap, ◌∙◌, inl, inr, suc-le-suc, arith}
use Rattle.std.specs.List.{insert}
use Rattle.std.proofs.lemmas.Bool.{cases_Bool, cond-true, cond-false}
use Rattle.ordered.specs.Key.{eq_z}
use Rattle.ordered.specs.Row.{at_key, Found, Lacks}
use Rattle.ordered.proofs.Keys.{eq_z_true, eq_eq_z, ne_eq_z}

-- two tests that never both hold are made in either order
swapped_tests : {Y : Type 0} (a b : Bool) (u v w : Y) → (a ≡ true → b ≡ true → ⊥) → cond a u (cond b v w) ≡ cond b v (cond a u w)
swapped_tests true true u v w never = absurd (never refl refl)
swapped_tests true false u v w never = refl
swapped_tests false true u v w never = refl
swapped_tests false false u v w never = refl

module _ {X : Type 0} (key : X → ℤ) where
  -- a key that no item of a row has is of no item after the first
  lacks_rest : (x : X) (xs : List X) (k : ℤ) (n : ℕ) → Lacks key (x ∷ xs) k (suc n) → Lacks key xs k n
  lacks_rest x xs k n lacks i d h = lacks (suc i) d (suc-le-suc h)

  -- a key that the first item has holds that item
  first_held : (x : X) (xs : List X) (k : ℤ) → eq_z (key x) k ≡ true → at_key key (x ∷ xs) k ≡ Some x
  first_held x xs k t = cond-true _ _ _ t

  -- a key that the first item has not holds what it holds among the others
  first_passed : (x : X) (xs : List X) (k : ℤ) → eq_z (key x) k ≡ false → at_key key (x ∷ xs) k ≡ at_key key xs k
  first_passed x xs k f = cond-false _ _ _ f

  -- a key that a search found holds the item at the place found
  pub at_key_found : (xs : List X) (k : ℤ) (i : ℕ) → Found key xs k (Some i) → (d : X) → at_key key xs k ≡ Some (get_or xs i d)
  at_key_found [] k i found d = absurd (let h = found.0 in omega arith)
  at_key_found (x ∷ xs) k zero found d = first_held x xs k (eq_eq_z _ _ (found.1 d))
  at_key_found (x ∷ xs) k (suc i) found d =
      let h = found.0 in
      first_passed x xs k (ne_eq_z _ _ (found.2 zero d (omega arith))) ∙ at_key_found xs k i (omega arith, found.1, lacks_rest x xs k i found.2) d

  -- a key that no item has holds nothing, as where a search answered None
  pub at_key_none : (xs : List X) (k : ℤ) → Lacks key xs k (length xs) → at_key key xs k ≡ None
  at_key_none [] k lacks = refl
  at_key_none (x ∷ xs) k lacks =
      first_passed x xs k (ne_eq_z _ _ (lacks zero x (omega arith))) ∙ at_key_none xs k (lacks_rest x xs k (length xs) lacks)

  -- a key that holds nothing is of no item
  pub lacks_from_none : (xs : List X) (k : ℤ) → at_key key xs k ≡ None → Lacks key xs k (length xs)
  lacks_from_none [] k e i d h same = absurd (omega arith)
  lacks_from_none (x ∷ xs) k e zero d h same =
      let z : ◌≡◌ {A = ℕ} 0 1 = cc (first_held x xs k (eq_eq_z _ _ same)) in omega arith
  lacks_from_none (x ∷ xs) k e (suc i) d h same =
      elim (cases_Bool (eq_z (key x) k)) [ inl t ↦ (let z : ◌≡◌ {A = ℕ} 0 1 = cc (first_held x xs k t) in omega arith) | inr f ↦ lacks_from_none xs k (sym (first_passed x xs k f) ∙ e) i d (omega arith) same ]

  -- an item written over the one with its key is what the key then holds, and the other keys hold what they did
  pub at_key-set : (xs : List X) (i : ℕ) (y : X) → Found key xs (key y) (Some i) → (k : ℤ) → at_key key (set xs i y) k ≡ cond (eq_z (key y) k) (Some y) (at_key key xs k)
  at_key-set [] i y found k = absurd (let h = found.0 in omega arith)
  at_key-set (x ∷ xs) zero y found k =
      elim (cases_Bool (eq_z (key y) k)) [ inl t ↦ cond-true _ _ _ t ∙ sym (cond-true _ _ _ t) | inr f ↦ cond-false _ _ _ f ∙ sym (cond-false _ _ _ f ∙ first_passed x xs k (ap (λ z. eq_z z k) (found.1 y) ∙ f)) ]
  at_key-set (x ∷ xs) (suc i) y found k =
      let h = found.0 in
      let other = found.2 zero x (omega arith) in
      ap (cond (eq_z (key x) k) (Some x)) (at_key-set xs i y (omega arith, found.1, lacks_rest x xs (key y) i found.2) k) ∙ swapped_tests (eq_z (key x) k) (eq_z (key y) k) _ _ _ (λ t u. other (eq_z_true _ _ t ∙ sym (eq_z_true _ _ u)))

  -- an item put in, whose key no item has, is what that key then holds, and the other keys hold what they did
  pub at_key_inserted : (xs : List X) (i : ℕ) (x : X) → Lacks key xs (key x) (length xs) → (k : ℤ) → at_key key (insert xs i x) k ≡ cond (eq_z (key x) k) (Some x) (at_key key xs k)
  at_key_inserted [] zero x lacks k = refl
  at_key_inserted [] (suc i) x lacks k = refl
  at_key_inserted (y ∷ ys) zero x lacks k = refl
  at_key_inserted (y ∷ ys) (suc i) x lacks k =
      let other = lacks zero x (omega arith) in
      ap (cond (eq_z (key y) k) (Some y)) (at_key_inserted ys i x (lacks_rest y ys (key x) (length ys) lacks) k) ∙ swapped_tests (eq_z (key y) k) (eq_z (key x) k) _ _ _ (λ t u. other (eq_z_true _ _ t ∙ sym (eq_z_true _ _ u)))
