-- What keeps a row in order, and what holds of all its items. Assumes nothing.
use Rattle.std.proofs.Common.{◌≡◌, ℕ, zero, suc, ◌<◌, ◌≤◌, Bool, true, false, not, List, [], ◌∷◌, length, get_or, take, set, ℤ, sym, refl, ap, ◌∙◌, suc-le-suc, zero-le, arith}
use mathlib.Core.Path.{fun_ext}
use Rattle.std.specs.List.{list_all, insert, remove}
use Rattle.std.proofs.lemmas.Bool.{and_from, and_parts, cond_both, not_from_false}
use Rattle.ordered.specs.Row.{in_order, place, Lacks}

module _ {X : Type 0} (p : X → Bool) where
  -- all items still pass after one that passes is written over another
  pub all_pass_set : (xs : List X) (i : ℕ) (y : X) → p y ≡ true → list_all p xs ≡ true → list_all p (set xs i y) ≡ true
  all_pass_set [] i y h all = refl
  all_pass_set (x ∷ xs) zero y h all = and_from _ _ h (and_parts (p x) _ all).1
  all_pass_set (x ∷ xs) (suc i) y h all =
      let both = and_parts (p x) _ all in and_from _ _ both.0 (all_pass_set xs i y h both.1)

  -- all items still pass after one that passes is put in
  pub all_pass_inserted : (xs : List X) (i : ℕ) (x : X) → p x ≡ true → list_all p xs ≡ true → list_all p (insert xs i x) ≡ true
  all_pass_inserted [] zero x h all = and_from _ _ h refl
  all_pass_inserted [] (suc i) x h all = and_from _ _ h refl
  all_pass_inserted (y ∷ ys) zero x h all = and_from _ _ h all
  all_pass_inserted (y ∷ ys) (suc i) x h all =
      let both = and_parts (p y) _ all in and_from _ _ both.0 (all_pass_inserted ys i x h both.1)

  -- all items still pass after one is taken out
  pub all_pass_removed : (xs : List X) (i : ℕ) → list_all p xs ≡ true → list_all p (remove xs i) ≡ true
  all_pass_removed [] zero all = refl
  all_pass_removed [] (suc i) all = refl
  all_pass_removed (x ∷ xs) zero all = (and_parts (p x) _ all).1
  all_pass_removed (x ∷ xs) (suc i) all =
      let both = and_parts (p x) _ all in and_from _ _ both.0 (all_pass_removed xs i both.1)

  -- the first items of those that all pass do too
  pub all_pass_take : (xs : List X) (n : ℕ) → list_all p xs ≡ true → list_all p (take n xs) ≡ true
  all_pass_take [] zero all = refl
  all_pass_take [] (suc n) all = refl
  all_pass_take (x ∷ xs) zero all = refl
  all_pass_take (x ∷ xs) (suc n) all =
      let both = and_parts (p x) _ all in and_from _ _ both.0 (all_pass_take xs n both.1)

  -- where all items pass, the one at any place does
  pub all_pass_at : (xs : List X) (i : ℕ) (d : X) → i < length xs → list_all p xs ≡ true → p (get_or xs i d) ≡ true
  all_pass_at [] i d h all = absurd (omega arith)
  all_pass_at (x ∷ xs) zero d h all = (and_parts (p x) _ all).0
  all_pass_at (x ∷ xs) (suc i) d h all = all_pass_at xs i d (omega arith) (and_parts (p x) _ all).1

  -- all items pass a second test that each passes where it passes the first
  pub all_pass_weaker : (q : X → Bool) → ((x : X) → p x ≡ true → q x ≡ true) → (xs : List X) → list_all p xs ≡ true → list_all q xs ≡ true
  all_pass_weaker q so [] all = refl
  all_pass_weaker q so (x ∷ xs) all =
      let both = and_parts (p x) _ all in and_from _ _ (so x both.0) (all_pass_weaker q so xs both.1)

module _ {X : Type 0} (before : X → X → Bool) where
  -- a row in order stays so with an item taken out
  pub in_order_removed : (xs : List X) (i : ℕ) → in_order before xs ≡ true → in_order before (remove xs i) ≡ true
  in_order_removed [] zero o = refl
  in_order_removed [] (suc i) o = refl
  in_order_removed (x ∷ xs) zero o = (and_parts (list_all (before x) xs) _ o).1
  in_order_removed (x ∷ xs) (suc i) o =
      let both = and_parts (list_all (before x) xs) _ o in
      and_from _ _ (all_pass_removed (before x) xs i both.0) (in_order_removed xs i both.1)

  -- the first items of a row in order are in order
  pub in_order-take : (xs : List X) (n : ℕ) → in_order before xs ≡ true → in_order before (take n xs) ≡ true
  in_order-take [] zero o = refl
  in_order-take [] (suc n) o = refl
  in_order-take (x ∷ xs) zero o = refl
  in_order-take (x ∷ xs) (suc n) o =
      let both = and_parts (list_all (before x) xs) _ o in
      and_from _ _ (all_pass_take (before x) xs n both.0) (in_order-take xs n both.1)

  -- a row in order stays so with y written over an item x, where y stands to every item as x does
  pub in_order-set : (xs : List X) (i : ℕ) (x y : X) → i < length xs → x ≡ get_or xs i x → ((z : X) → before y z ≡ before x z) → ((z : X) → before z y ≡ before z x) → in_order before xs ≡ true → in_order before (set xs i y) ≡ true
  in_order-set [] i x y h read left right o = refl
  in_order-set (w ∷ ws) zero x y h read left right o =
      let both = and_parts (list_all (before w) ws) _ o in
      let same : before y ≡ before w = fun_ext left ∙ ap before read in
      and_from _ _ (ap (λ q. list_all q ws) same ∙ both.0) both.1
  in_order-set (w ∷ ws) (suc i) x y h read left right o =
      let both = and_parts (list_all (before w) ws) _ o in
      let t : before w y ≡ true = right w ∙ ap (before w) read ∙ all_pass_at (before w) ws i x (omega arith) both.0 in
      and_from _ _ (all_pass_set (before w) ws i y t both.0) (in_order-set ws i x y (omega arith) read left right both.1)

  -- the place where an item goes is within the row or at its end
  pub place_within : (xs : List X) (x : X) → place before xs x ≤ length xs
  place_within [] x = zero-le
  place_within (y ∷ ys) x = cond_both (before y x) _ _ (λ n. n ≤ suc (length ys)) (λ t. suc-le-suc (place_within ys x)) (λ f. zero-le)

  -- every item below x's place stands before x
  pub before_place : (xs : List X) (x : X) (i : ℕ) (d : X) → i < place before xs x → before (get_or xs i d) x ≡ true
  before_place [] x i d h = absurd (omega arith)
  before_place (y ∷ ys) x zero d h =
      cond_both (before y x) _ _ (λ n. 0 < n → before y x ≡ true) (λ t h. t) (λ f h. absurd (omega arith)) h
  before_place (y ∷ ys) x (suc i) d h =
      cond_both (before y x) _ _ (λ n. suc i < n → before (get_or ys i d) x ≡ true) (λ t h. before_place ys x i d (omega arith)) (λ f h. absurd (omega arith)) h

module _ {X : Type 0} (before : X → X → Bool) (key : X → ℤ) (transitive : (x y z : X) → before x y ≡ true → before y z ≡ true → before x z ≡ true) (decided : (x y : X) → (key x ≡ key y → ⊥) → before x y ≡ not (before y x)) where
  -- x stands before all items of a row if the first of them has another key and does not stand before x
  ahead : (y : X) (ys : List X) (x : X) → in_order before (y ∷ ys) ≡ true → (key y ≡ key x → ⊥) → before y x ≡ false → list_all (before x) (y ∷ ys) ≡ true
  ahead y ys x o other f =
      let t : before x y ≡ true = decided x y (λ e. other (sym e)) ∙ not_from_false _ f in
      and_from _ _ t (all_pass_weaker (before y) (before x) (λ z. transitive x y z t) ys (and_parts (list_all (before y) ys) _ o).0)

  -- in a row in order where no item has x's key, x stands before every item from its place on
  pub after_place : (xs : List X) (x : X) → in_order before xs ≡ true → Lacks key xs (key x) (length xs) → (i : ℕ) (d : X) → place before xs x ≤ i → i < length xs → before x (get_or xs i d) ≡ true
  after_place [] x o lacks i d from h = absurd (omega arith)
  after_place (y ∷ ys) x o lacks zero d from h =
      cond_both (before y x) _ _ (λ n. n ≤ 0 → before x y ≡ true)
      (λ t l. absurd (omega arith))
      (λ f l. all_pass_at (before x) (y ∷ ys) 0 d h (ahead y ys x o (lacks 0 d h) f))
      from
  after_place (y ∷ ys) x o lacks (suc i) d from h =
      let both = and_parts (list_all (before y) ys) _ o in
      cond_both (before y x) _ _ (λ n. n ≤ suc i → before x (get_or ys i d) ≡ true)
      (λ t l. after_place ys x both.1 (λ j e m. lacks (suc j) e (suc-le-suc m)) i d (omega arith) (omega arith))
      (λ f l. all_pass_at (before x) (y ∷ ys) (suc i) d h (ahead y ys x o (lacks 0 d (omega arith)) f))
      from

  -- a row in order stays so with x put in at its place, where no item has x's key
  pub in_order_inserted : (xs : List X) (x : X) → in_order before xs ≡ true → Lacks key xs (key x) (length xs) → in_order before (insert xs (place before xs x) x) ≡ true
  in_order_inserted [] x o lacks = refl
  in_order_inserted (y ∷ ys) x o lacks =
      let both = and_parts (list_all (before y) ys) _ o in
      cond_both (before y x) (suc (place before ys x)) zero (λ n. in_order before (insert (y ∷ ys) n x) ≡ true)
      (λ t. and_from _ _ (all_pass_inserted (before y) ys (place before ys x) x t both.0) (in_order_inserted ys x both.1 (λ i d h. lacks (suc i) d (suc-le-suc h))))
      (λ f. and_from _ _ (ahead y ys x o (lacks zero x (omega arith)) f) o)
