-- What the orders of a queue say, one place at a time. Assumes nothing.
use Rattle.std.proofs.Common.{◌≡◌, ℕ, zero, suc, ◌-◌, ◌<◌, Bool, true, false, cond, eqb, leb, List, [], ◌∷◌, ◌++◌, length, get_or, set, pos, Some, sym, refl, ap, ◌∙◌, inl, inr, arith}
use Rattle.std.proofs.lemmas.Bool.{cases_Bool, cond-false, cond-true, eq-eqb, leb-false, leb-true, ne_eqb}
use Rattle.ordered.specs.Row.{Found}
use Rattle.clearing.specs.declared.side.Side.TheVariants.{Buy}
use Rattle.market.specs.Order.{lots_of, lower, lowered, order_of}
use Rattle.market.specs.QueueTable.{cleared_at, lowered_at}
use Rattle.market.specs.declared.order.Order.{Order}

-- the order that is found by its number is the one that is lowered
pub lower_found : (q : List Order) (k : ℕ) (i : ℕ) (n : ℕ) → Found (λ o. pos o.number) q (pos k) (Some i) → lower k n q ≡ lowered_at i n q
lower_found [] k i n found = refl
lower_found (o ∷ q) k zero n (within, is, lacks) = cond-true (eqb o.number k) _ _ (eq-eqb _ _ (same_pos (is o)))
  where
    same_pos : {a b : ℕ} → pos a ≡ pos b → a ≡ b
    same_pos e = cc
lower_found (o ∷ q) k (suc i) n (within, is, lacks) =
    cond-false (eqb o.number k) _ _ (ne_eqb _ _ (λ e. lacks 0 o (omega arith) (ap pos e)))
    ∙ ap (λ l. o ∷ l) (lower_found q k i n (omega arith, is, λ j d h. lacks (suc j) d (omega arith)))

-- some order, where one has to be named that is not read
abbrev pub any_order : Order
any_order = order_of (pos 0) Buy 0 (pos 0) 0

-- an order that stands first either way
cond_cons : (b : Bool) (o : Order) (p q : List Order) → cond b (o ∷ p) (o ∷ q) ≡ o ∷ cond b p q
cond_cons true o p q = refl
cond_cons false o p q = refl

-- an order is lowered in its place, and then leaves if it has no lots left
lowered_at_is : (q : List Order) (i n : ℕ) → i < length q → cleared_at i any_order (set q i (lowered (get_or q i any_order) n)) ≡ lowered_at i n q
lowered_at_is [] i n h = absurd (omega arith)
lowered_at_is (o ∷ q) zero n h =
    elim (cases_Bool (leb (lots_of o) n)) [
      | inl t ↦
          let le = leb-true (lots_of o) n t in
          cond-true (eqb (lots_of o - n) 0) _ _ (eq-eqb _ _ (omega arith)) ∙ sym (ap (λ l. l ++ q) (cond-true (leb (lots_of o) n) _ _ t))
      | inr f ↦
          let gt = leb-false (lots_of o) n f in
          cond-false (eqb (lots_of o - n) 0) _ _ (ne_eqb _ _ (λ e. omega arith)) ∙ sym (ap (λ l. l ++ q) (cond-false (leb (lots_of o) n) _ _ f))
    ]
lowered_at_is (o ∷ q) (suc i) n h =
    cond_cons (eqb (lots_of (get_or (set q i (lowered (get_or q i any_order) n)) i any_order)) 0) o _ _ ∙ ap (λ l. o ∷ l) (lowered_at_is q i n (omega arith))

-- the same in two steps, from q to r and from r to s
pub lowered_then_cleared : (q r s : List Order) (i n : ℕ) → i < length q → r ≡ set q i (lowered (get_or q i any_order) n) → s ≡ cleared_at i any_order r → s ≡ lowered_at i n q
lowered_then_cleared q r s i n h is left = left ∙ ap (cleared_at i any_order) is ∙ lowered_at_is q i n h
