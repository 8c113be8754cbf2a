-- A queue one of whose orders is lowered. Assumes nothing.
use Rattle.std.proofs.Common.{◌≡◌, ℕ, ◌+◌, ◌-◌, ◌<◌, ◌≤◌, true, eqb, leb, ◌⊎◌, List, [], ◌∷◌, ◌++◌, sym, refl, ap, ◌∙◌, subst, inl, inr, arith}
use Rattle.std.specs.List.{list_all}
use Rattle.std.proofs.lemmas.Bool.{and_from, and_parts, cases_Bool, cond_both, cond-false, cond-true, eq-eqb, eqb-false, eqb-true, le-leb, leb-false, leb-true, lt-leb, ne_eqb}
use Rattle.ordered.specs.Row.{in_order}
use Rattle.clearing.specs.declared.side.Side.{Side}
use Rattle.market.proofs.Resting.{Distinct, LacksNumber, distinct, gone, rests_once, rests_with, with_lots}
use Rattle.market.specs.Law.{Event, In, Kept, Rests, numbered}
use Rattle.market.specs.Order.{before, left_of, lots_of, lower, lowered, side_of}
use Rattle.market.specs.Rule.{Lawful, Rule}
use Rattle.market.specs.declared.order.Order.{Order}
use Rattle.market.specs.declared.trade.Trade.{Trade}

-- a queue without the number stays as it is
pub lower_absent : (k n : ℕ) (q : List Order) → LacksNumber k q → lower k n q ≡ q
lower_absent k n [] lacks = refl
lower_absent k n (o ∷ q) lacks =
    cond-false (eqb o.number k) _ _ (ne_eqb _ _ (lacks o (inl refl))) ∙ ap (λ l. o ∷ l) (lower_absent k n q (λ p i. lacks p (inr i)))

-- the first order lowered by all its lots leaves
pub lower_first-all : (o : Order) (q : List Order) → lower o.number (lots_of o) (o ∷ q) ≡ q
lower_first-all o q =
    cond-true (eqb o.number o.number) _ _ (eq-eqb _ _ refl) ∙ ap (λ l. l ++ q) (cond-true (leb (lots_of o) (lots_of o)) _ _ (le-leb _ _ (omega arith)))

-- the first order lowered by fewer lots than it has stays first
pub lower_first_part : (o : Order) (n : ℕ) (q : List Order) → n < lots_of o → lower o.number n (o ∷ q) ≡ lowered o n ∷ q
lower_first_part o n q h =
    cond-true (eqb o.number o.number) _ _ (eq-eqb _ _ refl) ∙ ap (λ l. l ++ q) (cond-false (leb (lots_of o) n) _ _ (lt-leb _ _ h))

-- what is in a queue with one order lowered: another order, or the lowered one
pub in_lower : (k n : ℕ) (q : List Order) → Distinct q → (p : Order) → In p (lower k n q) → (In p q × (p.number ≡ k → ⊥)) ⊎ ((o : Order) × In o q × (o.number ≡ k) × (n < lots_of o) × (p ≡ lowered o n))
in_lower k n [] d p i = absurd i
in_lower k n (o ∷ q) d p i =
    cond_both (eqb o.number k) (left_of o n ++ q) (o ∷ lower k n q) (λ l. In p l → (In p (o ∷ q) × (p.number ≡ k → ⊥)) ⊎ ((x : Order) × In x (o ∷ q) × (x.number ≡ k) × (n < lots_of x) × (p ≡ lowered x n)))
    (λ t. let e = eqb-true o.number k t in
    cond_both (leb (lots_of o) n) [] (lowered o n ∷ []) (λ l. In p (l ++ q) → (In p (o ∷ q) × (p.number ≡ k → ⊥)) ⊎ ((x : Order) × In x (o ∷ q) × (x.number ≡ k) × (n < lots_of x) × (p ≡ lowered x n)))
    (λ _ j. inl (inr j, λ f. d.0 p j (f ∙ sym e)))
    (λ more j. ⊎-cases j (λ same. inr (o, inl refl, e, leb-false _ _ more, same)) (λ there. inl (inr there, λ f. d.0 p there (f ∙ sym e)))))
    (λ f j. ⊎-cases j
    (λ same. inl (inl same, λ g. eqb-false o.number k f (ap (λ (x : Order). x.number) (sym same) ∙ g)))
    (λ there. ⊎-cases (in_lower k n q d.1 p there)
    (λ other. inl (inr other.0, other.1))
    (λ it. inr (it.0, inr it.1, it.2, it.3, it.4))))
    i
  where
    ⊎-cases : {A B C : Type 0} → A ⊎ B → (A → C) → (B → C) → C
    ⊎-cases (inl a) f g = f a
    ⊎-cases (inr b) f g = g b

-- every other order stays in the queue
pub in_lower_other : (k n : ℕ) (q : List Order) (p : Order) → In p q → (p.number ≡ k → ⊥) → In p (lower k n q)
in_lower_other k n [] p i ne = absurd i
in_lower_other k n (o ∷ q) p (inl same) ne =
    cond_both (eqb o.number k) (left_of o n ++ q) (o ∷ lower k n q) (In p)
    (λ t. absurd (ne (ap (λ (x : Order). x.number) same ∙ eqb-true o.number k t)))
    (λ f. inl same)
in_lower_other k n (o ∷ q) p (inr i) ne =
    cond_both (eqb o.number k) (left_of o n ++ q) (o ∷ lower k n q) (In p)
    (λ t. cond_both (leb (lots_of o) n) [] (lowered o n ∷ []) (λ l. In p (l ++ q)) (λ _. i) (λ _. inr i))
    (λ f. inr (in_lower_other k n q p i ne))

-- an order lowered by fewer lots than it has stays in the queue
pub in_lower_it : (k n : ℕ) (q : List Order) → Distinct q → (o : Order) → In o q → o.number ≡ k → n < lots_of o → In (lowered o n) (lower k n q)
in_lower_it k n [] d o i e h = absurd i
in_lower_it k n (x ∷ q) d o (inl same) e h =
    cond_both (eqb x.number k) (left_of x n ++ q) (x ∷ lower k n q) (In (lowered o n))
    (λ t. cond_both (leb (lots_of x) n) [] (lowered x n ∷ []) (λ l. In (lowered o n) (l ++ q))
    (λ less. let z = leb-true _ _ less in let y = ap lots_of same in absurd (omega arith))
    (λ _. inl (ap (λ y. lowered y n) same)))
    (λ f. absurd (eqb-false x.number k f (ap (λ (y : Order). y.number) (sym same) ∙ e)))
in_lower_it k n (x ∷ q) d o (inr i) e h =
    cond_both (eqb x.number k) (left_of x n ++ q) (x ∷ lower k n q) (In (lowered o n))
    (λ t. absurd (d.0 o i (e ∙ sym (eqb-true x.number k t))))
    (λ f. inr (in_lower_it k n q d.1 o i e h))

-- x stands before all orders of a queue after one is lowered, since it keeps its price and number
pass_lower : (R : Rule) (x : Order) (k n : ℕ) (q : List Order) → list_all (before R x) q ≡ true → list_all (before R x) (lower k n q) ≡ true
pass_lower R x k n [] all = refl
pass_lower R x k n (o ∷ q) all =
    let both = and_parts (before R x o) _ all in
    cond_both (eqb o.number k) (left_of o n ++ q) (o ∷ lower k n q) (λ l. list_all (before R x) l ≡ true)
    (λ _. cond_both (leb (lots_of o) n) [] (lowered o n ∷ []) (λ l. list_all (before R x) (l ++ q) ≡ true) (λ _. both.1) (λ _. and_from _ _ both.0 both.1))
    (λ _. and_from _ _ both.0 (pass_lower R x k n q both.1))

-- a queue stays in order when one of its orders is lowered
pub in_order_lower : (R : Rule) (k n : ℕ) (q : List Order) → in_order (before R) q ≡ true → in_order (before R) (lower k n q) ≡ true
in_order_lower R k n [] o = refl
in_order_lower R k n (x ∷ q) o =
    let both = and_parts (list_all (before R x) q) _ o in
    cond_both (eqb x.number k) (left_of x n ++ q) (x ∷ lower k n q) (λ l. in_order (before R) l ≡ true)
    (λ _. cond_both (leb (lots_of x) n) [] (lowered x n ∷ []) (λ l. in_order (before R) (l ++ q) ≡ true) (λ _. both.1) (λ _. and_from _ _ both.0 both.1))
    (λ _. and_from _ _ (pass_lower R x k n q both.0) (in_order_lower R k n q both.1))

-- after E' and G', in place of E and G, n lots more have left the order numbered k, and nothing else is told of any order
pub record Shift (E : List Event) (G : List Trade) (E' : List Event) (G' : List Trade) (k n : ℕ) : Type 0 where
  pub entries : (j : ℕ) → numbered E' j ≡ numbered E j
  pub others : (j : ℕ) → (j ≡ k → ⊥) → gone E' G' j ≡ gone E G j
  pub here : gone E' G' k ≡ gone E G k + n

module _ (R : Rule) (lawful : Lawful R) (E E' : List Event) (G G' : List Trade) (k n : ℕ) (shift : Shift E G E' G' k n) where
  -- another order rests as before
  other_rests : (p : Order) → (p.number ≡ k → ⊥) → Rests E G p → Rests E' G' p
  other_rests p ne r = let e = shift.others p.number ne in let l = r.left in rests_with E E' G G' p (lots_of p) (shift.entries _) (omega arith) l r

  other_rested : (p : Order) → (p.number ≡ k → ⊥) → Rests E' G' p → Rests E G p
  other_rested p ne r = let e = shift.others p.number ne in let l = r.left in rests_with E' E G' G p (lots_of p) (sym (shift.entries _)) (omega arith) l r

  -- a queue without the order is kept
  pub kept_apart : (s : Side) (q : List Order) → LacksNumber k q → ((p : Order) → Rests E G p → p.number ≡ k → side_of p ≡ s → ⊥) → Kept R E G s q → Kept R E' G' s q
  kept_apart s q lacks not-here kept = record {
    rest = λ p i. let r = kept.rest p i in (other_rests p (lacks p i) r.0, r.1);
    all = λ p r e. elim (cases_Bool (eqb p.number k)) [
      | inl t ↦ (let z = eqb-true _ _ t in
          let h = shift.here in
          let m = ap (gone E G) z in
          let m' = ap (gone E' G') z in
          absurd (not-here (with_lots p (lots_of p + n)) (rests_with E' E G' G p (lots_of p + n) (sym (shift.entries _)) (omega arith) (let l = r.left in omega arith) r) z e))
      | inr f ↦ kept.all p (other_rested p (eqb-false _ _ f) r) e
    ];
    ordered = kept.ordered;
  }

  -- the queue of the order is kept with the order lowered
  pub kept_lower : (s : Side) (q : List Order) (o : Order) → In o q → o.number ≡ k → n ≤ lots_of o → Kept R E G s q → Kept R E' G' s (lower k n q)
  kept_lower s q o i e h kept =
      let d = distinct R lawful E G q (λ p j. (kept.rest p j).0) kept.ordered in
      let at : (p : Order) → p.number ≡ k → (gone E' G' p.number ≡ gone E G p.number + n) = λ p z. let m = ap (gone E G) z in let m' = ap (gone E' G') z in let y = shift.here in omega arith in
      record {
        rest = λ p j. elim (in_lower k n q d p j) [
          | inl other ↦ (let r = kept.rest p other.0 in (other_rests p other.1 r.0, r.1))
          | inr it ↦ (let x = it.0 in let r = kept.rest x it.1 in let y = at x it.2 in let less = it.3 in
              subst (λ w. Rests E' G' w × (side_of w ≡ s)) (sym it.4) (rests_with E E' G G' x (lots_of x - n) (shift.entries _) (omega arith) (omega arith) r.0, r.1))
        ];
        all = λ p r z. elim (cases_Bool (eqb p.number k)) [
          | inl t ↦ (let g = eqb-true _ _ t in let y = at p g in let l = r.left in
              let was = rests_with E' E G' G p (lots_of p + n) (sym (shift.entries _)) (omega arith) (omega arith) r in
              let same = rests_once E G (with_lots p (lots_of p + n)) o was (kept.rest o i).0 (g ∙ sym e) in
              let m = ap lots_of same in
              let less : n < lots_of o = omega arith in
              let again : lowered o n ≡ p = sym (ap (λ x. lowered x n) same) ∙ ap (with_lots p) (omega arith) in
              subst (λ w. In w (lower k n q)) again (in_lower_it k n q d o i e less))
          | inr f ↦ in_lower_other k n q p (kept.all p (other_rested p (eqb-false _ _ f) r) z) (eqb-false _ _ f)
        ];
        ordered = in_order_lower R k n q kept.ordered;
      }
