-- A queue that an order joins, and what rests after an entry. Assumes nothing.
use Rattle.std.proofs.Common.{◌≡◌, ℕ, zero, suc, ◌<◌, ◌≤◌, Bool, true, not, ◌&&◌, eqb, ◌⊎◌, List, [], ◌∷◌, ◌++◌, length, get_or, pos, Some, None, sym, refl, ap, ◌∙◌, subst, ap₂, inl, inr, arith}
use Rattle.std.specs.List.{list_all, insert}
use Rattle.std.proofs.lemmas.Bool.{cases_Bool, cond-false, cond-true, eq-eqb, eqb-false, eqb-true, ne_eqb, false≢true}
use Rattle.ordered.specs.Row.{in_order, place}
use Rattle.ordered.proofs.Orders.{in_order_inserted}
use Rattle.clearing.specs.declared.side.Side.{Side}
use Rattle.clearing.specs.declared.side.Side.TheVariants.{Buy, Sell}
use Rattle.dealing.specs.declared.call.Entry.{Entry}
use Rattle.dealing.specs.declared.outcome.Figures.{Figures}
use Rattle.market.proofs.Histories.{numbered-append, or_else_none, total-push}
use Rattle.market.proofs.Resting.{LacksNumber, gone, rests_with, same_order}
use Rattle.market.specs.Calls.{or_else}
use Rattle.market.specs.Law.{Accepted, Event, In, Kept, Rests, accepted_as, entered, lessened_by, numbered}
use Rattle.market.specs.Order.{before, by_side, joined, lots_of, order_of, side_of, sided}
use Rattle.market.specs.Rule.{Lawful, Rule}
use Rattle.market.specs.declared.order.Order.{Order}
use Rattle.market.specs.declared.trade.Trade.{Trade}

-- A standing order over all orders: buys before sells, and by the rule on one side

module _ (R : Rule) (lawful : Lawful R) where
  transitive_at : (x y z : Order) (a b c : Side) → side_of x ≡ a → side_of y ≡ b → side_of z ≡ c → by_side a b (before R x y) ≡ true → by_side b c (before R y z) ≡ true → by_side a c (before R x z) ≡ true
  transitive_at x y z Buy Buy Buy i j k f g = lawful.transitive _ _ _ (i ∙ sym j) (j ∙ sym k) f g
  transitive_at x y z Buy Buy Sell i j k f g = refl
  transitive_at x y z Buy Sell Buy i j k f g = absurd (false≢true g)
  transitive_at x y z Buy Sell Sell i j k f g = refl
  transitive_at x y z Sell Buy Buy i j k f g = absurd (false≢true f)
  transitive_at x y z Sell Buy Sell i j k f g = absurd (false≢true f)
  transitive_at x y z Sell Sell Buy i j k f g = absurd (false≢true g)
  transitive_at x y z Sell Sell Sell i j k f g = lawful.transitive _ _ _ (i ∙ sym j) (j ∙ sym k) f g

  pub sided_transitive : (x y z : Order) → sided R x y ≡ true → sided R y z ≡ true → sided R x z ≡ true
  sided_transitive x y z f g = transitive_at x y z _ _ _ refl refl refl f g

  decided_at : (x y : Order) (a b : Side) → side_of x ≡ a → side_of y ≡ b → (x.number ≡ y.number → ⊥) → by_side a b (before R x y) ≡ not (by_side b a (before R y x))
  decided_at x y Buy Buy i j ne = lawful.decided _ _ (i ∙ sym j) ne
  decided_at x y Buy Sell i j ne = refl
  decided_at x y Sell Buy i j ne = refl
  decided_at x y Sell Sell i j ne = lawful.decided _ _ (i ∙ sym j) ne

  pub sided_decided : (x y : Order) → (pos x.number ≡ pos y.number → ⊥) → sided R x y ≡ not (sided R y x)
  sided_decided x y ne = decided_at x y _ _ refl refl (λ e. ne (ap pos e))

-- On one side it is the rule's

by_one_side : (s : Side) (b : Bool) → by_side s s b ≡ b
by_one_side Buy b = refl
by_one_side Sell b = refl

abbrev pub OneSided : Side → List Order → Type 0
OneSided s q = (o : Order) → In o q → side_of o ≡ s

module _ (R : Rule) (s : Side) where
  sided_is : (x y : Order) → side_of x ≡ s → side_of y ≡ s → sided R x y ≡ before R x y
  sided_is x y i j = ap₂ (λ a b. by_side a b (before R x y)) i j ∙ by_one_side s (before R x y)

  pass_sided : (x : Order) → side_of x ≡ s → (q : List Order) → OneSided s q → list_all (sided R x) q ≡ list_all (before R x) q
  pass_sided x e [] one = refl
  pass_sided x e (y ∷ q) one =
      ap₂ (λ a b. a && b) (sided_is x y e (one y (inl refl))) (pass_sided x e q (λ o i. one o (inr i)))

  pub in_order_sided : (q : List Order) → OneSided s q → in_order (sided R) q ≡ in_order (before R) q
  in_order_sided [] one = refl
  in_order_sided (y ∷ q) one =
      ap₂ (λ a b. a && b) (pass_sided y (one y (inl refl)) q (λ o i. one o (inr i))) (in_order_sided q (λ o i. one o (inr i)))

-- What is in a queue that an order joins

pub in_inserted : (q : List Order) (i : ℕ) (x p : Order) → In p (insert q i x) → (p ≡ x) ⊎ In p q
in_inserted [] zero x p (inl e) = inl e
in_inserted [] zero x p (inr j) = absurd j
in_inserted [] (suc i) x p (inl e) = inl e
in_inserted [] (suc i) x p (inr j) = absurd j
in_inserted (y ∷ q) zero x p (inl e) = inl e
in_inserted (y ∷ q) zero x p (inr j) = inr j
in_inserted (y ∷ q) (suc i) x p (inl e) = inr (inl e)
in_inserted (y ∷ q) (suc i) x p (inr j) = elim (in_inserted q i x p j) [ inl e ↦ inl e | inr k ↦ inr (inr k) ]

pub inserted_in : (q : List Order) (i : ℕ) (x p : Order) → (p ≡ x) ⊎ In p q → In p (insert q i x)
inserted_in [] zero x p (inl e) = inl e
inserted_in [] zero x p (inr j) = absurd j
inserted_in [] (suc i) x p (inl e) = inl e
inserted_in [] (suc i) x p (inr j) = absurd j
inserted_in (y ∷ q) zero x p (inl e) = inl e
inserted_in (y ∷ q) zero x p (inr j) = inr j
inserted_in (y ∷ q) (suc i) x p (inl e) = inr (inserted_in q i x p (inl e))
inserted_in (y ∷ q) (suc i) x p (inr (inl e)) = inl e
inserted_in (y ∷ q) (suc i) x p (inr (inr j)) = inr (inserted_in q i x p (inr j))

in_at : (q : List Order) (i : ℕ) (d : Order) → i < length q → In (get_or q i d) q
in_at [] i d h = absurd (omega arith)
in_at (y ∷ q) zero d h = inl refl
in_at (y ∷ q) (suc i) d h = inr (in_at q i d (omega arith))

-- a queue of one side stays in order when an order of that side with a new number joins
pub in_order_joined : (R : Rule) → Lawful R → (s : Side) (q : List Order) (x : Order) → side_of x ≡ s → OneSided s q → LacksNumber x.number q → in_order (before R) q ≡ true → in_order (before R) (joined R x q) ≡ true
in_order_joined R lawful s q x e one lacks o =
    let there : in_order (sided R) (insert q (place (sided R) q x) x) ≡ true =
    in_order_inserted (sided R) (λ (p : Order). pos p.number) (sided_transitive R lawful) (sided_decided R lawful) q x (in_order_sided R s q one ∙ o) (λ i d h same. lacks (get_or q i d) (in_at q i d h) (pos_same same)) in
    sym (in_order_sided R s (joined R x q) (λ p i. elim (in_inserted q (place (sided R) q x) x p i) [ inl same ↦ ap side_of same ∙ e | inr j ↦ one p j ])) ∙ there
  where
    pos_same : {m n : ℕ} → pos m ≡ pos n → m ≡ n
    pos_same z = cc

-- What rests after an entry was accepted

module _ (R : Rule) (lawful : Lawful R) (E : List Event) (G : List Trade) (e : Entry) (f : Figures) (fresh : numbered E f.number ≡ None) (untouched : gone E G f.number ≡ 0) where
  abbrev E' : List Event
  E' = E ++ entered e f ∷ []

  gone_same : (j : ℕ) → gone E' G j ≡ gone E G j
  gone_same j = let x = total-push (lessened_by j) E (entered e f) in omega arith

  others_same : (j : ℕ) → (j ≡ f.number → ⊥) → numbered E' j ≡ numbered E j
  others_same j ne =
      numbered-append E (entered e f ∷ []) j ∙ ap (or_else (numbered E j)) (cond-false (eqb f.number j) _ _ (ne_eqb _ _ (λ i. ne (sym i)))) ∙ or_else_none _

  its_entry : numbered E' f.number ≡ Some (accepted_as e f)
  its_entry =
      numbered-append E (entered e f ∷ []) f.number ∙ ap (λ o. or_else o (numbered (entered e f ∷ []) f.number)) fresh ∙ cond-true (eqb f.number f.number) _ _ (eq-eqb _ _ refl)

  still_rests : (p : Order) → (p.number ≡ f.number → ⊥) → Rests E G p → Rests E' G p
  still_rests p ne r = let g = gone_same p.number in let l = r.left in rests_with E E' G G p (lots_of p) (others_same _ ne) (omega arith) l r

  rested : (p : Order) → (p.number ≡ f.number → ⊥) → Rests E' G p → Rests E G p
  rested p ne r = let g = gone_same p.number in let l = r.left in rests_with E' E G G p (lots_of p) (sym (others_same _ ne)) (omega arith) l r

  -- an order that rested had another number
  old_number : (p : Order) → Rests E G p → p.number ≡ f.number → ⊥
  old_number p r z = let i = r.entry in let j = ap (numbered E) z in let never : ◌≡◌ {A = ℕ} 0 1 = cc in omega arith

  -- the order of the entry
  abbrev pub its_order : Order
  its_order = order_of e.account e.side f.number e.price f.resting

  its_order_rests : 1 ≤ f.resting → Rests E' G its_order
  its_order_rests some = record {
    came = accepted_as e f;
    entry = its_entry;
    account = refl;
    side = refl;
    price = refl;
    lots = let g = gone_same f.number in omega arith;
    left = some;
  }

  only_its_order : (p : Order) → Rests E' G p → p.number ≡ f.number → p ≡ its_order
  only_its_order p r z =
      let c : r.came ≡ accepted_as e f = let i = r.entry in let j = ap (numbered E') z in let k = its_entry in cc in
      let g = gone_same f.number in
      let m = ap (gone E' G) z in
      let l = r.lots in
      let n = ap (λ (x : Accepted). x.answer.resting) c in
      same_order p its_order
      (r.account ∙ ap (λ (x : Accepted). x.entry.account) c)
      (r.side ∙ ap (λ (x : Accepted). x.entry.side) c)
      z
      (r.price ∙ ap (λ (x : Accepted). x.entry.price) c)
      (omega arith)

  -- a queue that the order does not join is kept
  pub kept_without : (s : Side) (q : List Order) → (1 ≤ f.resting → e.side ≡ s → ⊥) → Kept R E G s q → Kept R E' G s q
  kept_without s q not-here kept = record {
    rest = λ p i. let r = kept.rest p i in (still_rests p (old_number p r.0) r.0, r.1);
    all = λ p r z. elim (cases_Bool (eqb p.number f.number)) [
      | inl t ↦ (let same = only_its_order p r (eqb-true _ _ t) in let l = r.left in let m = ap lots_of same in absurd (not-here (omega arith) (sym (ap side_of same) ∙ z)))
      | inr t ↦ kept.all p (rested p (eqb-false _ _ t) r) z
    ];
    ordered = kept.ordered;
  }

  -- the queue that the order joins is kept
  pub kept_joined : (q : List Order) → 1 ≤ f.resting → Kept R E G e.side q → Kept R E' G e.side (joined R its_order q)
  kept_joined q some kept =
      let i : ℕ = place (sided R) q its_order in
      record {
        rest = λ p j. elim (in_inserted q i its_order p j) [
          | inl same ↦ subst (λ x. Rests E' G x × (side_of x ≡ e.side)) (sym same) (its_order_rests some, refl)
          | inr there ↦ (let r = kept.rest p there in (still_rests p (old_number p r.0) r.0, r.1))
        ];
        all = λ p r z. elim (cases_Bool (eqb p.number f.number)) [
          | inl t ↦ inserted_in q i its_order p (inl (only_its_order p r (eqb-true _ _ t)))
          | inr t ↦ inserted_in q i its_order p (inr (kept.all p (rested p (eqb-false _ _ t) r) z))
        ];
        ordered = in_order_joined R lawful e.side q its_order refl (λ p j. (kept.rest p j).1) (λ p j. old_number p (kept.rest p j).0) kept.ordered;
      }
