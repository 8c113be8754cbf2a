-- A walk from order to order, for its plan and for the code that carries it out. Assumes nothing.
use Rattle.std.proofs.Common.{◌≡◌, ℕ, ◌+◌, ◌-◌, ◌<◌, ◌≤◌, min, Bool, true, false, cond, not, eqb, leb, List, [], ◌∷◌, ◌++◌, length, get_or, drop, sym, refl, ap, ◌∙◌, subst, arith}
use mathlib.Core.Path.{fun_ext}
use Rattle.std.proofs.lemmas.List.{drop_more}
use Rattle.std.proofs.lemmas.Bool.{cond_both, cond-false, cond-true, eqb-false, le-leb, leb-false, leb-true, lt-leb, not-false}
use Rattle.ordered.specs.Key.{eq_z}
use Rattle.ordered.proofs.Keys.{eq_z_false}
use Rattle.dealing.specs.declared.call.Entry.{Entry}
use Rattle.dealing.specs.declared.call.Kind.{Kind}
use Rattle.dealing.specs.declared.call.Kind.TheVariants.{Limited, Market}
use Rattle.market.proofs.Walking.{walk_induction}
use Rattle.market.specs.Order.{account_of, left_of, lots_of, lowered, party, trade_of}
use Rattle.market.specs.PlanTable.{eligible_as, eligible_by, first_price, near_price, reach_of, walk_by}
use Rattle.market.specs.Rule.{Rule}
use Rattle.market.specs.Walk.{Walked, after_trade, eligible_for, near_first, walk, walked}
use Rattle.market.specs.declared.ending.Ending.{Ending}
use Rattle.market.specs.declared.ending.Ending.TheVariants.{Filled as filled, Own as own, Short as short}
use Rattle.market.specs.declared.order.Order.{Order}
use Rattle.market.specs.declared.plan.Reach.{Reach}
use Rattle.market.specs.declared.plan.Reach.TheVariants.{UsedUp, Partly, Stopped}
use Rattle.market.specs.declared.taker.Taker.{Taker}
use Rattle.market.specs.declared.trade.Trade.{Trade}

-- The tests by what they read

near_same : (d : ℕ) (q : List Order) (o : Order) → near_price d (first_price q) o.price ≡ near_first d q o
near_same d [] o = refl
near_same d (head ∷ q) o = refl

kind_same : (x : Kind) (R : Rule) (t : Taker) (q : List Order) (o : Order) → t.first ≡ first_price q → eligible_as x R t o ≡ eligible_for x R t.deviation t.numbered.number q t.numbered.entry o
kind_same Limited R t q o h = refl
kind_same Market R t q o h = ap (λ first. near_price t.deviation first o.price) h ∙ near_same t.deviation q o

-- a taker that knows the first price of a queue tells which of its orders are eligible
pub eligible_same : (R : Rule) (t : Taker) (q : List Order) (o : Order) → t.first ≡ first_price q → eligible_by R t o ≡ eligible_for t.numbered.entry.kind R t.deviation t.numbered.number q t.numbered.entry o
eligible_same R t q o h = kind_same t.numbered.entry.kind R t q o h

-- and so walks as the entry does
pub walk_same : (R : Rule) (t : Taker) (q : List Order) → t.first ≡ first_price q → (n : ℕ) (p : List Order) → walk_by R t n p ≡ walk (eligible_for t.numbered.entry.kind R t.deviation t.numbered.number q t.numbered.entry) t.numbered.entry t.numbered.number n p
walk_same R t q h n p = ap (λ eligible. walk eligible t.numbered.entry t.numbered.number n p) (fun_ext (λ o. eligible_same R t q o h))

-- A walk from one order to the next

module _ (eligible : Order → Bool) (e : Entry) (k : ℕ) where
  -- what a walk makes of its first order
  abbrev reached : Reach → ℕ → Order → List Order → Walked
  reached UsedUp n o q = after_trade (trade_of e.side (party k e.account) o (lots_of o)) (walk eligible e k (n - lots_of o) q)
  reached Partly n o q = walked (trade_of e.side (party k e.account) o n ∷ []) (lowered o n ∷ q) 0 filled
  reached (Stopped x) n o q = walked [] (o ∷ q) n x

  -- a choice of what is reached is a choice of what comes of it
  reached_by : (a b c d : Bool) (n : ℕ) (o : Order) (q : List Order) →
      cond a (reached (Stopped filled) n o q) (cond b (reached (Stopped short) n o q) (cond c (reached (Stopped own) n o q) (cond d (reached UsedUp n o q) (reached Partly n o q))))
      ≡ reached (cond a (Stopped filled) (cond b (Stopped short) (cond c (Stopped own) (cond d UsedUp Partly)))) n o q
  reached_by true b c d n o q = refl
  reached_by false true c d n o q = refl
  reached_by false false true d n o q = refl
  reached_by false false false true n o q = refl
  reached_by false false false false n o q = refl

  -- the first order decides
  walk_reaches : (n : ℕ) (o : Order) (q : List Order) → walk eligible e k n (o ∷ q) ≡ reached (reach_of eligible e n o) n o q
  walk_reaches n o q = reached_by (eqb n 0) (not (eligible o)) (eq_z (account_of o) e.account) (leb (lots_of o) n) n o q

  -- the same at any place of a queue
  walk_from : (n : ℕ) (q : List Order) (i : ℕ) (d : Order) (r : Reach) → i < length q → r ≡ reach_of eligible e n (get_or q i d) → walk eligible e k n (drop i q) ≡ reached r n (get_or q i d) (drop (i + 1) q)
  walk_from n q i d r h at =
      let o = get_or q i d in
      ap (walk eligible e k n) (drop_more q i d h) ∙ walk_reaches n o (drop (i + 1) q) ∙ ap (λ x. reached x n o (drop (i + 1) q)) (sym at)

  -- a walk with nothing left makes no trade and leaves its queue
  walk_none : (q : List Order) → walk eligible e k 0 q ≡ walked [] q 0 filled
  walk_none [] = refl
  walk_none (o ∷ q) = refl

  -- the walk goes on over what a trade of m lots with the first order leaves
  abbrev over : ℕ → Order → List Order → ℕ → Walked
  over n o q m = after_trade (trade_of e.side (party k e.account) o m) (walk eligible e k (n - m) (left_of o m ++ q))

  -- what a walk that came to w, with a trade, began with
  abbrev Steps : ℕ → List Order → Walked → Type 0
  Steps n q w =
      1 ≤ length w.trades → (o : Order) × (rest : List Order) × (q ≡ o ∷ rest) × (1 ≤ n) × (eligible o ≡ true) × (account_of o ≡ e.account → ⊥) × (w ≡ over n o rest (min n (lots_of o)))

  no_step : (n : ℕ) (q : List Order) (w : Walked) → w.trades ≡ [] → Steps n q w
  no_step n q w none h = let z = ap length none in absurd (omega arith)

  -- an order that is used up leaves nothing
  whole : (n : ℕ) (o : Order) (q : List Order) → lots_of o ≤ n → reached UsedUp n o q ≡ over n o q (min n (lots_of o))
  whole n o q h =
      let t : Trade = trade_of e.side (party k e.account) o (lots_of o) in
      let its : lots_of o ≡ min n (lots_of o) = omega arith in
      ap (λ l. after_trade t (walk eligible e k (n - lots_of o) (l ++ q))) (sym (cond-true _ _ _ (le-leb (lots_of o) (lots_of o) (omega arith)))) ∙ ap (over n o q) its

  -- an order that is not used up leaves the entry nothing
  part : (n : ℕ) (o : Order) (q : List Order) → n < lots_of o → reached Partly n o q ≡ over n o q (min n (lots_of o))
  part n o q h =
      let t : Trade = trade_of e.side (party k e.account) o n in
      let none : 0 ≡ n - n = omega arith in
      let mine : n ≡ min n (lots_of o) = omega arith in
      ap (after_trade t) (sym (walk_none (lowered o n ∷ q)) ∙ ap (λ m. walk eligible e k m (lowered o n ∷ q)) none)
      ∙ ap (λ l. after_trade t (walk eligible e k (n - n) (l ++ q))) (sym (cond-false _ _ _ (lt-leb (lots_of o) n h)))
      ∙ ap (over n o q) mine

  -- a walk that makes a trade makes it with the first order, and goes on with what that leaves
  pub walk_step : (n : ℕ) (q : List Order) → Steps n q (walk eligible e k n q)
  walk_step n [] = no_step n [] _ refl
  walk_step n (o ∷ q) =
      cond_both (eqb n 0) _ _ (Steps n (o ∷ q)) (λ _. no_step n (o ∷ q) _ refl) (λ f.
      cond_both (not (eligible o)) _ _ (Steps n (o ∷ q)) (λ _. no_step n (o ∷ q) _ refl) (λ el.
      cond_both (eq_z (account_of o) e.account) _ _ (Steps n (o ∷ q)) (λ _. no_step n (o ∷ q) _ refl) (λ ne.
      let some : 1 ≤ n = let i = eqb-false n 0 f in omega arith in
      let apart = eq_z_false (account_of o) e.account ne in
      cond_both (leb (lots_of o) n) _ _ (Steps n (o ∷ q))
      (λ all h. (o, q, refl, some, not-false _ el, apart, whole n o q (leb-true _ _ all)))
      (λ few h. (o, q, refl, some, not-false _ el, apart, part n o q (leb-false _ _ few))))))

  abbrev Still : ℕ → List Order → Walked → Type 0
  Still n q w = length w.trades ≡ 0 → (w.queue ≡ q) × (w.left ≡ n) × (w.trades ≡ [])

  -- a walk that makes no trade leaves its queue and its lots
  pub walk_still : (n : ℕ) (q : List Order) → Still n q (walk eligible e k n q)
  walk_still =
      walk_induction eligible e k Still
      (λ n q _ _. (refl, refl, refl))
      (λ n _ _. (refl, refl, refl))
      (λ n o q _ _ _. (refl, refl, refl))
      (λ n o q _. (refl, refl, refl))
      (λ n o q w _ _ _ _ _ h. absurd (omega arith))
      (λ n o q _ _ _ _ h. absurd (omega arith))

-- A plan's loop, at the place i of a queue with n lots left

-- a walk that came to w made i trades and then came to what w' did
pub record Onward (w : Walked) (i : ℕ) (w' : Walked) : Type 0 where
  pub ending : w.ending ≡ w'.ending
  pub left : w.left ≡ w'.left
  pub trades : length w.trades ≡ i + length w'.trades

module _ (R : Rule) (t : Taker) (lots n : ℕ) (q : List Order) (i : ℕ) (on : Onward (walk_by R t lots q) i (walk_by R t n (drop i q))) where
  -- what the whole walk comes to
  abbrev w : Walked
  w = walk_by R t lots q

  -- what is left of the walk is what it makes of the order at the place
  at_place : (d : Order) (r : Reach) → i < length q → r ≡ reach_of (eligible_by R t) t.numbered.entry n (get_or q i d) → Onward w i (reached (eligible_by R t) t.numbered.entry t.numbered.number r n (get_or q i d) (drop (i + 1) q))
  at_place d r h at = subst (Onward w i) (walk_from (eligible_by R t) t.numbered.entry t.numbered.number n q i d r h at) on

  -- an order that is used up makes one trade
  pub onward_used : (d : Order) → i < length q → UsedUp ≡ reach_of (eligible_by R t) t.numbered.entry n (get_or q i d) → Onward w (i + 1) (walk_by R t (n - lots_of (get_or q i d)) (drop (i + 1) q))
  onward_used d h at =
      let s = at_place d UsedUp h at in
      record { ending = s.ending; left = s.left; trades = omega (arith, s.trades) }

  -- the walk ends before an order
  pub onward_stopped : (d : Order) (x : Ending) → i < length q → Stopped x ≡ reach_of (eligible_by R t) t.numbered.entry n (get_or q i d) → (x ≡ w.ending) × (n ≡ w.left) × (i ≡ length w.trades)
  onward_stopped d x h at = let s = at_place d (Stopped x) h at in (sym s.ending, sym s.left, omega (arith, s.trades))
