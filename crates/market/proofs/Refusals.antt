-- The refusals of an entry, stage by stage. Assumes nothing.
use Rattle.std.proofs.Common.{◌≡◌, ℕ, suc, ◌≤◌, Bool, true, false, cond, ◌||◌, List, [], ◌∷◌, ◌++◌, length, take, Some, None, Ok, Err, Option, sym, refl, ap, ◌∙◌, ap₂, suc-le-suc, zero-le, arith}
use Rattle.std.proofs.lemmas.Bool.{cond-false, cond-true}
use Rattle.clearing.specs.Centre.{Lines, Own, answered, verdict}
use Rattle.clearing.specs.Side.{other}
use Rattle.clearing.specs.declared.cause.Denial.{Denial}
use Rattle.clearing.specs.declared.side.Side.{Side}
use Rattle.dealing.specs.declared.call.Entry.{Entry}
use Rattle.dealing.specs.declared.refusal.Refusal.{Refusal}
use Rattle.dealing.specs.declared.refusal.Refusal.TheVariants.{CentreDenies, OutOfStep}
use Rattle.market.proofs.Carried.{trade_other}
use Rattle.market.proofs.Walking.{walk_induction}
use Rattle.market.specs.BookState.{Plans, orders_out_of_step}
use Rattle.market.specs.Calls.{Check, allowed, centre_denies, check, entry_lots, entry_refusal, first_of, or_else, out_of_step, terms_checks, trades_out_of_step, walk_checks, walk_of}
use Rattle.market.specs.Order.{lots_of, party}
use Rattle.market.specs.Rule.{Rule}
use Rattle.market.specs.State.{State, queue_of}
use Rattle.market.specs.Walk.{Walked, eligible_for, walk}
use Rattle.market.specs.declared.order.Order.{Order}
use Rattle.market.specs.declared.plan.Plan.{Plan}

-- what a check answers is its part of the refusals
pub allowed_no : (o : Option Refusal) (r : Refusal) → allowed o ≡ Err r → Some r ≡ o
allowed_no None r e = absurd (let z : ◌≡◌ {A = ℕ} 0 1 = cc in omega arith)
allowed_no (Some q) r e = cc

pub allowed_yes : (o : Option Refusal) (x : Unit {0}) → allowed o ≡ Ok x → None ≡ o
allowed_yes None x e = refl
allowed_yes (Some q) x e = absurd (let z : ◌≡◌ {A = ℕ} 0 1 = cc in omega arith)

-- the orders that a walk trades with are the first ones, one for each trade
pub same_orders : (S : State) (L : Lines) (eligible : Order → Bool) (e : Entry) (k n : ℕ) (q : List Order) → let w = walk eligible e k n q in trades_out_of_step S L (other e.side) w.trades ≡ orders_out_of_step S L (other e.side) (take (length w.trades) q)
same_orders S L eligible e k n q =
    let z = other e.side in
    walk_induction eligible e k (λ n q w. trades_out_of_step S L z w.trades ≡ orders_out_of_step S L z (take (length w.trades) q))
    (λ n q e. refl)
    (λ n some. refl)
    (λ n o q some el. refl)
    (λ n o q. refl)
    (λ n o q w some el ne all go. ap₂ (λ a b. out_of_step S L a z || b) (trade_other e.side (party k e.account) o (lots_of o)) go)
    (λ n o q some el ne part. ap (λ a. out_of_step S L a z || false) (trade_other e.side (party k e.account) o n))
    n q

-- a walk makes no more trades than its queue has orders
pub few_trades : (eligible : Order → Bool) (e : Entry) (k n : ℕ) (q : List Order) → length (walk eligible e k n q).trades ≤ length q
few_trades eligible e k =
    walk_induction eligible e k (λ n q w. length w.trades ≤ length q)
    (λ n q z. zero-le)
    (λ n some. zero-le)
    (λ n o q some el. zero-le)
    (λ n o q. zero-le)
    (λ n o q w some el ne all go. suc-le-suc go)
    (λ n o q some el ne part. suc-le-suc zero-le)

-- The stages

or_else_assoc : {X : Type 0} (o p r : Option X) → or_else (or_else o p) r ≡ or_else o (or_else p r)
or_else_assoc (Some x) p r = refl
or_else_assoc None p r = refl

first-append : (xs ys : List Check) → first_of (xs ++ ys) ≡ or_else (first_of xs) (first_of ys)
first-append [] ys = refl
first-append (c ∷ cs) ys = go c.fails (first-append cs ys)
  where
    go : (b : Bool) → first_of (cs ++ ys) ≡ or_else (first_of cs) (first_of ys) → cond b (Some c.refusal) (first_of (cs ++ ys)) ≡ or_else (cond b (Some c.refusal) (first_of cs)) (first_of ys)
    go true e = refl
    go false e = e

module _ (C : Own) (S : State) (L : Lines) (e : Entry) (w : Walked) where
  abbrev steps : List Check
  steps = check (trades_out_of_step S L (other e.side) w.trades) OutOfStep ∷ []

  abbrev judged : Option Refusal
  judged = centre_denies (verdict C L e.account e.side (entry_lots e))

  -- by the terms, else by the walk, else by the lines, else by the centre
  stages : entry_refusal C S L e w ≡ or_else (first_of (terms_checks S e)) (or_else (first_of (walk_checks S e w.ending (length w.trades))) (or_else (first_of steps) judged))
  stages =
      ap (λ o. or_else o judged) (first-append (terms_checks S e) (walk_checks S e w.ending (length w.trades) ++ steps) ∙ ap (or_else (first_of (terms_checks S e))) (first-append (walk_checks S e w.ending (length w.trades)) steps))
      ∙ or_else_assoc (first_of (terms_checks S e)) _ judged
      ∙ ap (or_else (first_of (terms_checks S e))) (or_else_assoc (first_of (walk_checks S e w.ending (length w.trades))) (first_of steps) judged)

  pub by_terms : (r : Refusal) → Some r ≡ first_of (terms_checks S e) → entry_refusal C S L e w ≡ Some r
  by_terms r t = stages ∙ ap (λ o. or_else o (or_else (first_of (walk_checks S e w.ending (length w.trades))) (or_else (first_of steps) judged))) (sym t)

  module _ (terms : None ≡ first_of (terms_checks S e)) (p : Plan) (plans : Plans p w) where
    after_terms : entry_refusal C S L e w ≡ or_else (first_of (walk_checks S e p.ending p.trades)) (or_else (first_of steps) judged)
    after_terms = stages ∙ ap (λ o. or_else o (or_else (first_of (walk_checks S e w.ending (length w.trades))) (or_else (first_of steps) judged))) (sym terms) ∙ ap₂ (λ x n. or_else (first_of (walk_checks S e x n)) (or_else (first_of steps) judged)) (sym plans.ending) (sym plans.trades)

    pub by_walk : (r : Refusal) → Some r ≡ first_of (walk_checks S e p.ending p.trades) → entry_refusal C S L e w ≡ Some r
    by_walk r t = after_terms ∙ ap (λ o. or_else o (or_else (first_of steps) judged)) (sym t)

    module _ (walked : None ≡ first_of (walk_checks S e p.ending p.trades)) where
      after_walk : entry_refusal C S L e w ≡ or_else (first_of steps) judged
      after_walk = after_terms ∙ ap (λ o. or_else o (or_else (first_of steps) judged)) (sym walked)

      pub by_lines : trades_out_of_step S L (other e.side) w.trades ≡ true → entry_refusal C S L e w ≡ Some OutOfStep
      by_lines t = after_walk ∙ ap (λ o. or_else o judged) (cond-true _ _ _ t)

      pub by_centre : trades_out_of_step S L (other e.side) w.trades ≡ false → entry_refusal C S L e w ≡ judged
      by_centre t = after_walk ∙ ap (λ o. or_else o judged) (cond-false _ _ _ t)

-- what the centre answers is its part of the refusals
pub centre_no : (v : Option Denial) (d : Denial) → Err d ≡ answered v → Some (CentreDenies d) ≡ centre_denies v
centre_no None d e = absurd (let z : ◌≡◌ {A = ℕ} 0 1 = cc in omega arith)
centre_no (Some x) d e = cc

pub centre_yes : (v : Option Denial) (x : Unit {0}) → Ok x ≡ answered v → None ≡ centre_denies v
centre_yes None x e = refl
centre_yes (Some d) x e = absurd (let z : ◌≡◌ {A = ℕ} 0 1 = cc in omega arith)

-- the orders that were looked at are those that the planned walk trades with
pub plan_lines : (R : Rule) (S : State) (L : Lines) (e : Entry) (p : Plan) → Plans p (walk_of R S e) → (z : Side) → z ≡ other e.side → (b : Bool) → b ≡ orders_out_of_step S L z (take p.trades (queue_of z S)) → trades_out_of_step S L (other e.side) (walk_of R S e).trades ≡ b
plan_lines R S L e p plans z same b out =
    same_orders S L _ e (suc S.last) (entry_lots e) (queue_of (other e.side) S)
    ∙ ap₂ (λ x n. orders_out_of_step S L x (take n (queue_of x S))) (sym same) (sym plans.trades)
    ∙ sym out

-- a planned walk makes no more trades than the other queue has orders
pub plan_few : (R : Rule) (S : State) (e : Entry) (p : Plan) → Plans p (walk_of R S e) → p.trades ≤ length (queue_of (other e.side) S)
plan_few R S e p plans =
    let q = queue_of (other e.side) S in
    let few = few_trades (eligible_for e.kind R S.deviation (suc S.last) q e) e (suc S.last) (entry_lots e) q in
    let t = plans.trades in
    omega arith
