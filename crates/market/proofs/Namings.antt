-- The order that a number names, found in one of the two queues, and lots taken off it. Assumes nothing.
use Rattle.std.proofs.Common.{◌≡◌, ℕ, zero, suc, ◌-◌, ◌<◌, ◌≤◌, Bool, true, false, cond, List, [], ◌∷◌, ◌++◌, length, get_or, ℤ, pos, nat_abs, Some, None, Ok, Err, Option, sym, refl, ap, ◌∙◌, subst, arith, w64, SFits, to_z, of_z}
use Rattle.std.proofs.lemmas.Bool.{cond-true, not-false}
use Rattle.ordered.specs.Key.{eq_z}
use Rattle.ordered.specs.Row.{Found, Lacks, at_key}
use Rattle.ordered.proofs.Keys.{eq_z_refl}
use Rattle.ordered.proofs.Lookups.{at_key_found, at_key_none}
use Rattle.ordered.proofs.Orders.{all_pass_at}
use Rattle.clearing.proofs.Passed.{passed}
use Rattle.clearing.specs.Centre.{Lines, adjusted, holds}
use Rattle.clearing.specs.Line.{release}
use Rattle.clearing.specs.Side.{other}
use Rattle.clearing.specs.declared.side.Side.{Side}
use Rattle.clearing.specs.declared.side.Side.TheVariants.{Buy, Sell}
use Rattle.dealing.specs.declared.outcome.Figures.{Figures}
use Rattle.dealing.specs.declared.outcome.Outcome.{Outcome}
use Rattle.dealing.specs.declared.outcome.Outcome.TheVariants.{Withdrawn, Reduced}
use Rattle.dealing.specs.declared.refusal.Refusal.{Refusal}
use Rattle.dealing.specs.declared.refusal.Refusal.TheVariants.{WrongPeriod}
use Rattle.market.proofs.InStep.{holds_fewer}
use Rattle.market.proofs.QueueTables.{lower_found}
use Rattle.market.proofs.Sides.{is_side_true}
use Rattle.market.specs.Calls.{Done, check, done, figures_of, first_of, or_else, out_of_step, reduce, reduce_checks, reduce_order, off_the_book, unless, withdraw, withdraw_checks, withdraw_order}
use Rattle.market.specs.Naming.{Named, Placed, TakenOffBook, order_at}
use Rattle.market.specs.Order.{account_of, all_on, is_on, lots_of, lots_resting, lower, side_of}
use Rattle.market.specs.QueueTable.{lowered_at}
use Rattle.market.specs.State.{State, is_unopened, order_numbered, queue_of, with_book}
use Rattle.market.specs.declared.order.Order.{Order}
use Rattle.market.specs.declared.taking_off.Place.{Place}

-- a key is looked for in the first list, and then in the second
at_key-append : (p q : List Order) (k : ℤ) → at_key (λ o. pos o.number) (p ++ q) k ≡ or_else (at_key (λ o. pos o.number) p k) (at_key (λ o. pos o.number) q k)
at_key-append [] q k = refl
at_key-append (o ∷ p) q k =
    ap (cond (eq_z (pos o.number) k) (Some o)) (at_key-append p q k) ∙ either (eq_z (pos o.number) k) _ _
  where
    either : (b : Bool) (x y : Option Order) → cond b (Some o) (or_else x y) ≡ or_else (cond b (Some o) x) y
    either true x y = refl
    either false x y = refl

-- an order that was found in the queue of a side is at its place there
pub placed : (S : State) (k : ℤ) (p : Place) → all_on p.side (queue_of p.side S) ≡ true → Found (λ o. pos o.number) (queue_of p.side S) k (Some p.at) → Placed S p
placed S k p all found =
    let q = queue_of p.side S in
    record {
      found = λ d. subst (λ z. Found (λ (o : Order). pos o.number) q z (Some p.at)) (sym (found.1 d)) found;
      sided = λ d. is_side_true p.side _ (all_pass_at (is_on p.side) q p.at d found.0 all);
    }

module _ (S : State) (k : ℤ) where
  abbrev place_on : Side → ℕ → Place
  place_on s i = record { side = s; at = i }

  pub named_buy : (i : ℕ) → all_on Buy S.buys ≡ true → Found (λ o. pos o.number) S.buys k (Some i) → Named S k (Some (place_on Buy i))
  named_buy i all found = (
    placed S k (place_on Buy i) all found,
    λ d. at_key-append S.buys S.sells k ∙ ap (λ x. or_else x (at_key (λ o. pos o.number) S.sells k)) (at_key_found (λ (o : Order). pos o.number) S.buys k i found d),
  )

  module _ (none : Lacks (λ o. pos o.number) S.buys k (length S.buys)) where
    among_sells : order_numbered S k ≡ at_key (λ o. pos o.number) S.sells k
    among_sells =
        at_key-append S.buys S.sells k
        ∙ ap (λ x. or_else x (at_key (λ o. pos o.number) S.sells k)) (at_key_none (λ (o : Order). pos o.number) S.buys k none)

    pub named_sell : (i : ℕ) → all_on Sell S.sells ≡ true → Found (λ o. pos o.number) S.sells k (Some i) → Named S k (Some (place_on Sell i))
    named_sell i all found =
        (placed S k (place_on Sell i) all found, λ d. among_sells ∙ at_key_found (λ (o : Order). pos o.number) S.sells k i found d)

    pub named_none : Lacks (λ o. pos o.number) S.sells k (length S.sells) → Named S k None
    named_none lacks = among_sells ∙ at_key_none (λ (o : Order). pos o.number) S.sells k lacks

-- an account has at least the lots of each of its orders resting
resting_at : (q : List Order) (i : ℕ) (d : Order) → i < length q → lots_of (get_or q i d) ≤ lots_resting (account_of (get_or q i d)) q
resting_at [] i d h = absurd (omega arith)
resting_at (o ∷ q) zero d h = let own = cond-true (eq_z (account_of o) (account_of o)) (lots_of o) 0 (eq_z_refl (account_of o)) in omega arith
resting_at (o ∷ q) (suc i) d h = let rest = resting_at q i d (omega arith) in omega arith

module _ (S : State) (L : Lines) (p : Place) (n : ℕ) (at : Placed S p) (d : Order) where
  abbrev o : Order
  o = order_at S p d

  -- where the centre is in step, the line of the order's account holds the lots that are taken off
  pub held_there : n ≤ lots_of o → out_of_step S L (account_of o) (side_of o) ≡ false → holds (L (account_of o)) (side_of o) n ≡ true
  held_there few step =
      let all = resting_at (queue_of p.side S) p.at d (at.found d).0 in
      let same = ap (λ s. lots_resting (account_of o) (queue_of s S)) (at.sided d) in
      holds_fewer (L (account_of o)) (side_of o) n _ (omega arith) (not-false _ step)

  -- the queue lowered in that place, and the lots given back
  pub taken_there : (S' : State) (L' : Lines) → S' ≡ with_book p.side (lowered_at p.at n (queue_of p.side S)) (queue_of (other p.side) S) S.last S.register S → L' ≡ adjusted L (account_of o) (release (side_of o) n) → (x : Outcome) → off_the_book S L o n x ≡ done S' L' (Ok x)
  taken_there S' L' state lines x =
      let k = o.number in
      ap (λ s. done (with_book s (lower k n (queue_of s S)) (queue_of (other s) S) S.last S.register S) (adjusted L (account_of o) (release (side_of o) n)) (Ok x)) (at.sided d)
      ∙ ap (λ q. done (with_book p.side q (queue_of (other p.side) S) S.last S.register S) (adjusted L (account_of o) (release (side_of o) n)) (Ok x)) (lower_found (queue_of p.side S) k p.at n (at.found d))
      ∙ ap (λ T. done T (adjusted L (account_of o) (release (side_of o) n)) (Ok x)) (sym state)
      ∙ ap (λ M. done S' M (Ok x)) (sym lines)

-- what was answered of an order and an account that were passed on
pub asked_of : {X : Type 0} (f : ℤ → Order → X) (r : X) (a : ℤ) → SFits w64 a → (x o : Order) → x ≡ o → r ≡ f (to_z w64 (of_z w64 a)) x → r ≡ f a o
asked_of f r a fits x o same e = passed (λ z. r ≡ f z o) a fits (e ∙ ap (f (to_z w64 (of_z w64 a))) same)

-- The answers

-- in a market that was opened, a call is about the order that its number names
module _ (S : State) (L : Lines) (a k : ℤ) (opened : is_unopened S.period ≡ false) (order : Option Order) (named : order_numbered S k ≡ order) where
  once_opened : (d : Done) → unless (first_of (check (is_unopened S.period) WrongPeriod ∷ [])) S L d ≡ d
  once_opened d = ap (λ b. unless (first_of (check b WrongPeriod ∷ [])) S L d) opened

  pub withdraw_named : withdraw S L a k ≡ withdraw_order S L a order
  withdraw_named = once_opened _ ∙ ap (withdraw_order S L a) named

  pub reduce_named : (n : ℤ) → reduce S L a k n ≡ reduce_order S L a n order
  reduce_named n = once_opened _ ∙ ap (reduce_order S L a n) named

module _ (S : State) (L : Lines) (a : ℤ) (o : Order) where
  -- what a withdrawal comes to, and a reduction by n lots, where no check refuses it
  abbrev all_off : Done
  all_off = off_the_book S L o (lots_of o) (Withdrawn (figures_of o.number 0 0 (lots_of o)))

  abbrev some_off : ℕ → Done
  some_off n = off_the_book S L o n (Reduced (figures_of o.number 0 (lots_of o - n) n))

  pub withdraw_refused : (r : Refusal) → first_of (withdraw_checks S L a o) ≡ Some r → withdraw_order S L a (Some o) ≡ done S L (Err r)
  withdraw_refused r e = ap (λ x. unless x S L all_off) e

  pub reduce_refused : (n : ℤ) (r : Refusal) → first_of (reduce_checks S L a n o) ≡ Some r → reduce_order S L a n (Some o) ≡ done S L (Err r)
  reduce_refused n r e = ap (λ x. unless x S L (some_off (nat_abs n))) e

  module _ (m : ℕ) (S' : State) (L' : Lines) (f : Figures) (taken : TakenOffBook S L o m S' L' f) where
    pub withdraw_done : m ≡ lots_of o → first_of (withdraw_checks S L a o) ≡ None → withdraw_order S L a (Some o) ≡ done S' L' (Ok (Withdrawn f))
    withdraw_done all e =
        let none : 0 ≡ lots_of o - m = omega arith in
        ap (λ x. unless x S L all_off) e
        ∙ ap (λ n. off_the_book S L o n (Withdrawn (figures_of o.number 0 0 n))) (sym all)
        ∙ ap (λ n. off_the_book S L o m (Withdrawn (figures_of o.number 0 n m))) none
        ∙ ap (λ x. off_the_book S L o m (Withdrawn x)) (sym taken.0)
        ∙ taken.1 (Withdrawn f)

    pub reduce_done : (n : ℤ) → m ≡ nat_abs n → first_of (reduce_checks S L a n o) ≡ None → reduce_order S L a n (Some o) ≡ done S' L' (Ok (Reduced f))
    reduce_done n size e =
        ap (λ x. unless x S L (some_off (nat_abs n))) e
        ∙ ap some_off (sym size)
        ∙ ap (λ x. off_the_book S L o m (Reduced x)) (sym taken.0)
        ∙ taken.1 (Reduced f)
