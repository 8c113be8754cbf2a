-- What every order of a queue passes, where a lowered order passes it too: every order that is left passes it. Assumes
-- nothing.
use Rattle.std.proofs.Common.{◌≡◌, ℕ, zero, suc, Bool, true, eqb, leb, List, [], ◌∷◌, ◌++◌, ℤ, pos, Some, refl, IfSome}
use Rattle.std.specs.List.{list_all}
use Rattle.std.proofs.lemmas.Bool.{and_from, and_parts, cond_both}
use Rattle.ordered.specs.Key.{eq_z}
use Rattle.ordered.specs.Row.{at_key, place}
use Rattle.ordered.proofs.Orders.{all_pass_inserted}
use Rattle.dealing.specs.declared.call.Entry.{Entry}
use Rattle.market.proofs.Walking.{walk_induction}
use Rattle.market.specs.Order.{joined, left_of, lots_of, lower, lowered, sided}
use Rattle.market.specs.QueueTable.{lowered_at}
use Rattle.market.specs.Rule.{Rule}
use Rattle.market.specs.Walk.{walk}
use Rattle.market.specs.declared.order.Order.{Order}

module _ (p : Order → Bool) where
  -- an order that joins passes
  pub all_joined : (R : Rule) (x : Order) (q : List Order) → p x ≡ true → list_all p q ≡ true → list_all p (joined R x q) ≡ true
  all_joined R x q = all_pass_inserted p q (place (sided R) q x) x

  -- the order with a number passes, where there is one
  pub numbered_passes : (q : List Order) (k : ℤ) → list_all p q ≡ true → IfSome (at_key (λ o. pos o.number) q k) (λ o. p o ≡ true)
  numbered_passes [] k all = tt
  numbered_passes (o ∷ q) k all =
      let both = and_parts (p o) _ all in
      cond_both (eq_z (pos o.number) k) (Some o) (at_key (λ (x : Order). pos x.number) q k) (λ x. IfSome x (λ y. p y ≡ true)) (λ _. both.0) (λ _. numbered_passes q k both.1)

  module _ (stays : (o : Order) (n : ℕ) → p o ≡ true → p (lowered o n) ≡ true) where
    pub all_left : (o : Order) (n : ℕ) (q : List Order) → list_all p (o ∷ q) ≡ true → list_all p (left_of o n ++ q) ≡ true
    all_left o n q all =
        let both = and_parts (p o) _ all in
        cond_both (leb (lots_of o) n) [] (lowered o n ∷ []) (λ l. list_all p (l ++ q) ≡ true) (λ _. both.1) (λ _. and_from _ _ (stays o n both.0) both.1)

    -- the order with a number is lowered, where there is one
    pub all_lower : (k n : ℕ) (q : List Order) → list_all p q ≡ true → list_all p (lower k n q) ≡ true
    all_lower k n [] all = refl
    all_lower k n (o ∷ q) all =
        let both = and_parts (p o) _ all in
        cond_both (eqb o.number k) (left_of o n ++ q) (o ∷ lower k n q) (λ l. list_all p l ≡ true) (λ _. all_left o n q all) (λ _. and_from _ _ both.0 (all_lower k n q both.1))

    pub all_lowered_at : (i n : ℕ) (q : List Order) → list_all p q ≡ true → list_all p (lowered_at i n q) ≡ true
    all_lowered_at i n [] all = refl
    all_lowered_at zero n (o ∷ q) all = all_left o n q all
    all_lowered_at (suc i) n (o ∷ q) all =
        let both = and_parts (p o) _ all in
        and_from _ _ both.0 (all_lowered_at i n q both.1)

    pub all_walk : (eligible : Order → Bool) (e : Entry) (k n : ℕ) (q : List Order) → list_all p q ≡ true → list_all p (walk eligible e k n q).queue ≡ true
    all_walk eligible e k =
        walk_induction eligible e k (λ n q w. list_all p q ≡ true → list_all p w.queue ≡ true)
        (λ n q z all. all)
        (λ n some all. all)
        (λ n o q some el all. all)
        (λ n o q all. all)
        (λ n o q w some el ne whole go all. go (and_parts (p o) _ all).1)
        (λ n o q some el ne part all. let both = and_parts (p o) _ all in and_from _ _ (stays o n both.0) both.1)
