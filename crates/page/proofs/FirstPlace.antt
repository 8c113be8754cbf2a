-- The first place whose element passes, by a definition that counts the places from k on. Assumes nothing.
use Rattle.std.proofs.Common.{◌≡◌, ℕ, zero, suc, ◌+◌, ◌<◌, Bool, true, false, cond, List, [], ◌∷◌, length, Some, None, Option, ap, ◌∙◌, arith}
use Rattle.std.specs.List.{AllWithin, HoldsAt}
use Rattle.std.proofs.lemmas.Bool.{cond-false, cond-true}

module _ {X : Type 0} (passes : X → Bool) (F : ℕ → List X → Option ℕ) (none : (k : ℕ) → F k [] ≡ None) (step : (k : ℕ) (x : X) (xs : List X) → F k (x ∷ xs) ≡ cond (passes x) (Some k) (F (suc k) xs)) where
  pub no_place : (k : ℕ) (xs : List X) → AllWithin (λ x. passes x ≡ false) xs 0 (length xs) → F k xs ≡ None
  no_place k [] fail = none k
  no_place k (x ∷ xs) fail =
      step k x xs ∙ cond-false _ _ _ (fail 0 x (omega arith) (omega arith)) ∙ no_place (suc k) xs (λ i d a b. fail (suc i) d (omega arith) (omega arith))

  pub first_place : (k : ℕ) (xs : List X) (i : ℕ) → i < length xs → HoldsAt (λ x. passes x ≡ true) xs i → AllWithin (λ x. passes x ≡ false) xs 0 i → F k xs ≡ Some (k + i)
  first_place k [] i within pass fail = absurd (omega arith)
  first_place k (x ∷ xs) zero within pass fail = step k x xs ∙ cond-true _ _ _ (pass x) ∙ ap (λ n. Some n) (omega arith)
  first_place k (x ∷ xs) (suc i) within pass fail =
      step k x xs
      ∙ cond-false _ _ _ (fail 0 x (omega arith) (omega arith))
      ∙ first_place (suc k) xs i (omega arith) (λ d. pass d) (λ j d a b. fail (suc j) d (omega arith) (omega arith))
      ∙ ap (λ n. Some n) (omega arith)
