-- Carrying out a trade: in which sequence its lots are settled, and that the lines still hold what is to be settled next.
-- Assumes nothing.
use Rattle.std.proofs.Common.{◌≡◌, ℕ, ◌+◌, ◌-◌, ◌≤◌, Bool, true, false, cond, leb, List, [], ◌∷◌, ◌++◌, ℤ, Some, None, Option, sym, refl, ap, ◌∙◌, subst, inl, inr, arith}
use mathlib.Core.Path.{fun_ext}
use Rattle.std.specs.Option.{option_map}
use Rattle.std.proofs.lemmas.Bool.{cases_Bool, cond_both, cond-false, cond-true, le-leb, leb-true}
use Rattle.ordered.specs.Key.{eq_z}
use Rattle.ordered.proofs.Keys.{eq_z_refl, eq_z_true, ne_eq_z}
use Rattle.clearing.specs.Centre.{Lines, adjusted, holds}
use Rattle.clearing.specs.Line.{hold, settle}
use Rattle.clearing.specs.Side.{other}
use Rattle.clearing.specs.declared.line.Line.{Line}
use Rattle.clearing.specs.declared.side.Side.{Side}
use Rattle.clearing.specs.declared.side.Side.TheVariants.{Buy, Sell}
use Rattle.market.specs.Calls.{settle_trade}
use Rattle.market.specs.Order.{account_of, left_of, lots_of, lots_resting, lowered, trade_of}
use Rattle.market.specs.declared.order.Order.{Order}
use Rattle.market.specs.declared.trade.Party.{Party}

-- the lines of two accounts can be adjusted in either sequence
adjusted_swap : (L : Lines) (a b : ℤ) (f g : Line → Line) → (a ≡ b → ⊥) → adjusted (adjusted L a f) b g ≡ adjusted (adjusted L b g) a f
adjusted_swap L a b f g ne =
    fun_ext (λ x. swapped (eq_z a x) (eq_z b x) (L x) (λ t u. ne (eq_z_true a x t ∙ sym (eq_z_true b x u))))
  where
    swapped : (t u : Bool) (o : Option Line) → (t ≡ true → u ≡ true → ⊥) → cond u (option_map g (cond t (option_map f o) o)) (cond t (option_map f o) o) ≡ cond t (option_map f (cond u (option_map g o) o)) (cond u (option_map g o) o)
    swapped true true o never = absurd (never refl refl)
    swapped true false o never = refl
    swapped false true o never = refl
    swapped false false o never = refl

-- the entry's lots can be settled first
pub entry_settled_first : (L : Lines) (s : Side) (me : Party) (o : Order) (m : ℕ) → (account_of o ≡ me.account → ⊥) → adjusted (adjusted L me.account (settle s m)) (account_of o) (settle (other s) m) ≡ settle_trade L (trade_of s me o m)
entry_settled_first L Buy me o m ne = refl
entry_settled_first L Sell me o m ne = adjusted_swap L me.account (account_of o) (settle Sell m) (settle Buy m) (λ e. ne (sym e))

-- What the lines hold

-- a line that holds lots holds fewer
pub holds_fewer : (o : Option Line) (s : Side) (m n : ℕ) → m ≤ n → holds o s n ≡ true → holds o s m ≡ true
holds_fewer None s m n h t = t
holds_fewer (Some l) s m n h t = let x = leb-true n _ t in le-leb m _ (omega arith)

-- after m of the lots that a line holds on a side were settled it still holds the others
settled_holds : (o : Option Line) (s : Side) (m n : ℕ) → holds o s (m + n) ≡ true → holds (option_map (settle s m) o) s n ≡ true
settled_holds None s m n t = t
settled_holds (Some l) Buy m n t = let x = leb-true (m + n) _ t in le-leb n _ (omega arith)
settled_holds (Some l) Sell m n t = let x = leb-true (m + n) _ t in le-leb n _ (omega arith)

-- what is settled on a side is not held less on the other
other_holds : (o : Option Line) (s : Side) (m n : ℕ) → holds o (other s) n ≡ true → holds (option_map (settle s m) o) (other s) n ≡ true
other_holds None s m n t = t
other_holds (Some l) Buy m n t = t
other_holds (Some l) Sell m n t = t

-- a line that is there holds lots that were just reserved
pub reserved_holds : (l : Line) (s : Side) (n : ℕ) → holds (Some (hold s n l)) s n ≡ true
reserved_holds l Buy n = le-leb n _ (omega arith)
reserved_holds l Sell n = le-leb n _ (omega arith)

-- and all lots that it held before, on either side
pub reserved_still_holds : (o : Option Line) (s z : Side) (n m : ℕ) → holds o z m ≡ true → holds (option_map (hold s n) o) z m ≡ true
reserved_still_holds None s z n m t = t
reserved_still_holds (Some l) Buy Buy n m t = let x = leb-true m _ t in le-leb m _ (omega arith)
reserved_still_holds (Some l) Buy Sell n m t = t
reserved_still_holds (Some l) Sell Buy n m t = t
reserved_still_holds (Some l) Sell Sell n m t = let x = leb-true m _ t in le-leb m _ (omega arith)

-- the lots of an account that rest in a queue whose first order is lowered by m lots
pub resting_left : (b : ℤ) (o : Order) (m : ℕ) (q : List Order) → m ≤ lots_of o → cond (eq_z (account_of o) b) m 0 + lots_resting b (left_of o m ++ q) ≡ lots_resting b (o ∷ q)
resting_left b o m q h =
    cond_both (leb (lots_of o) m) [] (lowered o m ∷ []) (λ l. cond (eq_z (account_of o) b) m 0 + lots_resting b (l ++ q) ≡ lots_resting b (o ∷ q))
    (λ t. let x = leb-true (lots_of o) m t in let e : m ≡ lots_of o = omega arith in ap (λ n. cond (eq_z (account_of o) b) n 0 + lots_resting b q) e)
    (λ _. elim (cases_Bool (eq_z (account_of o) b)) [
      | inl t ↦ (let x = cond-true (eq_z (account_of o) b) m 0 t in let y = cond-true (eq_z (account_of o) b) (lots_of o) 0 t in let z = cond-true (eq_z (account_of o) b) (lots_of o - m) 0 t in omega arith)
      | inr f ↦ (let x = cond-false (eq_z (account_of o) b) m 0 f in let y = cond-false (eq_z (account_of o) b) (lots_of o) 0 f in let z = cond-false (eq_z (account_of o) b) (lots_of o - m) 0 f in omega arith)
    ])

module _ (L : Lines) (s : Side) (a : ℤ) (o : Order) (m : ℕ) where
  -- the lines after the entry's and then the order's lots are settled
  abbrev both_settled : Lines
  both_settled = adjusted (adjusted L a (settle s m)) (account_of o) (settle (other s) m)

  -- every account whose resting lots the lines held holds those that still rest
  pub still_in_step : (b : ℤ) (q : List Order) → m ≤ lots_of o → holds (L b) (other s) (lots_resting b (o ∷ q)) ≡ true → holds (both_settled b) (other s) (lots_resting b (left_of o m ++ q)) ≡ true
  still_in_step b q h t =
      let first : (n : ℕ) → holds (L b) (other s) n ≡ true → holds (adjusted L a (settle s m) b) (other s) n ≡ true =
      λ n u. cond_both (eq_z a b) (option_map (settle s m) (L b)) (L b) (λ x. holds x (other s) n ≡ true) (λ _. other_holds (L b) s m n u) (λ _. u) in
      let rest = resting_left b o m q h in
      elim (cases_Bool (eq_z (account_of o) b)) [
        | inl e ↦ (let n = lots_resting b (left_of o m ++ q) in let x = cond-true (eq_z (account_of o) b) m 0 e in
            let sum : lots_resting b (o ∷ q) ≡ m + n = omega arith in
            subst (λ x. holds x (other s) n ≡ true) (sym (cond-true (eq_z (account_of o) b) (option_map (settle (other s) m) (adjusted L a (settle s m) b)) _ e)) (settled_holds _ (other s) m n (first (m + n) (subst (λ k. holds (L b) (other s) k ≡ true) sum t))))
        | inr f ↦ (let x = cond-false (eq_z (account_of o) b) m 0 f in
            let same : lots_resting b (o ∷ q) ≡ lots_resting b (left_of o m ++ q) = omega arith in
            subst (λ x. holds x (other s) (lots_resting b (left_of o m ++ q)) ≡ true) (sym (cond-false (eq_z (account_of o) b) (option_map (settle (other s) m) (adjusted L a (settle s m) b)) _ f)) (first _ (subst (λ k. holds (L b) (other s) k ≡ true) same t)))
      ]

  -- the entry's line holds what is left of the entry
  pub still_reserved : (n : ℕ) → m ≤ n → (account_of o ≡ a → ⊥) → holds (L a) s n ≡ true → holds (both_settled a) s (n - m) ≡ true
  still_reserved n h ne t =
      let all : n ≡ m + (n - m) = omega arith in
      let its : both_settled a ≡ option_map (settle s m) (L a) = cond-false (eq_z (account_of o) a) _ _ (ne_eq_z _ _ ne) ∙ cond-true (eq_z a a) _ _ (eq_z_refl a) in
      subst (λ x. holds x s (n - m) ≡ true) (sym its) (settled_holds (L a) s m (n - m) (subst (λ k. holds (L a) s k ≡ true) all t))
