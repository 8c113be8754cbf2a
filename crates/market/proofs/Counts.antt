-- Lots counted for an account and a side: in a queue, in a trade, and on a centre's line. Assumes nothing.
use Rattle.std.proofs.Common.{◌≡◌, ℕ, zero, suc, ◌+◌, ◌-◌, ◌≤◌, Bool, true, false, cond, eqb, leb, List, [], ◌∷◌, ◌++◌, ℤ, Some, None, Option, sym, refl, ap, ◌∙◌, subst, inl, inr, arith}
use Rattle.std.specs.Option.{option_map}
use Rattle.std.specs.List.{insert}
use Rattle.std.proofs.lemmas.Bool.{cases_Bool, cond_both, cond-false, cond-true, eqb-true, eqb-false, leb-true}
use Rattle.ordered.specs.Key.{eq_z}
use Rattle.ordered.proofs.Keys.{eq_z_refl, eq_z_true}
use Rattle.clearing.specs.Centre.{Lines, adjusted}
use Rattle.clearing.specs.Line.{hold, release, settle}
use Rattle.clearing.specs.Side.{other}
use Rattle.clearing.specs.declared.line.Line.{Line}
use Rattle.clearing.specs.declared.side.Side.{Side}
use Rattle.clearing.specs.declared.side.Side.TheVariants.{Buy, Sell}
use Rattle.market.proofs.Resting.{Distinct}
use Rattle.market.specs.Calls.{settle_trade}
use Rattle.market.specs.Law.{In, counted, held_on, lots_queued, settled_on, total}
use Rattle.market.specs.Order.{account_of, left_of, lots_of, lower, lowered, side_of, trade_of}
use Rattle.market.specs.declared.order.Order.{Order}
use Rattle.market.specs.declared.trade.Party.{Party}
use Rattle.market.specs.declared.trade.Trade.{Trade}

-- n lots, if the sides are the same
abbrev pub on_side : Side → Side → ℕ → ℕ
on_side Buy Buy n = n
on_side Buy Sell n = 0
on_side Sell Buy n = 0
on_side Sell Sell n = n

cond_none : (b : Bool) → ◌≡◌ {A = ℕ} 0 (cond b 0 0)
cond_none true = refl
cond_none false = refl

-- lots count where account and side are the same
counted_is : (a : ℤ) (s : Side) (b : ℤ) (t : Side) (n : ℕ) → counted a s b t n ≡ cond (eq_z b a) (on_side s t n) 0
counted_is a Buy b Buy n = refl
counted_is a Buy b Sell n = cond_none (eq_z b a)
counted_is a Sell b Buy n = cond_none (eq_z b a)
counted_is a Sell b Sell n = refl

counted_same : (a : ℤ) (s : Side) (b : ℤ) (t : Side) (n : ℕ) → eq_z b a ≡ true → counted a s b t n ≡ on_side s t n
counted_same a s b t n e = counted_is a s b t n ∙ cond-true _ _ _ e

counted_other : (a : ℤ) (s : Side) (b : ℤ) (t : Side) (n : ℕ) → eq_z b a ≡ false → counted a s b t n ≡ 0
counted_other a s b t n e = counted_is a s b t n ∙ cond-false _ _ _ e

on_side_add : (s t : Side) (m n : ℕ) → on_side s t (m + n) ≡ on_side s t m + on_side s t n
on_side_add Buy Buy m n = refl
on_side_add Buy Sell m n = refl
on_side_add Sell Buy m n = refl
on_side_add Sell Sell m n = refl

-- lots count one by one
pub counted_add : (a : ℤ) (s : Side) (b : ℤ) (t : Side) (m n : ℕ) → counted a s b t (m + n) ≡ counted a s b t m + counted a s b t n
counted_add a s b t m n =
    elim (cases_Bool (eq_z b a)) [
      | inl e ↦ (let x = counted_same a s b t (m + n) e in let y = counted_same a s b t m e in let z = counted_same a s b t n e in let w = on_side_add s t m n in omega arith)
      | inr e ↦ (let x = counted_other a s b t (m + n) e in let y = counted_other a s b t m e in let z = counted_other a s b t n e in omega arith)
    ]

pub counted_none : (a : ℤ) (s : Side) (b : ℤ) (t : Side) → counted a s b t 0 ≡ 0
counted_none a s b t = let e = counted_add a s b t 0 0 in omega arith

-- lots counted in two parts
pub counted_split : (a : ℤ) (s : Side) (b : ℤ) (t : Side) (m n : ℕ) → m ≤ n → counted a s b t n ≡ counted a s b t (n - m) + counted a s b t m
counted_split a s b t m n h =
    let e : n ≡ n - m + m = omega arith in ap (counted a s b t) e ∙ counted_add a s b t (n - m) m

on_side_self : (s : Side) (n : ℕ) → on_side s s n ≡ n
on_side_self Buy n = refl
on_side_self Sell n = refl

-- an account's own lots count for it
pub counted_self : (a : ℤ) (s : Side) (n : ℕ) → counted a s a s n ≡ n
counted_self a s n = counted_same a s a s n (eq_z_refl a) ∙ on_side_self s n

-- a trade counts for its entry and for its order
pub trade_counts : (a : ℤ) (z : Side) (s : Side) (me : Party) (o : Order) (n : ℕ) → let t = trade_of s me o n in counted a z t.buy.account Buy t.lots + counted a z t.sell.account Sell t.lots ≡ counted a z me.account s n + counted a z (account_of o) (other s) n
trade_counts a z Buy me o n = refl
trade_counts a z Sell me o n = omega arith

-- A queue's lots

-- an order's lots are among those of its queue
pub queued_at_least : (a : ℤ) (s : Side) (q : List Order) (o : Order) → In o q → counted a s (account_of o) (side_of o) (lots_of o) ≤ lots_queued q a s
queued_at_least a s [] o i = absurd i
queued_at_least a s (x ∷ q) o (inl e) =
    let f = ap (λ y. counted a s (account_of y) (side_of y) (lots_of y)) e in omega arith
queued_at_least a s (x ∷ q) o (inr i) = let h = queued_at_least a s q o i in omega arith

-- a queue whose order o is lowered by n lots has so many fewer of its account and side
pub queued_lower : (a : ℤ) (s : Side) (k n : ℕ) (q : List Order) → Distinct q → (o : Order) → In o q → o.number ≡ k → n ≤ lots_of o → lots_queued (lower k n q) a s + counted a s (account_of o) (side_of o) n ≡ lots_queued q a s
queued_lower a s k n [] d o i e h = absurd i
queued_lower a s k n (x ∷ q) d o (inl same) e h =
    let c : Order → ℕ → ℕ = λ y m. counted a s (account_of y) (side_of y) m in
    let f = ap (λ y. c y n) same in
    let l = ap lots_of same in
    cond_both (eqb x.number k) (left_of x n ++ q) (x ∷ lower k n q) (λ w. lots_queued w a s + c o n ≡ lots_queued (x ∷ q) a s)
    (λ _. cond_both (leb (lots_of x) n) [] (lowered x n ∷ []) (λ w. lots_queued (w ++ q) a s + c o n ≡ lots_queued (x ∷ q) a s)
    (λ t. let g = leb-true _ _ t in let y : n ≡ lots_of x = omega arith in let z = ap (c x) y in omega arith)
    (λ t. let z = counted_split a s (account_of x) (side_of x) n (lots_of x) (omega arith) in omega arith))
    (λ t. absurd (eqb-false x.number k t (ap (λ (y : Order). y.number) (sym same) ∙ e)))
queued_lower a s k n (x ∷ q) d o (inr i) e h =
    let c : ℕ = counted a s (account_of o) (side_of o) n in
    cond_both (eqb x.number k) (left_of x n ++ q) (x ∷ lower k n q) (λ w. lots_queued w a s + c ≡ lots_queued (x ∷ q) a s)
    (λ t. absurd (d.0 o i (e ∙ sym (eqb-true x.number k t))))
    (λ t. let g = queued_lower a s k n q d.1 o i e h in omega arith)

-- a sum over a list with an item put in
pub total_inserted : {X : Type 0} (f : X → ℕ) (xs : List X) (i : ℕ) (x : X) → total f (insert xs i x) ≡ total f xs + f x
total_inserted f [] zero x = omega arith
total_inserted f [] (suc i) x = omega arith
total_inserted f (y ∷ ys) zero x = omega arith
total_inserted f (y ∷ ys) (suc i) x = let e = total_inserted f ys i x in omega arith

-- A centre's line

-- lots held and settled on a line after n of the lots held on the side t are settled
settled_line : (s t : Side) (n : ℕ) (o : Option Line) → n ≤ held_on o t → (held_on (option_map (settle t n) o) s + on_side s t n ≡ held_on o s) × (settled_on (option_map (settle t n) o) s ≡ settled_on o s + on_side s t n)
settled_line Buy Buy n None h = (omega arith, omega arith)
settled_line Buy Sell n None h = (omega arith, omega arith)
settled_line Sell Buy n None h = (omega arith, omega arith)
settled_line Sell Sell n None h = (omega arith, omega arith)
settled_line Buy Buy n (Some l) h = (omega arith, omega arith)
settled_line Buy Sell n (Some l) h = (omega arith, omega arith)
settled_line Sell Buy n (Some l) h = (omega arith, omega arith)
settled_line Sell Sell n (Some l) h = (omega arith, omega arith)

-- after n of the lots held on the side t are given back
released_line : (s t : Side) (n : ℕ) (o : Option Line) → n ≤ held_on o t → (held_on (option_map (release t n) o) s + on_side s t n ≡ held_on o s) × (settled_on (option_map (release t n) o) s ≡ settled_on o s)
released_line Buy Buy n None h = (omega arith, refl)
released_line Buy Sell n None h = (omega arith, refl)
released_line Sell Buy n None h = (omega arith, refl)
released_line Sell Sell n None h = (omega arith, refl)
released_line Buy Buy n (Some l) h = (omega arith, refl)
released_line Buy Sell n (Some l) h = (omega arith, refl)
released_line Sell Buy n (Some l) h = (omega arith, refl)
released_line Sell Sell n (Some l) h = (omega arith, refl)

-- after n lots more are held on the side t of a line that is there
held_line : (s t : Side) (n : ℕ) (l : Line) → (held_on (Some (hold t n l)) s ≡ held_on (Some l) s + on_side s t n) × (settled_on (Some (hold t n l)) s ≡ settled_on (Some l) s)
held_line Buy Buy n l = (refl, refl)
held_line Buy Sell n l = (omega arith, refl)
held_line Sell Buy n l = (omega arith, refl)
held_line Sell Sell n l = (refl, refl)

-- the line of an account after that of the account b is adjusted
at_account : (L : Lines) (b a : ℤ) (f : Line → Line) → eq_z b a ≡ true → adjusted L b f a ≡ option_map f (L a)
at_account L b a f e = cond-true (eq_z b a) _ _ e

elsewhere : (L : Lines) (b a : ℤ) (f : Line → Line) → eq_z b a ≡ false → adjusted L b f a ≡ L a
elsewhere L b a f e = cond-false (eq_z b a) _ _ e

module _ (L : Lines) (b : ℤ) (t : Side) (n : ℕ) (enough : n ≤ held_on (L b) t) (a : ℤ) (s : Side) where
  enough_at : eq_z b a ≡ true → n ≤ held_on (L a) t
  enough_at e = subst (λ x. n ≤ held_on (L x) t) (eq_z_true b a e) enough

  -- settling n lots of the account b
  pub held_settled : held_on (adjusted L b (settle t n) a) s + counted a s b t n ≡ held_on (L a) s
  held_settled =
      elim (cases_Bool (eq_z b a)) [
        | inl e ↦ (let x = ap (λ o. held_on o s) (at_account L b a (settle t n) e) in let y = (settled_line s t n (L a) (enough_at e)).0 in let z = counted_same a s b t n e in omega arith)
        | inr e ↦ (let x = ap (λ o. held_on o s) (elsewhere L b a (settle t n) e) in let z = counted_other a s b t n e in omega arith)
      ]

  pub settled_settled : settled_on (adjusted L b (settle t n) a) s ≡ settled_on (L a) s + counted a s b t n
  settled_settled =
      elim (cases_Bool (eq_z b a)) [
        | inl e ↦ (let x = ap (λ o. settled_on o s) (at_account L b a (settle t n) e) in let y = (settled_line s t n (L a) (enough_at e)).1 in let z = counted_same a s b t n e in omega arith)
        | inr e ↦ (let x = ap (λ o. settled_on o s) (elsewhere L b a (settle t n) e) in let z = counted_other a s b t n e in omega arith)
      ]

  -- giving n lots of the account b back
  pub held_released : held_on (adjusted L b (release t n) a) s + counted a s b t n ≡ held_on (L a) s
  held_released =
      elim (cases_Bool (eq_z b a)) [
        | inl e ↦ (let x = ap (λ o. held_on o s) (at_account L b a (release t n) e) in let y = (released_line s t n (L a) (enough_at e)).0 in let z = counted_same a s b t n e in omega arith)
        | inr e ↦ (let x = ap (λ o. held_on o s) (elsewhere L b a (release t n) e) in let z = counted_other a s b t n e in omega arith)
      ]

  pub settled_released : settled_on (adjusted L b (release t n) a) s ≡ settled_on (L a) s
  settled_released =
      elim (cases_Bool (eq_z b a)) [
        | inl e ↦ ap (λ o. settled_on o s) (at_account L b a (release t n) e) ∙ (released_line s t n (L a) (enough_at e)).1
        | inr e ↦ ap (λ o. settled_on o s) (elsewhere L b a (release t n) e)
      ]

-- holding n lots more for the account b, which has a line
pub held_held : (L : Lines) (b : ℤ) (t : Side) (n : ℕ) (l : Line) → L b ≡ Some l → (a : ℤ) (s : Side) → (held_on (adjusted L b (hold t n) a) s ≡ held_on (L a) s + counted a s b t n) × (settled_on (adjusted L b (hold t n) a) s ≡ settled_on (L a) s)
held_held L b t n l has a s =
    elim (cases_Bool (eq_z b a)) [
      | inl e ↦
          let here : L a ≡ Some l = ap L (sym (eq_z_true b a e)) ∙ has in
          let there : adjusted L b (hold t n) a ≡ Some (hold t n l) = at_account L b a (hold t n) e ∙ ap (option_map (hold t n)) here in
          let h = ap (λ o. held_on o s) here in
          let h' = ap (λ o. held_on o s) there in
          let y = (held_line s t n l).0 in
          let z = counted_same a s b t n e in
          (omega arith, ap (λ o. settled_on o s) there ∙ (held_line s t n l).1 ∙ sym (ap (λ o. settled_on o s) here))
      | inr e ↦
          let x = elsewhere L b a (hold t n) e in
          let h = ap (λ o. held_on o s) x in
          let z = counted_other a s b t n e in
          (omega arith, ap (λ o. settled_on o s) x)
    ]

-- a trade's lots, which both lines hold, are settled on both
pub trade_settled : (L : Lines) (t : Trade) → t.lots ≤ held_on (L t.buy.account) Buy → t.lots ≤ held_on (L t.sell.account) Sell → (a : ℤ) (s : Side) → (held_on (settle_trade L t a) s + (counted a s t.buy.account Buy t.lots + counted a s t.sell.account Sell t.lots) ≡ held_on (L a) s) × (settled_on (settle_trade L t a) s ≡ settled_on (L a) s + (counted a s t.buy.account Buy t.lots + counted a s t.sell.account Sell t.lots))
trade_settled L t hb hs a s =
    let L₁ : Lines = adjusted L t.buy.account (settle Buy t.lots) in
    let still : held_on (L₁ t.sell.account) Sell + 0 ≡ held_on (L t.sell.account) Sell = held_settled L t.buy.account Buy t.lots hb t.sell.account Sell in
    let hs₁ : t.lots ≤ held_on (L₁ t.sell.account) Sell = omega arith in
    let x = held_settled L t.buy.account Buy t.lots hb a s in
    let y = held_settled L₁ t.sell.account Sell t.lots hs₁ a s in
    let u = settled_settled L t.buy.account Buy t.lots hb a s in
    let v = settled_settled L₁ t.sell.account Sell t.lots hs₁ a s in
    (omega arith, omega arith)
