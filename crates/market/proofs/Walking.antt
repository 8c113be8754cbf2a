-- A walk from its first trade to its end. Assumes nothing.
use Rattle.std.proofs.Common.{◌≡◌, ℕ, ◌-◌, ◌<◌, ◌≤◌, min, Bool, true, false, not, eqb, leb, List, [], ◌∷◌, ◌++◌, None, sym, refl, ap, ◌∙◌, subst, inl, append_assoc, append-nil, arith}
use Rattle.std.specs.List.{AllByRecursion}
use Rattle.std.proofs.lemmas.Bool.{cond_both, eqb-false, eqb-true, false≢true, leb-false, leb-true, not-false, not-true}
use Rattle.ordered.specs.Key.{eq_z}
use Rattle.ordered.proofs.Keys.{eq_z_false}
use Rattle.clearing.specs.Centre.{Lines}
use Rattle.clearing.specs.Side.{other}
use Rattle.dealing.specs.declared.call.Entry.{Entry}
use Rattle.market.proofs.Lowering.{lower_first-all, lower_first_part}
use Rattle.market.proofs.Walks.{Midway, head_matched, mid_trade, trade_entry, trade_resting}
use Rattle.market.specs.Calls.{is_short, settle_trade, settle_trades}
use Rattle.market.specs.Law.{Eligible, Event, Matched, entry_number, numbered, resting_number, trades_before}
use Rattle.market.specs.Order.{account_of, lots_of, lower, lowered, party, side_of, trade_of}
use Rattle.market.specs.Rule.{Lawful, Rule}
use Rattle.market.specs.Walk.{Walked, after_trade, walk, walked}
use Rattle.market.specs.declared.ending.Ending.TheVariants.{Filled as filled, Own as own, Short as short}
use Rattle.market.specs.declared.order.Order.{Order}
use Rattle.market.specs.declared.trade.Trade.{Trade}

-- what holds of a walk holds of every walk if it holds of each ending and goes on over each trade
module _ (eligible : Order → Bool) (e : Entry) (k : ℕ) (P : ℕ → List Order → Walked → Type 0)
    (used-up : (n : ℕ) (q : List Order) → n ≡ 0 → P n q (walked [] q n filled))
    (over : (n : ℕ) → 1 ≤ n → P n [] (walked [] [] n short))
    (not-eligible : (n : ℕ) (o : Order) (q : List Order) → 1 ≤ n → eligible o ≡ false → P n (o ∷ q) (walked [] (o ∷ q) n short))
    (at_own : (n : ℕ) (o : Order) (q : List Order) → P n (o ∷ q) (walked [] (o ∷ q) n own))
    (empties : (n : ℕ) (o : Order) (q : List Order) (w : Walked) → 1 ≤ n → eligible o ≡ true → (account_of o ≡ e.account → ⊥) → lots_of o ≤ n → P (n - lots_of o) q w → P n (o ∷ q) (after_trade (trade_of e.side (party k e.account) o (lots_of o)) w))
    (uses-up : (n : ℕ) (o : Order) (q : List Order) → 1 ≤ n → eligible o ≡ true → (account_of o ≡ e.account → ⊥) → n < lots_of o → P n (o ∷ q) (walked (trade_of e.side (party k e.account) o n ∷ []) (lowered o n ∷ q) 0 filled)) where
  pub walk_induction : (n : ℕ) (q : List Order) → P n q (walk eligible e k n q)
  walk_induction n [] =
      cond_both (eqb n 0) filled short (λ x. P n [] (walked [] [] n x)) (λ t. used-up n [] (eqb-true n 0 t)) (λ f. let i = eqb-false n 0 f in over n (omega arith))
  walk_induction n (o ∷ q) =
      let go = walk_induction (n - lots_of o) q in
      cond_both (eqb n 0) _ _ (P n (o ∷ q)) (λ t. used-up n (o ∷ q) (eqb-true n 0 t)) (λ f.
      let some : 1 ≤ n = let i = eqb-false n 0 f in omega arith in
      cond_both (not (eligible o)) _ _ (P n (o ∷ q)) (λ t. not-eligible n o q some (not-true _ t)) (λ t.
      let el = not-false (eligible o) t in
      cond_both (eq_z (account_of o) e.account) _ _ (P n (o ∷ q)) (λ _. at_own n o q) (λ ne.
      cond_both (leb (lots_of o) n) _ _ (P n (o ∷ q))
      (λ all. empties n o q _ some el (eq_z_false _ _ ne) (leb-true _ _ all) go)
      (λ part. uses-up n o q some el (eq_z_false _ _ ne) (leb-false _ _ part)))))

-- each trade of a list passes with the trades before it
abbrev pub Prefixed : (List Trade → Trade → Type 0) → List Trade → List Trade → Type 0
Prefixed P G [] = Unit {0}
Prefixed P G (t ∷ ts) = P G t × Prefixed P (G ++ t ∷ []) ts

-- the first order of what is left of a queue is not eligible
abbrev pub Stopped : (Order → Bool) → List Order → Type 0
Stopped eligible [] = Unit {0}
Stopped eligible (o ∷ q) = eligible o ≡ false

-- what a walk of an entry, begun with n lots after the trades G over the lines L, has come to
pub record WalkedOn (R : Rule) (E : List Event) (e : Entry) (k : ℕ) (mine : List Order) (G₀ : List Trade) (eligible : Order → Bool) (G : List Trade) (n : ℕ) (L : Lines) (w : Walked) : Type 0 where
  pub after : Midway R E e k mine G₀ (G ++ w.trades) w.left w.queue (settle_trades L w.trades)
  pub matched : Prefixed (λ before t. Matched R E before e k t) G w.trades
  pub numbers : AllByRecursion (λ t. (entry_number t ≡ k) × (resting_number t < k)) w.trades
  pub fewer : w.left ≤ n
  pub stopped : is_short w.ending ≡ true → (1 ≤ w.left) × Stopped eligible w.queue

module _ (R : Rule) (lawful : Lawful R) (E : List Event) (e : Entry) (k : ℕ) (mine : List Order) (G₀ : List Trade) (fresh : (j : ℕ) → k ≤ j → numbered E j ≡ None) (eligible : Order → Bool)
    (means : (G : List Trade) → trades_before k G ≡ G₀ → (o : Order) → side_of o ≡ other e.side → eligible o ≡ true → Eligible e.kind R E G e k o) where
  abbrev Goes : ℕ → List Order → Walked → Type 0
  Goes n q w = (G : List Trade) (L : Lines) → Midway R E e k mine G₀ G n q L → WalkedOn R E e k mine G₀ eligible G n L w

  -- a walk that stops where it stands
  stops : (n : ℕ) (q : List Order) (x : _) → (is_short x ≡ true → (1 ≤ n) × Stopped eligible q) → Goes n q (walked [] q n x)
  stops n q x why G L mid = record {
    after = subst (λ H. Midway R E e k mine G₀ H n q L) (sym (append-nil G)) mid;
    matched = tt;
    numbers = tt;
    fewer = omega arith;
    stopped = why;
  }

  trade_numbers : (G : List Trade) (t : Trade) → Matched R E G e k t → (entry_number t ≡ k) × (resting_number t < k)
  trade_numbers G t m =
      let me = party k e.account in
      let h = m.earlier in
      let r = ap resting_number m.recorded ∙ trade_resting e.side me m.order t.lots h in
      (ap entry_number m.recorded ∙ trade_entry e.side me m.order t.lots h, omega arith)

  -- one trade, with as many lots as the entry and the first order both have
  trades : (n m : ℕ) (o : Order) (q q' : List Order) → 1 ≤ m → m ≡ min n (lots_of o) → eligible o ≡ true → (account_of o ≡ e.account → ⊥) → lower o.number m (o ∷ q) ≡ q' → (G : List Trade) (L : Lines) → Midway R E e k mine G₀ G n (o ∷ q) L →
      let t = trade_of e.side (party k e.account) o m in Midway R E e k mine G₀ (G ++ t ∷ []) (n - m) q' (settle_trade L t) × Matched R E G e k t
  trades n m o q q' some least el ne after G L mid =
      let t : Trade = trade_of e.side (party k e.account) o m in (
        subst (λ l. Midway R E e k mine G₀ (G ++ t ∷ []) (n - m) l (settle_trade L t)) after (mid_trade R lawful E e k mine G₀ fresh G n o q L mid m (omega arith) (omega arith)),
        head_matched R lawful E e k mine G₀ fresh G n o q L mid m some least ne (means G mid.earlier o (mid.theirs_kept.rest o (inl refl)).1 el),
      )

  pub walk_goes : (n : ℕ) (q : List Order) → Goes n q (walk eligible e k n q)
  walk_goes =
      walk_induction eligible e k Goes
      (λ n q z. stops n q filled (λ f. absurd (false≢true f)))
      (λ n some. stops n [] short (λ _. (some, tt)))
      (λ n o q some el. stops n (o ∷ q) short (λ _. (some, el)))
      (λ n o q. stops n (o ∷ q) own (λ f. absurd (false≢true f)))
      (λ n o q w some el ne all go G L mid.
      let t : Trade = trade_of e.side (party k e.account) o (lots_of o) in
      let left = (mid.theirs_kept.rest o (inl refl)).0.left in
      let one = trades n (lots_of o) o q q left (omega arith) el ne (lower_first-all o q) G L mid in
      let on = go (G ++ t ∷ []) (settle_trade L t) one.0 in
      record {
        after = subst (λ H. Midway R E e k mine G₀ H w.left w.queue (settle_trades (settle_trade L t) w.trades)) (append_assoc G (t ∷ []) w.trades) on.after;
        matched = (one.1, on.matched);
        numbers = (trade_numbers G t one.1, on.numbers);
        fewer = let i = on.fewer in omega arith;
        stopped = on.stopped;
      })
      (λ n o q some el ne part G L mid.
      let t : Trade = trade_of e.side (party k e.account) o n in
      let one = trades n n o q (lowered o n ∷ q) some (omega arith) el ne (lower_first_part o n q part) G L mid in
      record {
        after = subst (λ m. Midway R E e k mine G₀ (G ++ t ∷ []) m (lowered o n ∷ q) (settle_trade L t)) (omega arith) one.0;
        matched = (one.1, tt);
        numbers = (trade_numbers G t one.1, tt);
        fewer = omega arith;
        stopped = λ f. absurd (false≢true f);
      })
