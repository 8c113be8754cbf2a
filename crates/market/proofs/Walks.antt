-- What a walk keeps from trade to trade, and which trades it makes. Assumes nothing.
use Rattle.std.proofs.Common.{◌≡◌, ℕ, ◌+◌, ◌-◌, ◌<◌, ◌≤◌, min, false, cond, eqb, ltb, List, [], ◌∷◌, ◌++◌, ℤ, None, sym, refl, ap, ◌∙◌, inl, inr, append-nil, arith}
use Rattle.std.specs.List.{list_all}
use Rattle.std.proofs.lemmas.List.Elements.{filter-append}
use Rattle.std.proofs.lemmas.Bool.{and_parts, cases_lt, cond-false, cond-true, eq-eqb, le-ltb, ne_eqb, not-true}
use Rattle.clearing.specs.Centre.{Lines}
use Rattle.clearing.specs.Side.{other}
use Rattle.clearing.specs.declared.side.Side.{Side}
use Rattle.clearing.specs.declared.side.Side.TheVariants.{Buy, Sell}
use Rattle.dealing.specs.declared.call.Entry.{Entry}
use Rattle.market.proofs.Counts.{counted_self, counted_split, queued_at_least, queued_lower, trade_counts, trade_settled}
use Rattle.market.proofs.Histories.{total-push}
use Rattle.market.proofs.Lowering.{Shift, in_lower, kept_apart, kept_lower}
use Rattle.market.proofs.Resting.{distinct, pass_in, rests_once}
use Rattle.market.specs.Calls.{entry_lots, settle_trade}
use Rattle.market.specs.Law.{Eligible, Event, First, In, Kept, Matched, Rests, counted, entry_number, held_on, lots_accepted, lots_off, lots_queued, lots_registered, numbered, resting_number, settled_on, traded_by, trades_before}
use Rattle.market.specs.Order.{account_of, before, lots_of, lower, party, quote_of, side_of, trade_of}
use Rattle.market.specs.Rule.{Lawful, Rule, meets_across}
use Rattle.market.specs.declared.order.Order.{Order}
use Rattle.market.specs.declared.trade.Party.{Party}
use Rattle.market.specs.declared.trade.Trade.{Trade}

-- The parts of a trade, for both sides of the entry

pub trade_lots : (s : Side) (me : Party) (o : Order) (n : ℕ) → (trade_of s me o n).lots ≡ n
trade_lots Buy me o n = refl
trade_lots Sell me o n = refl

pub trade_resting : (s : Side) (me : Party) (o : Order) (n : ℕ) → o.number < me.number → resting_number (trade_of s me o n) ≡ o.number
trade_resting Buy me o n h = omega arith
trade_resting Sell me o n h = omega arith

pub trade_entry : (s : Side) (me : Party) (o : Order) (n : ℕ) → o.number < me.number → entry_number (trade_of s me o n) ≡ me.number
trade_entry Buy me o n h = omega arith
trade_entry Sell me o n h = omega arith

-- both lines hold a trade's lots
trade_held : (L : Lines) (s : Side) (me : Party) (o : Order) (n : ℕ) → n ≤ held_on (L me.account) s → n ≤ held_on (L (account_of o)) (other s) → let t = trade_of s me o n in (t.lots ≤ held_on (L t.buy.account) Buy) × (t.lots ≤ held_on (L t.sell.account) Sell)
trade_held L Buy me o n h i = (h, i)
trade_held L Sell me o n h i = (i, h)

-- no side is its own other
pub other_differs : (s : Side) → s ≡ other s → ⊥
other_differs Buy e = let z : ◌≡◌ {A = ℕ} 0 1 = cc in omega arith
other_differs Sell e = let z : ◌≡◌ {A = ℕ} 0 1 = cc in omega arith

-- The first order of a queue stands first

module _ (R : Rule) (lawful : Lawful R) (E : List Event) (G : List Trade) where
  pub head_first : (s : Side) (o : Order) (q : List Order) → Kept R E G s (o ∷ q) → First R E G o
  head_first s o q kept =
      let d = distinct R lawful E G (o ∷ q) (λ p i. (kept.rest p i).0) kept.ordered in
      let mine = kept.rest o (inl refl) in
      record {
        rests = mine.0;
        first = λ p r e. elim (kept.all p r (e ∙ mine.1)) [
          | inl same ↦ ap (λ x. before R x o) same ∙ lawful.irreflexive (quote_of o)
          | inr i ↦ not-true (before R p o) (sym (lawful.decided (quote_of o) (quote_of p) (sym e) (λ z. d.0 p i (sym z))) ∙ pass_in R o q (and_parts (list_all (before R o) q) _ kept.ordered).0 p i)
        ];
      }

-- In the middle of a walk

-- an entry with n lots left, after the trades G, of which those before it were G₀: its own queue and the other one are kept and
-- do not meet, its lots left are held beside those that rest, and the others are those of its trades
pub record Midway (R : Rule) (E : List Event) (e : Entry) (k : ℕ) (mine : List Order) (G₀ : List Trade) (G : List Trade) (n : ℕ) (theirs : List Order) (L : Lines) : Type 0 where
  pub mine_kept : Kept R E G e.side mine
  pub theirs_kept : Kept R E G (other e.side) theirs
  pub apart : (m t : Order) → In m mine → In t theirs → meets_across R e.side (quote_of m) (quote_of t) ≡ false
  pub sums : (a : ℤ) (s : Side) → lots_accepted E a s + counted a s e.account e.side (entry_lots e) ≡ (lots_queued mine a s + lots_queued theirs a s) + counted a s e.account e.side n + lots_registered G a s + lots_off E a s
  pub held : (a : ℤ) (s : Side) → held_on (L a) s ≡ (lots_queued mine a s + lots_queued theirs a s) + counted a s e.account e.side n
  pub settled : (a : ℤ) (s : Side) → settled_on (L a) s ≡ lots_registered G a s
  pub earlier : trades_before k G ≡ G₀
  pub left : n + traded_by G k ≡ entry_lots e

module _ (R : Rule) (lawful : Lawful R) (E : List Event) (e : Entry) (k : ℕ) (mine : List Order) (G₀ : List Trade) (fresh : (j : ℕ) → k ≤ j → numbered E j ≡ None) where
  abbrev trade_with : Order → ℕ → Trade
  trade_with o m = trade_of e.side (party k e.account) o m

  -- what rests came under a smaller number
  below : (G : List Trade) (o : Order) → Rests E G o → o.number < k
  below G o r =
      elim (cases_lt o.number k) [
        | inl h ↦ h
        | inr h ↦ (let i = r.entry in let j = fresh o.number h in let z : ◌≡◌ {A = ℕ} 0 1 = cc in absurd (omega arith))
      ]

  -- a trade takes its lots from the resting order alone
  trade_shift : (G : List Trade) (o : Order) (m : ℕ) → o.number < k → Shift E G E (G ++ trade_with o m ∷ []) o.number m
  trade_shift G o m h =
      let t : Trade = trade_with o m in
      let c : ℕ → Trade → ℕ = λ j x. cond (eqb (resting_number x) j) x.lots 0 in
      let its : resting_number t ≡ o.number = trade_resting e.side (party k e.account) o m h in
      let lots : t.lots ≡ m = trade_lots e.side (party k e.account) o m in
      record {
        entries = λ j. refl;
        others = λ j ne. let p = total-push (c j) G t in let z : c j t ≡ 0 = cond-false (eqb (resting_number t) j) _ _ (ne_eqb _ _ (λ i. ne (sym i ∙ its))) in omega arith;
        here = let p = total-push (c o.number) G t in let z : c o.number t ≡ t.lots = cond-true (eqb (resting_number t) o.number) _ _ (eq-eqb _ _ its) in omega arith;
      }

  module _ (G : List Trade) (n : ℕ) (o : Order) (q : List Order) (L : Lines) (mid : Midway R E e k mine G₀ G n (o ∷ q) L) where
    head_rests : Rests E G o
    head_rests = (mid.theirs_kept.rest o (inl refl)).0

    head_side : side_of o ≡ other e.side
    head_side = (mid.theirs_kept.rest o (inl refl)).1

    head_below : o.number < k
    head_below = below G o head_rests

    -- no order of the entry's own side has the number of the first order
    not_mine : (p : Order) → Rests E G p → p.number ≡ o.number → side_of p ≡ e.side → ⊥
    not_mine p r z s = other_differs e.side (sym s ∙ ap side_of (rests_once E G p o r head_rests z) ∙ head_side)

    -- the lots that a trade moves are held for both accounts
    both_hold : (m : ℕ) → m ≤ n → m ≤ lots_of o → let t = trade_with o m in (t.lots ≤ held_on (L t.buy.account) Buy) × (t.lots ≤ held_on (L t.sell.account) Sell)
    both_hold m hn ho =
        let a = e.account in
        let b = account_of o in
        let s = e.side in
        let x = mid.held a s in
        let y = counted_self a s n in
        let u = mid.held b (side_of o) in
        let v = queued_at_least b (side_of o) (o ∷ q) o (inl refl) in
        let w = counted_self b (side_of o) (lots_of o) in
        let c = ap (held_on (L b)) head_side in
        trade_held L s (party k a) o m (omega arith) (omega arith)

    -- one trade with the first order
    pub mid_trade : (m : ℕ) → m ≤ n → m ≤ lots_of o → Midway R E e k mine G₀ (G ++ trade_with o m ∷ []) (n - m) (lower o.number m (o ∷ q)) (settle_trade L (trade_with o m))
    mid_trade m hn ho =
        let t : Trade = trade_with o m in
        let shift = trade_shift G o m head_below in
        let d = distinct R lawful E G (o ∷ q) (λ p i. (mid.theirs_kept.rest p i).0) mid.theirs_kept.ordered in
        let hold = both_hold m hn ho in
        let queued : (a : ℤ) (s : Side) → lots_queued (lower o.number m (o ∷ q)) a s + counted a s (account_of o) (other e.side) m ≡ lots_queued (o ∷ q) a s =
        λ a s. let x = queued_lower a s o.number m (o ∷ q) d o (inl refl) refl ho in let y = ap (λ z. counted a s (account_of o) z m) head_side in omega arith in
        let registered : (a : ℤ) (s : Side) → lots_registered (G ++ t ∷ []) a s ≡ lots_registered G a s + (counted a s e.account e.side m + counted a s (account_of o) (other e.side) m) =
        λ a s. let x = total-push (λ y. counted a s y.buy.account Buy y.lots + counted a s y.sell.account Sell y.lots) G t in let y = trade_counts a s e.side (party k e.account) o m in omega arith in
        record {
          mine_kept = kept_apart R lawful E E G (G ++ t ∷ []) o.number m shift e.side mine (λ p i z. not_mine p (mid.mine_kept.rest p i).0 z (mid.mine_kept.rest p i).1) not_mine mid.mine_kept;
          theirs_kept = kept_lower R lawful E E G (G ++ t ∷ []) o.number m shift (other e.side) (o ∷ q) o (inl refl) refl ho mid.theirs_kept;
          apart = λ x y i j. elim (in_lower o.number m (o ∷ q) d y j) [
            | inl there ↦ mid.apart x y i there.0
            | inr it ↦ ap (λ w. meets_across R e.side (quote_of x) (quote_of w)) it.4 ∙ mid.apart x it.0 i it.1
          ];
          sums = λ a s. let x = mid.sums a s in let y = queued a s in let z = registered a s in let w = counted_split a s e.account e.side m n hn in omega arith;
          held = λ a s. let x = mid.held a s in let y = queued a s in let z = (trade_settled L t hold.0 hold.1 a s).0 in let u = trade_counts a s e.side (party k e.account) o m in let w = counted_split a s e.account e.side m n hn in omega arith;
          settled = λ a s. let x = mid.settled a s in let z = (trade_settled L t hold.0 hold.1 a s).1 in let u = trade_counts a s e.side (party k e.account) o m in let y = registered a s in omega arith;
          earlier = filter-append (λ x. ltb (entry_number x) k) G (t ∷ []) ∙ ap (λ l. trades_before k G ++ l) (cond-false (ltb (entry_number t) k) _ _ (le-ltb _ _ (let i = trade_entry e.side (party k e.account) o m head_below in omega arith))) ∙ append-nil (trades_before k G) ∙ mid.earlier;
          left = let i = mid.left in let p = total-push (λ x. cond (eqb (entry_number x) k) x.lots 0) G t in let z = cond-true (eqb (entry_number t) k) t.lots 0 (eq-eqb _ _ (trade_entry e.side (party k e.account) o m head_below)) in let l = trade_lots e.side (party k e.account) o m in omega arith;
        }

    -- the trade of the smaller lots joins the entry with the first order
    pub head_matched : (m : ℕ) → 1 ≤ m → m ≡ min n (lots_of o) → (account_of o ≡ e.account → ⊥) → Eligible e.kind R E G e k o → Matched R E G e k (trade_with o m)
    head_matched m some least ne el =
        let i = trade_lots e.side (party k e.account) o m in
        let l = mid.left in
        record {
          order = o;
          first = head_first R lawful E G (other e.side) o q mid.theirs_kept;
          across = head_side;
          apart = ne;
          eligible = el;
          recorded = ap (trade_with o) (sym i);
          earlier = head_below;
          lots = omega arith;
          some = omega arith;
        }
