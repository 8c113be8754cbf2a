-- A walk carried out trade by trade. Assumes nothing.
use Rattle.std.proofs.Common.{◌≡◌, ℕ, suc, ◌+◌, ◌-◌, ◌<◌, ◌≤◌, Bool, true, List, [], ◌∷◌, ◌++◌, length, sym, refl, ap, ◌∙◌, subst, append_assoc, append-nil, arith}
use Rattle.std.proofs.ByRecursion.{All-weaker}
use Rattle.std.proofs.lemmas.List.{length_push}
use Rattle.std.proofs.lemmas.Bool.{and_parts, cond-true}
use Rattle.ordered.specs.Key.{eq_z}
use Rattle.ordered.proofs.Keys.{eq_z_refl}
use Rattle.clearing.specs.Centre.{Lines, holds}
use Rattle.clearing.specs.Grant.{grant_of}
use Rattle.clearing.specs.Side.{other}
use Rattle.clearing.specs.declared.grant.Grant.{Grant}
use Rattle.clearing.specs.declared.side.Side.{Side}
use Rattle.clearing.specs.declared.side.Side.TheVariants.{Buy, Sell}
use Rattle.dealing.specs.declared.call.Entry.{Entry}
use Rattle.market.proofs.InStep.{entry_settled_first, holds_fewer, still_in_step, still_reserved}
use Rattle.market.proofs.PlanTables.{walk_step, walk_still}
use Rattle.market.proofs.Passing.{all_left}
use Rattle.market.proofs.Sides.{is_side_true}
use Rattle.market.specs.Calls.{settle_trades}
use Rattle.market.specs.Carry.{CanTrade, Carried, CarriedOut, IsInStep, Least, Planned, Still, TradedFirst}
use Rattle.market.specs.Order.{account_of, all_on, is_on, is_side, left_of, lots_of, lots_resting, party, party_on, side_of, trade_of}
use Rattle.market.specs.Walk.{Walked, after_trade, walk}
use Rattle.market.specs.declared.order.Order.{Order}
use Rattle.market.specs.declared.trade.Party.{Party}
use Rattle.market.specs.declared.trade.Trade.{Trade}

-- the account across from the entry
pub trade_other : (s : Side) (me : Party) (o : Order) (n : ℕ) → (party_on (other s) (trade_of s me o n)).account ≡ account_of o
trade_other Buy me o n = refl
trade_other Sell me o n = refl

module _ (e : Entry) (k : ℕ) where
  abbrev s : Side
  s = e.side

  abbrev me : Party
  me = party k e.account

  -- the trade that comes next in a walk, and what is left of the walk after it
  pub record NextTrade (el : Order → Bool) (n m : ℕ) (q : List Order) : Type 0 where
    pub order : Order
    pub rest : List Order
    pub first : q ≡ order ∷ rest
    pub apart : account_of order ≡ e.account → ⊥
    pub few : (m ≤ n) × (m ≤ lots_of order)
    pub walks : walk el e k n q ≡ after_trade (trade_of s me order m) (walk el e k (n - m) (left_of order m ++ rest))

  pub next_trade : (el : Order → Bool) (n m : ℕ) (q : List Order) → 1 ≤ length (walk el e k n q).trades → Least q n m → NextTrade el n m q
  next_trade el n m q some least =
      let w = walk_step el e k n q some in
      let o = w.0 in
      let size = least o w.1 w.2 in
      record {
        order = o;
        rest = w.1;
        first = w.2;
        apart = w.5;
        few = (omega arith, omega arith);
        walks = subst (λ x. walk el e k n q ≡ after_trade (trade_of s me o x) (walk el e k (n - x) (left_of o x ++ w.1))) (sym size) w.6;
      }

  module _ (L : Lines) (q : List Order) (n m r : ℕ) (plan : Planned L q e k n (suc r)) (least : Least q n m) where
    abbrev el : Order → Bool
    el = plan.eligible

    next : NextTrade el n m q
    next = next_trade el n m q (let c = plan.count in omega arith) least

    -- the trades to come are of accounts whose resting lots are held
    steps : IsInStep L (other s) q (trade_of s me next.order m ∷ (walk el e k (n - m) (left_of next.order m ++ next.rest)).trades)
    steps = subst (λ (w : Walked). IsInStep L (other s) q w.trades) next.walks plan.in_step

    on_head : all_on (other s) (next.order ∷ next.rest) ≡ true
    on_head = subst (λ l. all_on (other s) l ≡ true) next.first plan.one_sided

    -- the next trade can be made
    pub can_trade : CanTrade L q s me m
    can_trade =
        let o = next.order in
        let its = trade_other s me o m in
        let resting : lots_resting (account_of o) q ≡ lots_resting (account_of o) (o ∷ next.rest) = ap (lots_resting (account_of o)) next.first in
        let mine = cond-true (eq_z (account_of o) (account_of o)) (lots_of o) 0 (eq_z_refl (account_of o)) in
        let few = next.few in
        record {
          order = o;
          rest = next.rest;
          first = next.first;
          side = is_side_true (other s) (side_of o) (and_parts (is_side (other s) (side_of o)) _ on_head).0;
          apart = next.apart;
          lots = few.1;
          mine = holds_fewer (L e.account) s m n few.0 plan.reserved;
          theirs = holds_fewer (L (account_of o)) (other s) m (lots_resting (account_of o) q) (omega arith) (subst (λ a. holds (L a) (other s) (lots_resting a q) ≡ true) its steps.0);
        }

    -- and the others after it
    pub planned_on : (G : List Trade) (L' : Lines) (q' : List Order) (G' : List Trade) → TradedFirst s me m L q G L' q' G' → Planned L' q' e k (n - m) r
    planned_on G L' q' G' traded =
        let o = next.order in
        let few = next.few in
        let after = traded o next.rest next.first in
        let lines = entry_settled_first L s me o m next.apart ∙ sym after.2 in
        let w : Walked = walk el e k (n - m) (left_of o m ++ next.rest) in
        let same : walk el e k (n - m) q' ≡ w = ap (walk el e k (n - m)) after.0 in
        let count = ap (λ (x : Walked). length x.trades) next.walks in
        let there : IsInStep L (other s) (o ∷ next.rest) w.trades = subst (λ l. IsInStep L (other s) l w.trades) next.first steps.1 in
        let moved = All-weaker _ (λ (t : Trade). holds (L' (party_on (other s) t).account) (other s) (lots_resting (party_on (other s) t).account q') ≡ true)
        (λ t h. subst (λ l. holds (L' (party_on (other s) t).account) (other s) (lots_resting (party_on (other s) t).account l) ≡ true) (sym after.0) (subst (λ (M : Lines). holds (M (party_on (other s) t).account) (other s) (lots_resting (party_on (other s) t).account (left_of o m ++ next.rest)) ≡ true) lines (still_in_step L s e.account o m (party_on (other s) t).account next.rest few.1 h))) w.trades there in
        record {
          eligible = el;
          count = let c = plan.count in let d = ap (λ (x : Walked). length x.trades) same in omega arith;
          in_step = subst (λ (x : Walked). IsInStep L' (other s) q' x.trades) (sym same) moved;
          one_sided = subst (λ l. all_on (other s) l ≡ true) (sym after.0) (all_left (is_on (other s)) (λ x n on. on) o m next.rest on_head);
          reserved = subst (λ (M : Lines). holds (M e.account) s (n - m) ≡ true) lines (still_reserved L s e.account o m n few.0 next.apart plan.reserved);
        }

  -- what is still to be carried out after a trade leads to the same end
  pub still_on : (el : Order → Bool) (L₀ : Lines) (q₀ : List Order) (G₀ : List Trade) (n₀ : ℕ) (L : Lines) (q : List Order) (G : List Trade) (n m : ℕ) (L' : Lines) (q' : List Order) (G' : List Trade) → 1 ≤ length (walk el e k n q).trades → Least q n m → TradedFirst s me m L q G L' q' G' → Still el e k L₀ q₀ G₀ n₀ L q G n → Still el e k L₀ q₀ G₀ n₀ L' q' G' (n - m) × (length (walk el e k n q).trades ≡ suc (length (walk el e k (n - m) q').trades))
  still_on el L₀ q₀ G₀ n₀ L q G n m L' q' G' some least traded still =
      let next = next_trade el n m q some least in
      let o = next.order in
      let t : Trade = trade_of s me o m in
      let after = traded o next.rest next.first in
      let w : Walked = walk el e k (n - m) q' in
      let whole : walk el e k n q ≡ after_trade t w = next.walks ∙ ap (λ l. after_trade t (walk el e k (n - m) l)) (sym after.0) in
      let trades = ap (λ (x : Walked). x.trades) whole in (
        record {
          queue = sym (ap (λ (x : Walked). x.queue) whole) ∙ still.queue;
          left = sym (ap (λ (x : Walked). x.left) whole) ∙ still.left;
          register = ap (λ H. H ++ w.trades) after.1 ∙ append_assoc G (t ∷ []) w.trades ∙ sym (ap (λ ts. G ++ ts) trades) ∙ still.register;
          lines = ap (λ M. settle_trades M w.trades) after.2 ∙ sym (ap (settle_trades L) trades) ∙ still.lines;
        },
        ap length trades,
      )

  -- where no trade is left to be made, the walk was carried out
  pub still_ends : (el : Order → Bool) (L₀ : Lines) (q₀ : List Order) (G₀ : List Trade) (n₀ : ℕ) (L : Lines) (q : List Order) (G : List Trade) (n : ℕ) → length (walk el e k n q).trades ≡ 0 → Still el e k L₀ q₀ G₀ n₀ L q G n → Carried L₀ q₀ G₀ (walk el e k n₀ q₀) L q G × (n ≡ (walk el e k n₀ q₀).left)
  still_ends el L₀ q₀ G₀ n₀ L q G n none still =
      let end = walk_still el e k n q none in (
        record {
          queue = sym end.0 ∙ still.queue;
          register = sym (ap (λ ts. G ++ ts) end.2 ∙ append-nil G) ∙ still.register;
          lines = sym (ap (settle_trades L) end.2) ∙ still.lines;
        },
        sym end.1 ∙ still.left,
      )

-- Some of the trades of a walk are made, and the others are to be made

-- of T trades of a walk that began with n₀ lots over L₀, q₀ and G₀, i are made; n lots are left, with the grant g for them
pub record UnderWay (e : Entry) (k : ℕ) (L₀ : Lines) (q₀ : List Order) (G₀ : List Trade) (n₀ T i : ℕ) (L : Lines) (q : List Order) (G : List Trade) (n : ℕ) (g : Grant) : Type 0 where
  pub planned : Planned L q e k n (T - i)
  pub still : (el : Order → Bool) → T ≡ length (walk el e k n₀ q₀).trades → Still el e k L₀ q₀ G₀ n₀ L q G n × (T - i ≡ length (walk el e k n q).trades)
  pub grant : g ≡ grant_of e.account e.side n
  pub room : length G + (T - i) ≤ 512

module _ (e : Entry) (k : ℕ) (L₀ : Lines) (q₀ : List Order) (G₀ : List Trade) (n₀ T i : ℕ) (L : Lines) (q : List Order) (G : List Trade) (n : ℕ) (g : Grant) (way : UnderWay e k L₀ q₀ G₀ n₀ T i L q G n g) where
  module _ (more : i < T) where
    one_more : T - i ≡ suc (T - (i + 1))
    one_more = omega arith

    plan : Planned L q e k n (suc (T - (i + 1)))
    plan = subst (λ r. Planned L q e k n r) one_more way.planned

    pub way_can : (m : ℕ) → Least q n m → CanTrade L q e.side (party k e.account) m × (m ≤ g.lots)
    way_can m least =
        let few = (next_trade e k plan.eligible n m q (let c = plan.count in omega arith) least).few.0 in
        let lots = ap (λ (x : Grant). x.lots) way.grant in
        (can_trade e k L q n m (T - (i + 1)) plan least, omega arith)

    pub way_on : (m : ℕ) (L' : Lines) (q' : List Order) (G' : List Trade) (g' : Grant) → Least q n m → TradedFirst e.side (party k e.account) m L q G L' q' G' → g' ≡ grant_of e.account e.side (g.lots - m) → UnderWay e k L₀ q₀ G₀ n₀ T (i + 1) L' q' G' (n - m) g'
    way_on m L' q' G' g' least traded grant =
        let c = plan.count in
        let next = next_trade e k plan.eligible n m q (omega arith) least in
        let after = traded next.order next.rest next.first in
        let size = ap length after.1 ∙ length_push G (trade_of e.side (party k e.account) next.order m) in
        record {
          planned = planned_on e k L q n m (T - (i + 1)) plan least G L' q' G' traded;
          still = λ el all.
              let s = way.still el all in
              let d = s.1 in
              let on = still_on e k el L₀ q₀ G₀ n₀ L q G n m L' q' G' (omega arith) least traded s.0 in
              let f = on.1 in
              (on.0, omega arith);
          grant = grant ∙ ap (λ x. grant_of e.account e.side (x - m)) (ap (λ (x : Grant). x.lots) way.grant);
          room = let r = way.room in omega arith;
        }

  -- all trades are made
  pub way_ends : T ≤ i → CarriedOut e k n₀ T L₀ q₀ G₀ L q G g
  way_ends done el all =
      let s = way.still el all in
      let d = s.1 in
      let end = still_ends e k el L₀ q₀ G₀ n₀ L q G n (omega arith) s.0 in
      (end.0, way.grant ∙ ap (grant_of e.account e.side) end.1)
