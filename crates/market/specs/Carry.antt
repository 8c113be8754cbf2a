-- Carrying the trades of a walk out. Assumes nothing.
use Rattle.std.specs.Prelude.{◌≡◌, ℕ, ◌≤◌, min, Bool, true, cond, List, [], ◌∷◌, ◌++◌, length}
use Rattle.std.specs.List.{AllByRecursion}
use Rattle.clearing.specs.Centre.{Lines, adjusted, holds}
use Rattle.clearing.specs.Grant.{grant_of}
use Rattle.clearing.specs.Line.{hold, release}
use Rattle.clearing.specs.Side.{other}
use Rattle.clearing.specs.declared.grant.Grant.{Grant}
use Rattle.clearing.specs.declared.side.Side.{Side}
use Rattle.dealing.specs.declared.call.Entry.{Entry}
use Rattle.market.specs.Calls.{entry_lots, rest_joins, settle_trade, settle_trades}
use Rattle.market.specs.Order.{account_of, all_on, joined, left_of, lots_of, lots_resting, order_of, party_on, side_of, trade_of}
use Rattle.market.specs.Rule.{Rule}
use Rattle.market.specs.Walk.{Walked, walk}
use Rattle.market.specs.declared.ending.Ending.{Ending}
use Rattle.market.specs.declared.order.Order.{Order}
use Rattle.market.specs.declared.plan.Plan.{Plan}
use Rattle.market.specs.declared.trade.Party.{Party}
use Rattle.market.specs.declared.trade.Trade.{Trade}

-- m lots can trade with the first order of a queue: it is of the other side and of another account, it has them, and both
-- lines hold them
pub record CanTrade (L : Lines) (q : List Order) (s : Side) (me : Party) (m : ℕ) : Type 0 where
  pub order : Order
  pub rest : List Order
  pub first : q ≡ order ∷ rest
  pub side : side_of order ≡ other s
  pub apart : account_of order ≡ me.account → ⊥
  pub lots : m ≤ lots_of order
  pub mine : holds (L me.account) s m ≡ true
  pub theirs : holds (L (account_of order)) (other s) m ≡ true

-- m lots traded with the first order: it is lowered, the trade is registered, and both lines are settled
abbrev pub TradedFirst : Side → Party → ℕ → Lines → List Order → List Trade → Lines → List Order → List Trade → Type 0
TradedFirst s me m L q G L' q' G' =
    (o : Order) (rest : List Order) → q ≡ o ∷ rest → (q' ≡ left_of o m ++ rest) × (G' ≡ G ++ trade_of s me o m ∷ []) × (L' ≡ settle_trade L (trade_of s me o m))

-- every account that the trades are made with has its resting lots held
abbrev pub IsInStep : Lines → Side → List Order → List Trade → Type 0
IsInStep L z q ts = AllByRecursion (λ t. holds (L (party_on z t).account) z (lots_resting (party_on z t).account q) ≡ true) ts

-- a walk of an entry with n lots makes so many trades, for all of which the lines hold the lots
pub record Planned (L : Lines) (q : List Order) (e : Entry) (k n trades : ℕ) : Type 0 where
  pub eligible : Order → Bool
  pub count : trades ≡ length (walk eligible e k n q).trades
  pub in_step : IsInStep L (other e.side) q (walk eligible e k n q).trades
  pub one_sided : all_on (other e.side) q ≡ true
  pub reserved : holds (L e.account) e.side n ≡ true

-- the trades of a walk were carried out
pub record Carried (L : Lines) (q : List Order) (G : List Trade) (w : Walked) (L' : Lines) (q' : List Order) (G' : List Trade) : Type 0 where
  pub queue : q' ≡ w.queue
  pub register : G' ≡ G ++ w.trades
  pub lines : L' ≡ settle_trades L w.trades

-- and the grant that is left is for the lots that are left
abbrev pub CarriedOut : Entry → ℕ → ℕ → ℕ → Lines → List Order → List Trade → Lines → List Order → List Trade → Grant → Type 0
CarriedOut e k n trades L q G L' q' G' g =
    (eligible : Order → Bool) → trades ≡ length (walk eligible e k n q).trades → Carried L q G (walk eligible e k n q) L' q' G' × (g ≡ grant_of e.account e.side (walk eligible e k n q).left)

-- as many lots as both the entry and the first order of a queue have
abbrev pub Least : List Order → ℕ → ℕ → Type 0
Least q n m = (o : Order) (rest : List Order) → q ≡ o ∷ rest → m ≡ min n (lots_of o)

-- what is still to be carried out of a walk leads to where the whole walk leads
pub record Still (eligible : Order → Bool) (e : Entry) (k : ℕ) (L₀ : Lines) (q₀ : List Order) (G₀ : List Trade) (n₀ : ℕ) (L : Lines) (q : List Order) (G : List Trade) (n : ℕ) : Type 0 where
  pub queue : (walk eligible e k n q).queue ≡ (walk eligible e k n₀ q₀).queue
  pub left : (walk eligible e k n q).left ≡ (walk eligible e k n₀ q₀).left
  pub register : G ++ (walk eligible e k n q).trades ≡ G₀ ++ (walk eligible e k n₀ q₀).trades
  pub lines : settle_trades L (walk eligible e k n q).trades ≡ settle_trades L₀ (walk eligible e k n₀ q₀).trades

-- an entry numbered k whose walk w ends as x was carried out: its lots were reserved, its trades made, and its rest joined its
-- queue or was given back
pub record CarriedEntry (R : Rule) (e : Entry) (k : ℕ) (x : Ending) (w : Walked) (L : Lines) (mine : List Order) (G : List Trade) (L' : Lines) (mine' theirs' : List Order) (G' : List Trade) : Type 0 where
  pub own_queue : mine' ≡ cond (rest_joins e x) (joined R (order_of e.account e.side k e.price w.left) mine) mine
  pub other_queue : theirs' ≡ w.queue
  pub register : G' ≡ G ++ w.trades
  pub lines : L' ≡ cond (rest_joins e x) (settle_trades (adjusted L e.account (hold e.side (entry_lots e))) w.trades) (adjusted (settle_trades (adjusted L e.account (hold e.side (entry_lots e))) w.trades) e.account (release e.side w.left))

abbrev pub EnteredBook : Rule → Entry → ℕ → Plan → Lines → List Order → List Order → List Trade → Lines → List Order → List Order → List Trade → Type 0
EnteredBook R e k p L mine theirs G L' mine' theirs' G' =
    (eligible : Order → Bool) → p.trades ≡ length (walk eligible e k (entry_lots e) theirs).trades → CarriedEntry R e k p.ending (walk eligible e k (entry_lots e) theirs) L mine G L' mine' theirs' G'
