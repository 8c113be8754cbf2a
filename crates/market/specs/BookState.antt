-- A book as a state of the market, and what its parts are asked. Assumes nothing.
use Rattle.std.specs.Prelude.{◌≡◌, ℕ, suc, ◌-◌, Bool, cond, List, length, Some, None, Ok, Err, Result, ◌==◌}
use Rattle.std.specs.List.{list_any}
use Rattle.clearing.specs.Centre.{Lines, Own}
use Rattle.clearing.specs.Side.{other}
use Rattle.clearing.specs.declared.side.Side.{Side}
use Rattle.dealing.specs.declared.call.Entry.{Entry}
use Rattle.dealing.specs.declared.outcome.Outcome.{Outcome}
use Rattle.dealing.specs.declared.refusal.Refusal.{Refusal}
use Rattle.market.specs.Calls.{entry_refusal, figures_of, out_of_step, outcome_of, rest_joins, walk_of}
use Rattle.market.specs.Order.{account_of}
use Rattle.market.specs.PlanTable.{first_price}
use Rattle.market.specs.Rule.{Rule}
use Rattle.market.specs.State.{State, queue_of}
use Rattle.market.specs.Walk.{Walked}
use Rattle.market.specs.declared.book.Book.{Book}
use Rattle.market.specs.declared.ending.Ending.{Ending}
use Rattle.market.specs.declared.order.Order.{Order}
use Rattle.market.specs.declared.plan.Plan.{Plan}
use Rattle.market.specs.declared.taker.Taker.{Taker}

abbrev pub state_of : {R : Type 0} → Book R → State
state_of b = record {
  period = b.sitting.period;
  low = b.sitting.low;
  high = b.sitting.high;
  deviation = b.sitting.deviation;
  last = b.last;
  buys = b.buys.orders;
  sells = b.sells.orders;
  register = b.register;
}

-- what an entry brings to its walk, under the next number
abbrev pub taker_of : State → Entry → Taker
taker_of S e = record { numbered = record { entry = e; number = suc S.last }; deviation = S.deviation; first = first_price (queue_of (other e.side) S) }

-- a plan tells how a walk ends, the lots that are left and how many trades are made
pub record Plans (p : Plan) (w : Walked) : Type 0 where
  pub ending : p.ending ≡ w.ending
  pub left : p.left ≡ w.left
  pub trades : p.trades ≡ length w.trades

-- one of the orders of a list is out of step
abbrev pub orders_out_of_step : State → Lines → Side → List Order → Bool
orders_out_of_step S L s q = list_any (λ o. out_of_step S L (account_of o) s) q

-- an entry is judged: it is refused, or its walk is planned
abbrev pub Judged : Rule → Own → State → Lines → Entry → Result Plan Refusal → Type 0
Judged R C S L e (Ok p) = (entry_refusal C S L e (walk_of R S e) ≡ None) × Plans p (walk_of R S e)
Judged R C S L e (Err r) = entry_refusal C S L e (walk_of R S e) ≡ Some r

-- the outcome of an entry numbered k with n lots, of which some are left
abbrev pub entry_outcome : Entry → ℕ → ℕ → Ending → ℕ → Outcome
entry_outcome e k n x left = outcome_of x e.rest (n - left == 0) (cond (rest_joins e x) (figures_of k (n - left) left 0) (figures_of k (n - left) 0 left))
