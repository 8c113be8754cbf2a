-- The order that a number names, where it is kept, and what taking lots off it leaves. Assumes nothing.
use Rattle.std.specs.Prelude.{◌≡◌, ℕ, ◌-◌, ℤ, pos, Some, None, Ok, Option, slice_index_or}
use Rattle.ordered.specs.Row.{Found}
use Rattle.clearing.specs.Centre.{Lines}
use Rattle.dealing.specs.declared.outcome.Figures.{Figures}
use Rattle.dealing.specs.declared.outcome.Outcome.{Outcome}
use Rattle.market.specs.Calls.{done, figures_of, off_the_book}
use Rattle.market.specs.Order.{lots_of, side_of}
use Rattle.market.specs.State.{State, order_numbered, queue_of}
use Rattle.market.specs.declared.order.Order.{Order}
use Rattle.market.specs.declared.taking_off.Place.{Place}

-- the order at a place; d stands for one past the end
abbrev pub order_at : State → Place → Order → Order
order_at S p d = slice_index_or (queue_of p.side S) p.at d

-- an order is at a place: it is of the queue's side, and the first there with its number
pub record Placed (S : State) (p : Place) : Type 0 where
  pub found : (d : Order) → Found (λ o. pos o.number) (queue_of p.side S) (pos (order_at S p d).number) (Some p.at)
  pub sided : (d : Order) → side_of (order_at S p d) ≡ p.side

-- where the order is that a number names
abbrev pub Named : State → ℤ → Option Place → Type 0
Named S k None = order_numbered S k ≡ None
Named S k (Some p) = Placed S p × ((d : Order) → order_numbered S k ≡ Some (order_at S p d))

-- n lots were taken off an order, whatever outcome the call gives that
abbrev pub TakenOffBook : State → Lines → Order → ℕ → State → Lines → Figures → Type 0
TakenOffBook S L o n S' L' f =
    (f ≡ figures_of o.number 0 (lots_of o - n) n) × ((x : Outcome) → off_the_book S L o n x ≡ done S' L' (Ok x))
