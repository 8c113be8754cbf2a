-- The order at a place in a queue. Assumes nothing.
use Rattle.std.specs.Prelude.{ℕ, zero, suc, cond, List, [], ◌∷◌, ◌++◌, ◌==◌, slice_index_or}
use Rattle.std.specs.List.{remove}
use Rattle.market.specs.Order.{left_of, lots_of}
use Rattle.market.specs.declared.order.Order.{Order}

-- the orders without the one at i if it has no lots left; d stands for an order past the end
abbrev pub cleared_at : ℕ → Order → List Order → List Order
cleared_at i d q = cond (lots_of (slice_index_or q i d) == 0) (remove q i) q

-- the orders with the one at i lowered by n lots
abbrev pub lowered_at : ℕ → ℕ → List Order → List Order
lowered_at i n [] = []
lowered_at zero n (o ∷ q) = left_of o n ++ q
lowered_at (suc i) n (o ∷ q) = o ∷ lowered_at i n q
