-- Lots and numbers that fit. Assumes nothing.
use Rattle.std.proofs.Common.{◌≡◌, ℕ, ◌-◌, ◌≤◌, true, leb, ℤ, pos, negsuc, nat_abs, arith}
use Rattle.std.proofs.lemmas.Bool.{and_from, and_parts, false≢true, le-leb, leb-true}
use Rattle.clearing.specs.Line.{lots_max}
use Rattle.market.specs.Calls.{lots_fit}
use Rattle.market.specs.Fits.{number_max, order_fits}
use Rattle.market.specs.Order.{lots_of, lowered}
use Rattle.market.specs.declared.order.Order.{Order}

-- an order that fits still does with fewer lots
pub fits_lowered : (o : Order) (n : ℕ) → order_fits o ≡ true → order_fits (lowered o n) ≡ true
fits_lowered o n fit =
    let both = and_parts (leb o.number number_max) _ fit in
    let few = leb-true (lots_of o) lots_max both.1 in
    and_from _ _ both.0 (le-leb (lots_of o - n) lots_max (omega arith))

-- an entry that may be accepted has no more lots than the most
pub lots_within : (n : ℤ) → lots_fit n ≡ true → nat_abs n ≤ lots_max
lots_within (pos n) fit = leb-true n lots_max (and_parts (leb 1 n) _ fit).1
lots_within (negsuc n) fit = absurd (false≢true fit)
