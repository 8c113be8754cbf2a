-- The side of an order, as a test. Assumes nothing.
use Rattle.std.proofs.Common.{◌≡◌, true, refl}
use Rattle.std.proofs.lemmas.Bool.{false≢true}
use Rattle.clearing.specs.declared.side.Side.{Side}
use Rattle.clearing.specs.declared.side.Side.TheVariants.{Buy, Sell}
use Rattle.market.specs.Order.{is_side}

pub is_side_true : (s t : Side) → is_side s t ≡ true → t ≡ s
is_side_true Buy Buy e = refl
is_side_true Buy Sell e = absurd (false≢true e)
is_side_true Sell Buy e = absurd (false≢true e)
is_side_true Sell Sell e = refl

pub is_side_same : (s : Side) → is_side s s ≡ true
is_side_same Buy = refl
is_side_same Sell = refl
