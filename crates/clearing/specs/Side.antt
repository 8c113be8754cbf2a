-- The two sides. Assumes nothing.
use Rattle.clearing.specs.declared.side.Side.{Side}
use Rattle.clearing.specs.declared.side.Side.TheVariants.{Buy, Sell}

abbrev pub other : Side → Side
other Buy = Sell
other Sell = Buy
