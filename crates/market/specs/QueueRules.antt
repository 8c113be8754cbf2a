-- The two queue rules that come with the product, by rate and by yield. Assumes nothing.
use Rattle.std.specs.Prelude.{Bool, ◌&&◌, ◌||◌, ℤ, int_le, int_lt, nat_lt}
use Rattle.ordered.specs.Key.{eq_z}
use Rattle.clearing.specs.declared.side.Side.{Side}
use Rattle.clearing.specs.declared.side.Side.TheVariants.{Buy, Sell}
use Rattle.market.specs.Rule.{Rule, rule_of}
use Rattle.market.specs.declared.rule.Quote.{Quote}

-- the better price stands first, and at equal price the smaller number
abbrev pub first_by : (ℤ → ℤ → Bool) → Quote → Quote → Bool
first_by better x y = better x.price y.price || (eq_z x.price y.price && nat_lt x.number y.number)

abbrev pub lower_first : Quote → Quote → Bool
lower_first = first_by int_lt

abbrev pub higher_first : Quote → Quote → Bool
higher_first = first_by (λ p q. int_lt q p)

-- one test for buys, and another for sells
abbrev pub on_side : Side → (Quote → Quote → Bool) → (Quote → Quote → Bool) → Quote → Quote → Bool
on_side Buy buys sells = buys
on_side Sell buys sells = sells

-- by rate: the buyer pays the price
abbrev pub rate_stands : Quote → Quote → Bool
rate_stands x = on_side x.side higher_first lower_first x

abbrev pub rate_meets : Quote → Quote → Bool
rate_meets buy sell = int_le sell.price buy.price

abbrev pub by_rate : Rule
by_rate = rule_of rate_stands rate_meets

-- by yield: the buyer earns it
abbrev pub yield_stands : Quote → Quote → Bool
yield_stands x = on_side x.side lower_first higher_first x

abbrev pub yield_meets : Quote → Quote → Bool
yield_meets buy sell = int_le buy.price sell.price

abbrev pub by_yield : Rule
by_yield = rule_of yield_stands yield_meets
