-- What a queue rule tells of orders, and the two laws that it owes. Assumes nothing.
use Rattle.std.specs.Prelude.{◌≡◌, Bool, true, false, not, ◌≢◌}
use Rattle.clearing.specs.Side.{other}
use Rattle.clearing.specs.declared.side.Side.{Side}
use Rattle.clearing.specs.declared.side.Side.TheVariants.{Buy, Sell}
use Rattle.market.specs.declared.rule.Quote.{Quote}

-- stands: of two orders of a side, does the one given first go ahead of the other; meets: can a buy and a sell trade
pub record Rule : Type 0 where
  pub stands : Quote → Quote → Bool
  pub meets : Quote → Quote → Bool

abbrev pub rule_of : (Quote → Quote → Bool) → (Quote → Quote → Bool) → Rule
rule_of stands meets = record { stands = stands; meets = meets }

-- whether an order of the side s meets one of the other side
abbrev pub meets_across : Rule → Side → Quote → Quote → Bool
meets_across R Buy x y = R.meets x y
meets_across R Sell x y = R.meets y x

-- the standing law on each side, in three parts, and the meeting law
pub record Lawful (R : Rule) : Type 0 where
  pub irreflexive : (x : Quote) → R.stands x x ≡ false
  pub transitive : (x y z : Quote) → x.side ≡ y.side → y.side ≡ z.side → R.stands x y ≡ true → R.stands y z ≡ true → R.stands x z ≡ true
  pub decided : (x y : Quote) → x.side ≡ y.side → (x.number ≢ y.number) → R.stands x y ≡ not (R.stands y x)
  pub meeting : (x a b : Quote) → a.side ≡ b.side → x.side ≡ other a.side → R.stands a b ≡ true → meets_across R x.side x b ≡ true → meets_across R x.side x a ≡ true
