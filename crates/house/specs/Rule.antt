-- The queue rule that a house chose. Assumes nothing.
use Rattle.market.specs.QueueRules.{by_rate, by_yield}
use Rattle.market.specs.Rule.{Rule}
use Rattle.house.specs.declared.rule.HouseRule.{HouseRule}
use Rattle.house.specs.declared.rule.HouseRule.TheVariants as chosen

abbrev pub queue_rule : HouseRule → Rule
queue_rule chosen.Rate = by_rate
queue_rule chosen.Yield = by_yield
