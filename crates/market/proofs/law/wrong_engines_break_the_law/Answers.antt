use Rattle.market.proofs.WrongEngines.{exchanged_trades_are_refused, head_only_is_refused, invented_lots_are_refused}
use Rattle.market.proofs.law.wrong_engines_break_the_law.Goals as goal

pub returns-clause-head : goal.returns-clause-head
returns-clause-head c = head_only_is_refused

pub returns-clause-invented : goal.returns-clause-invented
returns-clause-invented c = invented_lots_are_refused

pub returns-clause-exchanged : goal.returns-clause-exchanged
returns-clause-exchanged c = exchanged_trades_are_refused
