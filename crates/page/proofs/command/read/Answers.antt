use Rattle.page.proofs.OneCall.{one_line_each}
use Rattle.page.proofs.command.read.Goals as goal

pub returns-in_err-line-clause-one_line_each : goal.returns-in_err-line-clause-one_line_each
returns-in_err-line-clause-one_line_each c = one_line_each

pub returns-in_err-head-clause-one_line_each : goal.returns-in_err-head-clause-one_line_each
returns-in_err-head-clause-one_line_each c = one_line_each

pub returns-clause-one_line_each : goal.returns-clause-one_line_each
returns-clause-one_line_each c = one_line_each
