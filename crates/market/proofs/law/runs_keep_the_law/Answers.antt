use Rattle.market.proofs.Runs.{runs_keep_the_law}
use Rattle.market.proofs.law.runs_keep_the_law.Goals as goal

pub returns : goal.returns
returns c = runs_keep_the_law
