-- Each turn takes one entry over.
use Rattle.std.proofs.Common.{arith}
use Rattle.std.proofs.lemmas.Grind.{common_steps}
use Rattle.house.proofs.Readings.{after_before}
use Rattle.house.proofs.document.entries.Goals as goal

pub loop-key-preserved : goal.loop-key-preserved
loop-key-preserved c = grind (arith, common_steps, after_before)
