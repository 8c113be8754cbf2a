-- Fewer words are left.
use Rattle.std.proofs.Common.{length}
use Rattle.floor_session.proofs.options.+read_on.Given as goal

abbrev pub decreases-read_on : goal.decreases-read_on
decreases-read_on l = length l.args.now
