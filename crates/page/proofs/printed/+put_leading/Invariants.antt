use Rattle.std.proofs.Common.{length}
use Rattle.page.proofs.printed.+put_leading.Given as goal

abbrev pub decreases-put_leading : goal.decreases-put_leading
decreases-put_leading l = length l.field.now
