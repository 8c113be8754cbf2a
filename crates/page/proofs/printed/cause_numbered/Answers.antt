-- The cause is the one whose number it is, or the last where none is.
use Rattle.std.proofs.Common.{◌∙◌}
use Rattle.page.proofs.Causes.{cause_read}
use Rattle.page.proofs.printed.cause_numbered.Goals as goal

pub returns : goal.returns
returns c = c.unwrap_or.ensures ∙ cause_read c.args.n c.try_from.result c.try_from.ensures
