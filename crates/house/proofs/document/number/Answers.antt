use Rattle.std.proofs.Common.{◌∙◌}
use Rattle.house.proofs.Numbers.{number_read}
use Rattle.house.proofs.document.number.Goals as goal

pub returns : goal.returns
returns c = c.ok.ensures.value ∙ number_read c.args.text.now c.parse.result c.parse.ensures.value.0
