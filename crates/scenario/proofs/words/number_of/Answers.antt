use Rattle.std.proofs.Common.{◌∙◌}
use Rattle.std.specs.Str.Parse.{signed_digits_value, without_leading_sign}
use Rattle.scenario.proofs.Numbers.{parsed}
use Rattle.scenario.proofs.words.number_of.Goals as goal

pub returns : goal.returns
returns c = c.ok.ensures.value ∙ parsed (without_leading_sign c.args.word.now) (signed_digits_value 10 c.args.word.now) c.parse.result c.parse.ensures.value.0
