use Rattle.market.proofs.Pinned.{law_pins_the_register}
use Rattle.market.proofs.law.law_pins_the_register.Goals as goal

pub returns : goal.returns
returns c = law_pins_the_register
