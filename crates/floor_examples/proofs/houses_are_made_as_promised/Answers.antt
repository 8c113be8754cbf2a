use Rattle.floor_examples.proofs.Houses.{adds_as_promised, places_as_promised}
use Rattle.floor_examples.proofs.houses_are_made_as_promised.Goals as goal

pub returns-clause-accounts : goal.returns-clause-accounts
returns-clause-accounts c = adds_as_promised

pub returns-clause-members : goal.returns-clause-members
returns-clause-members c = places_as_promised
