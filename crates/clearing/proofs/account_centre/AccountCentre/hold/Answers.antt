-- The lots are held on the line of the row that was judged.
use Rattle.clearing.proofs.account_centre.AccountCentre.hold.Goals as goal

pub returns-clause-held : goal.returns-clause-held
returns-clause-held g c = c.hold.ensures.held c.args.account c.requires.0
