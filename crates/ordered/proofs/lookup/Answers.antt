-- The item is the one at the place where the key was found.
use Rattle.std.proofs.Common.{Some, sym, ap, ◌∙◌, rules}
use Rattle.ordered.proofs.Lookups.{at_key_found, at_key_none}
use Rattle.ordered.proofs.lookup.Goals as goal

pub returns-in_err-find : goal.returns-in_err-find
returns-in_err-find g c =
    c.from_residual.ensures ∙ sym (at_key_none g.S.Standing.key c.args.row.now c.args.wanted (search rules))

pub returns : goal.returns
returns g c =
    ap Some c.index-row-branch.is ∙ sym (at_key_found g.S.Standing.key c.args.row.now c.args.wanted _ (search rules) c.index-row-branch.result)
