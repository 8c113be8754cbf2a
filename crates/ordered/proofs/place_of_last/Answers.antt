-- The place is that among the others, so a row in order stays so.
use Rattle.std.proofs.Common.{ap, ◌∙◌, arith}
use Rattle.std.specs.List.{insert}
use Rattle.std.proofs.lemmas.Grind.{common_steps}
use Rattle.ordered.specs.Row.{in_order}
use Rattle.ordered.proofs.Orders.{in_order_inserted}
use Rattle.ordered.proofs.place_of_last.Goals as goal

pub returns-clause-ordered : goal.returns-clause-ordered
returns-clause-ordered g c =
    λ xs x e o lacks. ap (λ n. in_order (g.S.Standing.stands c.args.by.now) (insert xs n x)) (grind (arith, common_steps)) ∙ in_order_inserted (g.S.Standing.stands c.args.by.now) g.S.Standing.key (g.met.S.Standing.transitive c.args.by.now) (g.met.S.Standing.decided c.args.by.now) xs x o lacks
