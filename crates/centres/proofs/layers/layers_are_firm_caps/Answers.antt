use Rattle.std.proofs.Common.{refl}
use Rattle.centres.specs.LayerLaws.{depth_over-more, layers_own-more, layers_own-none}
use Rattle.centres.proofs.layers.layers_are_firm_caps.Goals as goal

pub returns-clause-none : goal.returns-clause-none
returns-clause-none g c s none = rw none (refl, layers_own-none _ (g.C.Centre.depth s.below), refl)

pub returns-clause-more : goal.returns-clause-more
returns-clause-more g c s u t more =
    rw (more.0, more.1) (refl, layers_own-more _ s.tables.items t _, depth_over-more s.tables.items t _)
