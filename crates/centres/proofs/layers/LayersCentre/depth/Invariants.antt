-- The layers that are left come to the depth that all come to.
use Rattle.std.proofs.Common.{◌≡◌, drop}
use Rattle.centres.specs.Layers.{depth_over}
use Rattle.centres.proofs.layers.LayersCentre.depth.Given as goal

abbrev pub invariant-loop : goal.invariant-loop
invariant-loop g l =
    depth_over (drop l.index l.self.tables.items) l.depth ≡ depth_over l.self.tables.items (g.C.Centre.depth l.self.below)
