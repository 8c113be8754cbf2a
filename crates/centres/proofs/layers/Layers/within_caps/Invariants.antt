-- The caps that are left say what all caps say.
use Rattle.std.proofs.Common.{◌≡◌, drop}
use Rattle.centres.specs.Layers.{caps_no}
use Rattle.centres.proofs.layers.Layers.within_caps.Given as goal

abbrev pub invariant-loop-firms : goal.invariant-loop-firms
invariant-loop-firms g l =
    let L = g.C.Centre.lines l.self.below in
    caps_no (drop l.firms-index l.self.tables.items) l.depth L l.account l.lots ≡ caps_no l.self.tables.items (g.C.Centre.depth l.self.below) L l.account l.lots
