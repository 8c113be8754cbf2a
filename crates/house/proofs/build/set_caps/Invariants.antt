-- The caps that are left, after those that were set, make what all make, and nothing else changes.
use Rattle.std.proofs.Common.{◌≡◌, true, [], drop, take}
use Rattle.centres.specs.Layers.{under_top}
use Rattle.house.specs.Built.{caps_fit, has_layer, top_caps, top_members, with_caps}
use Rattle.house.proofs.build.set_caps.Given as goal

abbrev pub invariant-loop-at : goal.invariant-loop-at
invariant-loop-at l =
    let rest = drop l.at l.entries in
    let first = l.initial.centre in
    (has_layer l.centre ≡ true)
    × (caps_fit rest (take l.at l.entries) ≡ caps_fit l.entries [])
    × (with_caps rest (top_caps l.centre) ≡ with_caps l.entries (top_caps first))
    × (top_members l.centre ≡ top_members first)
    × (under_top l.centre.tables.items ≡ under_top first.tables.items)
    × (l.centre.below ≡ first.below)
