-- The members that are left, after those that were placed, make what all make, and nothing else changes.
use Rattle.std.proofs.Common.{◌≡◌, true, drop, length}
use Rattle.centres.specs.Firms.{firm_of}
use Rattle.centres.specs.Layers.{under_top}
use Rattle.house.specs.Built.{has_layer, members_fit, top_caps, top_members, with_values}
use Rattle.house.proofs.build.add_members.Given as goal

abbrev pub invariant-loop-entry : goal.invariant-loop-entry
invariant-loop-entry l =
    let rest = drop l.entry-index l.entries in
    let first = l.initial.centre in
    (has_layer l.centre ≡ true)
    × (members_fit rest (length (top_members l.centre)) (firm_of (top_members l.centre)) ≡ members_fit l.entries (length (top_members first)) (firm_of (top_members first)))
    × (with_values rest (firm_of (top_members l.centre)) ≡ with_values l.entries (firm_of (top_members first)))
    × (top_caps l.centre ≡ top_caps first)
    × (under_top l.centre.tables.items ≡ under_top first.tables.items)
    × (l.centre.below ≡ first.below)
