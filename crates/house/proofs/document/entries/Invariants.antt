-- What was read, before what is left, is what the whole says.
use Rattle.std.proofs.Common.{◌≡◌}
use Rattle.toml.specs.View.{members_view}
use Rattle.house.specs.Document.{after, entries_of}
use Rattle.house.proofs.document.entries.Given as goal

abbrev pub invariant-loop-key : goal.invariant-loop-key
invariant-loop-key l = after l.read.items (entries_of (members_view l.key-iterator)) ≡ entries_of (members_view l.table.entries)
