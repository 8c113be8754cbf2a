-- What is left of the table says the same as the whole.
use Rattle.std.proofs.Common.{◌≡◌, bytes_eq}
use Rattle.std.specs.List.{list_any}
use Rattle.toml.specs.View.{members_view}
use Rattle.house.specs.Document.{only}
use Rattle.house.proofs.document.check_keys.Given as goal

abbrev pub invariant-loop-key : goal.invariant-loop-key
invariant-loop-key l =
    only (λ b. list_any (λ k. bytes_eq b k.now) l.keys) (members_view l.key-iterator)
    ≡ only (λ b. list_any (λ k. bytes_eq b k.now) l.keys) (members_view l.table.entries)
