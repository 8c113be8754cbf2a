-- What was read, before what is left, is what the whole says.
use Rattle.std.proofs.Common.{◌≡◌, drop, map}
use Rattle.toml.specs.View.{items_view}
use Rattle.house.specs.Document.{after, layers_from}
use Rattle.house.specs.Settings.{layer_view}
use Rattle.house.proofs.document.layers_in.Given as goal

abbrev pub invariant-loop-value : goal.invariant-loop-value
invariant-loop-value l =
    after (map layer_view l.read.items) (layers_from (items_view (drop l.value-index l.values))) ≡ layers_from (items_view l.values)
