-- The firm caps so far stand over the centre, the lowest first, and those that are left fit as all do.
use Rattle.std.proofs.Common.{◌≡◌, drop, map, take}
use Rattle.house.specs.Built.{AreLayers, layers_fit}
use Rattle.house.specs.Settings.{layer_view}
use Rattle.house.proofs.build.add_layers.Given as goal

abbrev pub invariant-loop-layer : goal.invariant-loop-layer
invariant-loop-layer l =
    (layers_fit (map layer_view (drop l.layer-index l.layers)) ≡ layers_fit (map layer_view l.layers))
    × AreLayers (map layer_view (take l.layer-index l.layers)) l.centre.tables.items
    × (l.centre.below ≡ l.initial.centre.below)
