-- Each turn puts one firm cap over the others.
use Rattle.std.proofs.Common.{◌≡◌, ◌+◌, ◌∷◌, ◌++◌, drop, get_or, map, take, [], sym, ap, ◌∙◌, rules, subst}
use Rattle.std.proofs.lemmas.List.{drop_more, take_more, map-append}
use Rattle.house.proofs.LayerJoins.{one_more}
use Rattle.house.specs.Built.{AreLayers, layers_fit}
use Rattle.house.specs.Settings.{layer_view}
use Rattle.house.proofs.build.add_layers.Goals as goal

pub loop-layer-preserved : goal.loop-layer-preserved
loop-layer-preserved c =
    let inv = c.loop-layer.invariant in
    let h = c.in_ok-add_layer.ensures in
    let ls = c.args.layers.now in
    let i = c.loop-layer.layer-index in
    let x = c.layer-item.result in
    let at : get_or ls i x ≡ x = search rules in
    let cut : drop i ls ≡ x ∷ drop (i + 1) ls = drop_more ls i x c.loop-layer-test.true ∙ ap (λ y. y ∷ drop (i + 1) ls) at in
    let more : take (i + 1) ls ≡ take i ls ++ x ∷ [] = take_more ls i x c.loop-layer-test.true ∙ ap (λ y. take i ls ++ y ∷ []) at in
    let left : layers_fit (map layer_view (x ∷ drop (i + 1) ls)) ≡ layers_fit (map layer_view ls) = rw cut at inv.0 in
    let named : map layer_view (take (i + 1) ls) ≡ map layer_view (take i ls) ++ layer_view x ∷ [] = ap (map layer_view) more ∙ map-append layer_view (take i ls) (x ∷ []) in (
      rw h.0 at left,
      subst (λ ks. AreLayers ks c.add_layer.new.centre.tables.items) (sym named) (one_more _ _ c.loop-layer.centre c.add_layer.new.centre h inv.1),
      h.3 ∙ inv.2,
    )
