-- The new layer takes its members, and then its caps.
use Rattle.std.proofs.Common.{rules}
use Rattle.house.proofs.LayerJoins.{no_members, unset, with_all}
use Rattle.house.specs.Settings.{layer_view}
use Rattle.house.proofs.build.add_layer.Goals as goal

pub returns-in_err-add_members : goal.returns-in_err-add_members
returns-in_err-add_members c =
    let new = unset _ c.in_ok-add_layer.ensures.0 in
    let none = no_members c.add_layer.new.self c.add_members.new.centre (layer_view c.args.layer.now) in
    search (rules, none)

pub returns : goal.returns
returns c =
    let new = unset _ c.in_ok-add_layer.ensures.0 in
    let all = with_all c.args.centre.now c.add_layer.new.self c.add_members.new.centre c.set_caps.new.centre (layer_view c.args.layer.now) c.set_caps.result new c.in_ok-add_layer.ensures.1 c.in_ok-add_layer.ensures.2 in
    search (rules, all)
