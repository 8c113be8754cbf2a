-- What a text says of a house, as plain lists. Assumes nothing.
use Rattle.std.specs.Prelude.{List, map}
use Rattle.house.specs.declared.rule.HouseRule.{HouseRule}
use Rattle.house.specs.declared.settings.Entry.{Entry}
use Rattle.house.specs.declared.settings.Kind.{Kind}
use Rattle.house.specs.declared.settings.Layer.{Layer}
use Rattle.house.specs.declared.settings.Settings.{Settings}

-- a firm cap: the firm of each member, and the cap of each firm
pub record CapText : Type 0 where
  pub members : List Entry
  pub caps : List Entry

-- all that is said, the firm caps from the lowest up
pub record Written : Type 0 where
  pub rule : HouseRule
  pub kind : Kind
  pub accounts : List Entry
  pub layers : List CapText

abbrev pub cap_text : List Entry → List Entry → CapText
cap_text ms cs = record { members = ms; caps = cs }

abbrev pub written : HouseRule → Kind → List Entry → List CapText → Written
written r k es ls = record { rule = r; kind = k; accounts = es; layers = ls }

abbrev pub layer_view : Layer → CapText
layer_view l = cap_text l.members.items l.caps.items

abbrev pub settings_view : Settings → Written
settings_view s = written s.rule s.kind s.accounts.items (map layer_view s.layers.items)
