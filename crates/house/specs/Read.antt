-- The house that a text says, or that it says none. Assumes nothing.
use Rattle.std.specs.Prelude.{◌≡◌, ℕ, Bool, true, false, ◌&&◌, List, Some, None, Ok, Err, Option, Result, option_and_then, option_map, ℤ, ⊤}
use Rattle.clearing.specs.Ledger.{allowances_of, lines_of}
use Rattle.clearing.specs.Line.{empty}
use Rattle.toml.specs.Parse.{parse_document}
use Rattle.house.specs.Built.{AreLayers, accounts_fit, layers_fit, margin_said, value_at}
use Rattle.house.specs.Document.{settings_of}
use Rattle.house.specs.House.{margin_of, passes, rows_of}
use Rattle.house.specs.Settings.{Written}
use Rattle.house.specs.Stop.{IsRefusal}
use Rattle.house.specs.declared.error.SettingsError.{SettingsError}
use Rattle.house.specs.declared.error.SettingsError.TheVariants as error
use Rattle.house.specs.declared.read.House.{House}
use Rattle.house.specs.declared.stop.Stop.{Stop}

-- what a text says of a house
abbrev pub said : List ℕ → Option Written
said text = option_and_then settings_of (parse_document text)

-- the centre takes all that is said
abbrev pub fits : Written → Bool
fits w = passes (λ m. accounts_fit w.accounts m 0 (λ a. None)) (margin_said w.kind) && layers_fit w.layers

-- the house is the one that is said
abbrev pub Means : Written → House → Type 0
Means w h =
    (h.rule ≡ w.rule)
    × (margin_said w.kind ≡ Some (margin_of h.centre.below))
    × ((a : ℤ) → allowances_of (rows_of h.centre.below) a ≡ value_at w.accounts a)
    × ((a : ℤ) → lines_of (rows_of h.centre.below) a ≡ option_map (λ _. empty) (value_at w.accounts a))
    × AreLayers w.layers h.centre.tables.items

abbrev pub HouseMade : Written → Result House Stop → Type 0
HouseMade w (Ok h) = (fits w ≡ true) × Means w h
HouseMade w (Err e) = IsRefusal e → fits w ≡ false

-- the text says this house, and its centre takes it
abbrev pub IsSaid : List ℕ → House → Type 0
IsSaid text h = (w : Written) × (said text ≡ Some w) × (fits w ≡ true) × Means w h

-- the text is to blame, and not memory
abbrev pub IsRefused : SettingsError → Type 0
IsRefused error.OutOfMemory = ⊥
IsRefused (error.NotUtf8 line) = ⊤
IsRefused (error.Syntax line e) = ⊤
IsRefused (error.Refused r) = ⊤
