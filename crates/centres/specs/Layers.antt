-- Firm caps one over the other, the lowest first. Assumes nothing.
use Rattle.std.specs.Prelude.{◌≡◌, ℕ, ◌-◌, Bool, true, false, ◌&&◌, List, [], ◌∷◌, length, replicate, take, ℤ, Some, None, Ok, Err, Option, Result, slice_set}
use Rattle.std.specs.List.{slice_get}
use Rattle.clearing.specs.Cause.{denied}
use Rattle.clearing.specs.Centre.{Lines, Own}
use Rattle.clearing.specs.declared.cause.Cause.TheVariants.{BadSetting}
use Rattle.clearing.specs.declared.cause.Denial.{Denial}
use Rattle.centres.specs.Firms.{Placed, can_place, cap_fits, cap_no, firm_fits, first_no, layer_over}
use Rattle.centres.specs.declared.firm_table.FirmTable.{FirmTable}
use Rattle.centres.specs.declared.layers.Layers.{Layers}

-- the depth of the highest of these layers, over a centre at the depth d
abbrev pub depth_over : List FirmTable → ℕ → ℕ
depth_over [] d = d
depth_over (t ∷ ts) d = depth_over ts (layer_over d)

-- the first no of these caps, the lowest asked first, over a centre at the depth d
abbrev pub caps_no : List FirmTable → ℕ → Lines → ℤ → ℕ → Option Denial
caps_no [] d L a n = None
caps_no (t ∷ ts) d L a n = first_no (cap_no L t.members t.caps (layer_over d) a n) (caps_no ts (layer_over d) L a n)

-- the caps over an own rule: that one is asked first
abbrev pub layers_own : Own → ℕ → List FirmTable → Own
layers_own below d ts L a s n = first_no (below L a s n) (caps_no ts d L a n)

-- the highest layer's table, where there is a layer
abbrev pub top_of : List FirmTable → Option FirmTable
top_of ts = slice_get ts (length ts - 1)

-- the tables of the layers below the highest
abbrev pub under_top : List FirmTable → List FirmTable
under_top ts = take (length ts - 1) ts

-- a table with no members, where each firm's cap is 0
abbrev pub IsUnset : Option FirmTable → Type 0
IsUnset None = ⊥
IsUnset (Some t) = (t.members ≡ []) × (t.caps ≡ replicate 8 0)

-- over the same layers there is one more, with nothing set; without memory there is none
abbrev pub LayerAdded : {C E : Type 0} → Layers C → Layers C → Result (Unit {0}) E → Type 0
LayerAdded c c' (Ok x) = IsUnset (top_of c'.tables.items) × (under_top c'.tables.items ≡ c.tables.items) × (c'.below ≡ c.below)
LayerAdded c c' (Err e) = (c'.tables.items ≡ c.tables.items) × (c'.below ≡ c.below)

-- an account is placed in a firm of a table
abbrev pub TablePlaced : ℤ → ℕ → FirmTable → FirmTable → Type 0
TablePlaced a f t u = (can_place t.members a f ≡ true) × Placed t.members a f u.members × (u.caps ≡ t.caps)

-- a firm's cap is set in a table
abbrev pub TableCapSet : ℕ → ℕ → FirmTable → FirmTable → Type 0
TableCapSet f n t u = ((firm_fits f && cap_fits n) ≡ true) × (u.caps ≡ slice_set t.caps (f - 1) n) × (u.members ≡ t.members)

-- there is a table, and it passes the test
abbrev pub passes : (FirmTable → Bool) → Option FirmTable → Bool
passes can None = false
passes can (Some t) = can t

-- one table becomes another
abbrev pub Becomes : (FirmTable → FirmTable → Type 0) → Option FirmTable → Option FirmTable → Type 0
Becomes to None u = ⊥
Becomes to (Some t) None = ⊥
Becomes to (Some t) (Some u) = to t u

-- the highest layer's table becomes another, and all below it stays. Or, where it does not pass the test or there is no
-- layer, by cause 6 at the depth of these layers, over a centre at the depth d, nothing changes
abbrev pub TopSet : {C : Type 0} → (FirmTable → Bool) → (FirmTable → FirmTable → Type 0) → ℕ → Layers C → Layers C → Result (Unit {0}) Denial → Type 0
TopSet can to d c c' (Ok x) = Becomes to (top_of c.tables.items) (top_of c'.tables.items) × (under_top c'.tables.items ≡ under_top c.tables.items) × (c'.below ≡ c.below)
TopSet can to d c c' (Err e) = (passes can (top_of c.tables.items) ≡ false) × (e ≡ denied BadSetting (depth_over c.tables.items d)) × (c'.tables.items ≡ c.tables.items) × (c'.below ≡ c.below)

abbrev pub PlacedOnTop : {C : Type 0} → ℕ → Layers C → ℤ → ℕ → Layers C → Result (Unit {0}) Denial → Type 0
PlacedOnTop d c a f = TopSet (λ t. can_place t.members a f) (TablePlaced a f) d c

abbrev pub CapSetOnTop : {C : Type 0} → ℕ → Layers C → ℕ → ℕ → Layers C → Result (Unit {0}) Denial → Type 0
CapSetOnTop d c f n = TopSet (λ _. firm_fits f && cap_fits n) (TableCapSet f n) d c

-- the layers over another centre
abbrev pub with_below : {C : Type 0} → Layers C → C → Layers C
with_below s c = record s { below = c }
