-- Which house the settings make, step by step, and when they make none. Assumes nothing.
use Rattle.std.specs.Prelude.{◌≡◌, ℕ, ◌+◌, ◌-◌, Bool, true, false, cond, not, ◌&&◌, List, [], ◌∷◌, ◌++◌, length, replicate, ℤ, is_some, Some, None, Ok, Err, Option, Result, nat_lt, slice_set}
use Rattle.std.specs.List.{list_any}
use Rattle.std.specs.Ordering.{int_eq}
use Rattle.centres.specs.Firms.{firm_fits, firm_of}
use Rattle.centres.specs.Layers.{top_of, under_top}
use Rattle.centres.specs.Rules.{margin_fits}
use Rattle.centres.specs.declared.firm_table.FirmTable.{FirmTable}
use Rattle.centres.specs.declared.firm_table.Member.{Member}
use Rattle.clearing.specs.Account.{account_fits}
use Rattle.clearing.specs.Centre.{Lines}
use Rattle.clearing.specs.Ledger.{allowances_of, lines_of}
use Rattle.clearing.specs.Line.{empty}
use Rattle.clearing.specs.Table.{with_entry}
use Rattle.ordered.specs.Key.{eq_z}
use Rattle.house.specs.House.{Base, HouseCentre, allowance_fits, amount, cap_in_range, firm_in_range, from_zero, margin_of, passes, rows_of}
use Rattle.house.specs.Settings.{CapText}
use Rattle.house.specs.Stop.{IsRefusal}
use Rattle.house.specs.declared.settings.Entry.{Entry}
use Rattle.house.specs.declared.settings.Kind.{Kind}
use Rattle.house.specs.declared.settings.Kind.TheVariants.{Position, Prepaid}
use Rattle.house.specs.declared.stop.Stop.{Stop}

-- a margin within its range
abbrev pub margin_at : Option ℕ → Option (Option ℕ)
margin_at None = None
margin_at (Some m) = cond (margin_fits m) (Some (Some m)) None

-- the margin of a kind of centre, by position none; and no kind at all with a margin out of range
abbrev pub margin_said : Kind → Option (Option ℕ)
margin_said Position = Some None
margin_said (Prepaid z) = margin_at (from_zero z)

-- an account can be added where n are there, with these lines
abbrev pub account_fits_in : Option ℕ → Entry → ℕ → Lines → Bool
account_fits_in m e n L = allowance_fits m e.value && (account_fits e.number && (nat_lt n 32 && not (is_some (L e.number))))

-- accounts can be added, one after another
abbrev pub accounts_fit : List Entry → Option ℕ → ℕ → Lines → Bool
accounts_fit [] m n L = true
accounts_fit (e ∷ es) m n L = account_fits_in m e n L && accounts_fit es m (n + 1) (with_entry L e.number empty)

-- the lines with an empty one for each account
abbrev pub with_lines : List Entry → Lines → Lines
with_lines [] L = L
with_lines (e ∷ es) L = with_lines es (with_entry L e.number empty)

-- what f says of the accounts, with the value of each entry
abbrev pub with_values : List Entry → (ℤ → Option ℕ) → ℤ → Option ℕ
with_values [] f = f
with_values (e ∷ es) f = with_values es (with_entry f e.number (amount e.value))

-- the first of two that is there
abbrev pub or_else : {A : Type 0} → Option A → Option A → Option A
or_else None o = o
or_else (Some x) o = Some x

-- what the entries say of a number, the last of them where it stands in more than one
abbrev pub value_at : List Entry → ℤ → Option ℕ
value_at [] a = None
value_at (e ∷ es) a = or_else (value_at es a) (cond (eq_z e.number a) (Some (amount e.value)) None)

-- the accounts are added, or there is one that can't be
abbrev pub AccountsAdded : Base → List Entry → Base → Result (Unit {0}) Stop → Type 0
AccountsAdded b es b' (Ok x) = (accounts_fit es (margin_of b) (length (rows_of b)) (lines_of (rows_of b)) ≡ true) × (lines_of (rows_of b') ≡ with_lines es (lines_of (rows_of b))) × (allowances_of (rows_of b') ≡ with_values es (allowances_of (rows_of b))) × (margin_of b' ≡ margin_of b)
AccountsAdded b es b' (Err e) = IsRefusal e → accounts_fit es (margin_of b) (length (rows_of b)) (lines_of (rows_of b)) ≡ false

-- an account can be placed where n members are there, with these firms
abbrev pub member_fits_in : Entry → ℕ → (ℤ → Option ℕ) → Bool
member_fits_in e n F = passes (λ f. account_fits e.number && firm_fits f && (nat_lt n 32 && not (is_some (F e.number)))) (from_zero e.value)

-- accounts can be placed, one after another
abbrev pub members_fit : List Entry → ℕ → (ℤ → Option ℕ) → Bool
members_fit [] n F = true
members_fit (e ∷ es) n F = member_fits_in e n F && members_fit es (n + 1) (with_entry F e.number (amount e.value))

-- an entry of this number is among them
abbrev pub has_number : ℤ → List Entry → Bool
has_number n es = list_any (λ e. int_eq e.number n) es

-- caps of firms that were not set before, in their ranges
abbrev pub caps_fit : List Entry → List Entry → Bool
caps_fit [] done = true
caps_fit (e ∷ es) done = (not (has_number e.number done) && (firm_in_range e.number && cap_in_range e.value)) && caps_fit es (done ++ e ∷ [])

-- the caps of the firms 1 to 8, with those of the entries
abbrev pub with_caps : List Entry → List ℕ → List ℕ
with_caps [] caps = caps
with_caps (e ∷ es) caps = with_caps es (slice_set caps (amount e.number - 1) (amount e.value))

-- the members and the caps of the highest layer
abbrev pub members_in : Option FirmTable → List Member
members_in None = []
members_in (Some t) = t.members

abbrev pub caps_in : Option FirmTable → List ℕ
caps_in None = []
caps_in (Some t) = t.caps

abbrev pub top_members : HouseCentre → List Member
top_members c = members_in (top_of c.tables.items)

abbrev pub top_caps : HouseCentre → List ℕ
top_caps c = caps_in (top_of c.tables.items)

abbrev pub has_layer : HouseCentre → Bool
has_layer c = is_some (top_of c.tables.items)

-- nothing but the highest layer changes
abbrev pub SameUnderTop : HouseCentre → HouseCentre → Type 0
SameUnderTop c c' = (has_layer c' ≡ true) × (under_top c'.tables.items ≡ under_top c.tables.items) × (c'.below ≡ c.below)

abbrev pub MembersAdded : HouseCentre → List Entry → HouseCentre → Result (Unit {0}) Stop → Type 0
MembersAdded c es c' (Ok x) = (members_fit es (length (top_members c)) (firm_of (top_members c)) ≡ true) × (firm_of (top_members c') ≡ with_values es (firm_of (top_members c))) × (top_caps c' ≡ top_caps c) × SameUnderTop c c'
MembersAdded c es c' (Err e) = IsRefusal e → members_fit es (length (top_members c)) (firm_of (top_members c)) ≡ false

abbrev pub CapsSet : HouseCentre → List Entry → HouseCentre → Result (Unit {0}) Stop → Type 0
CapsSet c es c' (Ok x) = (caps_fit es [] ≡ true) × (top_caps c' ≡ with_caps es (top_caps c)) × (top_members c' ≡ top_members c) × SameUnderTop c c'
CapsSet c es c' (Err e) = IsRefusal e → caps_fit es [] ≡ false

-- a firm cap can be had
abbrev pub layer_fits : CapText → Bool
layer_fits l = members_fit l.members 0 (λ a. None) && caps_fit l.caps []

-- a table is the firm cap that is written
abbrev pub IsLayer : CapText → Option FirmTable → Type 0
IsLayer l None = ⊥
IsLayer l (Some t) = ((a : ℤ) → firm_of t.members a ≡ value_at l.members a) × (t.caps ≡ with_caps l.caps (replicate 8 0))

abbrev pub LayerBuilt : HouseCentre → CapText → HouseCentre → Result (Unit {0}) Stop → Type 0
LayerBuilt c l c' (Ok x) = (layer_fits l ≡ true) × IsLayer l (top_of c'.tables.items) × (under_top c'.tables.items ≡ c.tables.items) × (c'.below ≡ c.below)
LayerBuilt c l c' (Err e) = IsRefusal e → layer_fits l ≡ false

abbrev pub layers_fit : List CapText → Bool
layers_fit [] = true
layers_fit (l ∷ ls) = layer_fits l && layers_fit ls

-- the tables are the firm caps that are written, in their order
abbrev pub AreLayers : List CapText → List FirmTable → Type 0
AreLayers [] [] = Unit {0}
AreLayers [] (t ∷ ts) = ⊥
AreLayers (l ∷ ls) [] = ⊥
AreLayers (l ∷ ls) (t ∷ ts) = IsLayer l (Some t) × AreLayers ls ts

abbrev pub LayersBuilt : HouseCentre → List CapText → HouseCentre → Result (Unit {0}) Stop → Type 0
LayersBuilt c ls c' (Ok x) = (layers_fit ls ≡ true) × AreLayers ls c'.tables.items × (c'.below ≡ c.below)
LayersBuilt c ls c' (Err e) = IsRefusal e → layers_fit ls ≡ false
