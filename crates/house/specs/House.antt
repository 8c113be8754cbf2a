-- The centre of a house, by position or prepaid, under firm caps. Assumes nothing.
use Rattle.std.specs.Prelude.{◌≡◌, ℕ, ◌-◌, Bool, true, false, ◌&&◌, List, ℤ, pos, negsuc, Some, None, Ok, Err, Option, Result, nat_le, slice_set, unwrap_or}
use Rattle.centres.specs.Either.{either_of}
use Rattle.centres.specs.Firms.{Placed, can_place, cap_fits, firm_fits}
use Rattle.centres.specs.Layers.{TopSet, with_below}
use Rattle.centres.specs.Rules.{deposit_max, limit_max}
use Rattle.centres.specs.declared.either.Either.{Either}
use Rattle.centres.specs.declared.firm_table.Member.{Member}
use Rattle.centres.specs.declared.layers.Layers.{Layers}
use Rattle.centres.specs.declared.position.Position.{Position}
use Rattle.centres.specs.declared.prepaid.Prepaid.{Prepaid}
use Rattle.clearing.specs.Cause.{denied}
use Rattle.clearing.specs.Ledger.{Added, can_add}
use Rattle.clearing.specs.declared.account_centre.AccountCentre.{AccountCentre}
use Rattle.clearing.specs.declared.account_line.AccountLine.{AccountLine}
use Rattle.clearing.specs.declared.cause.Cause.TheVariants.{BadSetting}
use Rattle.clearing.specs.declared.cause.Denial.{Denial}

abbrev pub Base : Type 0
Base = Either (AccountCentre Position) (AccountCentre Prepaid)

abbrev pub HouseCentre : Type 0
HouseCentre = Layers Base

-- the accounts with their allowances and lines
abbrev pub rows_of : Base → List AccountLine
rows_of = either_of (λ c. c.ledger.rows) (λ c. c.ledger.rows)

-- the margin of a prepaid centre; by position there is none
abbrev pub margin_of : Base → Option ℕ
margin_of = either_of (λ c. None) (λ c. Some c.rule.margin)

-- the largest deposit, or the largest limit
abbrev pub allowance_max : Option ℕ → ℕ
allowance_max None = limit_max
allowance_max (Some m) = deposit_max

-- a setting, if it is not below 0
abbrev pub from_zero : ℤ → Option ℕ
from_zero (pos n) = Some n
from_zero (negsuc n) = None

abbrev pub amount : ℤ → ℕ
amount z = unwrap_or (from_zero z) 0

-- the value is there and passes the test
abbrev pub passes : {A : Type 0} → (A → Bool) → Option A → Bool
passes test None = false
passes test (Some x) = test x

-- a limit or a deposit, within the range of the centre's kind
abbrev pub allowance_fits : Option ℕ → ℤ → Bool
allowance_fits m z = passes (λ n. nat_le n (allowance_max m)) (from_zero z)

abbrev pub firm_in_range : ℤ → Bool
firm_in_range z = passes firm_fits (from_zero z)

abbrev pub cap_in_range : ℤ → Bool
cap_in_range z = passes cap_fits (from_zero z)

-- an account is added with its allowance, or by cause 6 nothing changes
abbrev pub AddedToBase : Base → ℤ → ℤ → Base → Result (Unit {0}) Denial → Type 0
AddedToBase b a z b' (Ok x) = ((allowance_fits (margin_of b) z && can_add (rows_of b) a) ≡ true) × Added (rows_of b) a (amount z) (rows_of b') × (margin_of b' ≡ margin_of b)
AddedToBase b a z b' (Err d) = ((allowance_fits (margin_of b) z && can_add (rows_of b) a) ≡ false) × (d ≡ denied BadSetting 0) × (b' ≡ b)

-- the same below all firm caps
abbrev pub AccountAdded : HouseCentre → ℤ → ℤ → HouseCentre → Result (Unit {0}) Denial → Type 0
AccountAdded c a z c' r = AddedToBase c.below a z c'.below r × (c' ≡ with_below c c'.below)

abbrev pub can_place_in : List Member → ℤ → ℤ → Bool
can_place_in ms a z = passes (can_place ms a) (from_zero z)

-- an account is placed in a firm of the highest layer, over a centre at depth 0, or by cause 6 of that layer nothing changes
abbrev pub PlacedTo : HouseCentre → ℤ → ℤ → HouseCentre → Result (Unit {0}) Denial → Type 0
PlacedTo c a z = TopSet (λ t. can_place_in t.members a z) (λ t u. (can_place_in t.members a z ≡ true) × Placed t.members a (amount z) u.members × (u.caps ≡ t.caps)) 0 c

-- a firm's cap is set in the highest layer, over a centre at depth 0, or by cause 6 of that layer nothing changes
abbrev pub CapSetTo : HouseCentre → ℤ → ℤ → HouseCentre → Result (Unit {0}) Denial → Type 0
CapSetTo c f z = TopSet (λ t. firm_in_range f && cap_in_range z) (λ t u. ((firm_in_range f && cap_in_range z) ≡ true) × (u.caps ≡ slice_set t.caps (amount f - 1) (amount z)) × (u.members ≡ t.members)) 0 c
