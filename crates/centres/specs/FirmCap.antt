-- The settings of a firm cap. Assumes nothing.
use Rattle.std.specs.Prelude.{◌≡◌, ℕ, ◌-◌, true, false, ◌&&◌, ℤ, Ok, Err, Result, slice_set}
use Rattle.clearing.specs.Cause.{denied}
use Rattle.centres.specs.Firms.{Placed, can_place, cap_fits, firm_fits}
use Rattle.clearing.specs.declared.cause.Cause.TheVariants.{BadSetting}
use Rattle.clearing.specs.declared.cause.Denial.{Denial}
use Rattle.centres.specs.declared.firm_cap.FirmCap.{FirmCap}

-- an account is placed in a firm, or by cause 6 at this layer's depth d nothing changes
abbrev pub PlacedIn : {C : Type 0} → ℕ → FirmCap C → ℤ → ℕ → FirmCap C → Result (Unit {0}) Denial → Type 0
PlacedIn d c a f c' (Ok x) = (can_place c.firms.members a f ≡ true) × Placed c.firms.members a f c'.firms.members × (c'.firms.caps ≡ c.firms.caps) × (c'.below ≡ c.below)
PlacedIn d c a f c' (Err e) = (can_place c.firms.members a f ≡ false) × (e ≡ denied BadSetting d) × (c' ≡ c)

-- a firm's cap is set, or by cause 6 at this layer's depth d nothing changes
abbrev pub CapSet : {C : Type 0} → ℕ → FirmCap C → ℕ → ℕ → FirmCap C → Result (Unit {0}) Denial → Type 0
CapSet d c f n c' (Ok x) = ((firm_fits f && cap_fits n) ≡ true) × (c'.firms.caps ≡ slice_set c.firms.caps (f - 1) n) × (c'.firms.members ≡ c.firms.members) × (c'.below ≡ c.below)
CapSet d c f n c' (Err e) = ((firm_fits f && cap_fits n) ≡ false) × (e ≡ denied BadSetting d) × (c' ≡ c)
