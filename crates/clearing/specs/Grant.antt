-- Lots that are held, as a grant or at rest in an order. Assumes nothing.
use Rattle.std.specs.Prelude.{◌≡◌, ℕ, ◌-◌, ◌<◌, ◌≤◌, ℤ, Some, None, Option}
use Rattle.clearing.specs.declared.grant.Grant.{Grant}
use Rattle.clearing.specs.declared.resting.Resting.{Resting}
use Rattle.clearing.specs.declared.side.Side.{Side}

abbrev pub grant_of : ℤ → Side → ℕ → Grant
grant_of a s n = record { account = a; side = s; lots = n }

abbrev pub resting_of : ℤ → Side → ℕ → Resting
resting_of a s n = record { account = a; side = s; lots = n }

abbrev pub at_rest : Grant → Resting
at_rest g = resting_of g.account g.side g.lots

-- n lots are called up out of an order, and leave it; none are where it has fewer
abbrev pub CalledUp : Resting → ℕ → Resting → Option Grant → Type 0
CalledUp o n o' (Some g) = (n ≤ o.lots) × (g ≡ grant_of o.account o.side n) × (o' ≡ resting_of o.account o.side (o.lots - n))
CalledUp o n o' None = (o.lots < n) × (o' ≡ o)
