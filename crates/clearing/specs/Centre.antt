-- What each call of a clearing centre answers and leaves, as a function of its lines and of its own rule.
-- Assumes nothing.
use Rattle.std.specs.Prelude.{◌≡◌, ℕ, ◌-◌, ◌≤◌, Bool, true, false, cond, ◌&&◌, ℤ, Some, None, Ok, Err, Option, Result, nat_le}
use Rattle.std.specs.Option.{option_map}
use Rattle.ordered.specs.Key.{eq_z}
use Rattle.clearing.specs.Cause.{denied}
use Rattle.clearing.specs.Grant.{grant_of}
use Rattle.clearing.specs.Line.{on, hold, settle, release, in_range, sound_line}
use Rattle.clearing.specs.declared.cause.Cause.{Cause}
use Rattle.clearing.specs.declared.cause.Cause.TheVariants.{NoLine, OutOfRange, CentreRule, OverFirmCap, NotHeld, BadSetting}
use Rattle.clearing.specs.declared.cause.Denial.{Denial}
use Rattle.clearing.specs.declared.centre.Unsettled.{Unsettled}
use Rattle.clearing.specs.declared.grant.Grant.{Grant}
use Rattle.clearing.specs.declared.line.Line.{Line}
use Rattle.clearing.specs.declared.side.Side.{Side}

-- one line for each account, or none
abbrev pub Lines : Type 0
Lines = ℤ → Option Line

-- what a centre's own rule says of an account, a side and new lots, at any lines: nothing, or why not
abbrev pub Own : Type 0
Own = Lines → ℤ → Side → ℕ → Option Denial

-- a line, where there is one, has each side's sum within its maximum
abbrev pub Sound : Option Line → Type 0
Sound None = Unit {0}
Sound (Some l) = sound_line l ≡ true

-- a no of an own rule: the centre's, at depth 0, or that of a firm cap at a depth from 1 to d
abbrev pub DeniedBy : ℕ → Cause → ℕ → Type 0
DeniedBy d NoLine k = ⊥
DeniedBy d OutOfRange k = ⊥
DeniedBy d CentreRule k = k ≡ 0
DeniedBy d OverFirmCap k = (1 ≤ k) × (k ≤ d)
DeniedBy d NotHeld k = ⊥
DeniedBy d BadSetting k = ⊥

abbrev pub Denies : ℕ → Option Denial → Type 0
Denies d None = Unit {0}
Denies d (Some x) = DeniedBy d x.cause x.depth

-- the question: the first cause that applies, or none
abbrev pub judged : Own → Lines → ℤ → Side → ℕ → Option Line → Option Denial
judged own L a s n None = Some (denied NoLine 0)
judged own L a s n (Some l) = cond (in_range s n l) (own L a s n) (Some (denied OutOfRange 0))

abbrev pub verdict : Own → Lines → ℤ → Side → ℕ → Option Denial
verdict own L a s n = judged own L a s n (L a)

-- yes where there is no cause
abbrev pub answered : Option Denial → Result (Unit {0}) Denial
answered None = Ok tt
answered (Some d) = Err d

-- the lines with f done to the line of one account
abbrev pub adjusted : Lines → ℤ → (Line → Line) → Lines
adjusted L a f = λ b. cond (eq_z a b) (option_map f (L b)) (L b)

-- a reservation, from the lines L to the lines L'
abbrev pub Reserved : Own → Lines → ℤ → Side → ℕ → Lines → Result Grant Denial → Type 0
Reserved own L a s n L' (Ok g) = (verdict own L a s n ≡ None) × (g ≡ grant_of a s n) × (L' ≡ adjusted L a (hold s n))
Reserved own L a s n L' (Err d) = (verdict own L a s n ≡ Some d) × (L' ≡ L)

-- the line is there and holds the lots
abbrev pub holds : Option Line → Side → ℕ → Bool
holds None s n = false
holds (Some l) s n = nat_le n (on s l).held

-- n lots of a grant can be settled
abbrev pub settles : Lines → Grant → ℕ → Bool
settles L g n = nat_le n g.lots && holds (L g.account) g.side n

abbrev pub unsettled : Grant → Unsettled
unsettled g = record { grant = g; denial = denied NotHeld 0 }

-- settling n lots of a grant
abbrev pub Settled : Lines → Grant → ℕ → Lines → Result Grant Unsettled → Type 0
Settled L g n L' (Ok rest) = (settles L g n ≡ true) × (rest ≡ grant_of g.account g.side (g.lots - n)) × (L' ≡ adjusted L g.account (settle g.side n))
Settled L g n L' (Err u) = (settles L g n ≡ false) × (u ≡ unsettled g) × (L' ≡ L)

-- giving a grant back
abbrev pub GivenBack : Lines → Grant → Lines → Result (Unit {0}) Denial → Type 0
GivenBack L g L' (Ok x) = (holds (L g.account) g.side g.lots ≡ true) × (L' ≡ adjusted L g.account (release g.side g.lots))
GivenBack L g L' (Err d) = (holds (L g.account) g.side g.lots ≡ false) × (d ≡ denied NotHeld 0) × (L' ≡ L)
