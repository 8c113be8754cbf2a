-- The line of an account: four counts, and what each call makes of them. Assumes nothing.
use Rattle.std.specs.Prelude.{ℕ, ◌+◌, ◌-◌, Bool, ◌&&◌, nat_le}
use Rattle.clearing.specs.declared.line.Counts.{Counts}
use Rattle.clearing.specs.declared.line.Line.{Line}
use Rattle.clearing.specs.declared.side.Side.{Side}
use Rattle.clearing.specs.declared.side.Side.TheVariants.{Buy, Sell}

abbrev pub counts : ℕ → ℕ → Counts
counts held settled = record { held = held; settled = settled }

abbrev pub line_of : Counts → Counts → Line
line_of buy sell = record { buy = buy; sell = sell }

-- nothing held, nothing settled
abbrev pub empty : Line
empty = line_of (counts 0 0) (counts 0 0)

abbrev pub on : Side → Line → Counts
on Buy l = l.buy
on Sell l = l.sell

-- the line with other counts on one side
abbrev pub with_side : Side → Counts → Line → Line
with_side Buy c l = line_of c l.sell
with_side Sell c l = line_of l.buy c

-- held and settled of one side
abbrev pub side_sum : Side → Line → ℕ
side_sum s l = (on s l).held + (on s l).settled

abbrev pub all_counts : Line → ℕ
all_counts l = side_sum Buy l + side_sum Sell l

-- n lots more are held
abbrev pub hold : Side → ℕ → Line → Line
hold s n l = with_side s (counts ((on s l).held + n) (on s l).settled) l

-- n of the lots held are settled
abbrev pub settle : Side → ℕ → Line → Line
settle s n l = with_side s (counts ((on s l).held - n) ((on s l).settled + n)) l

-- n of the lots held are given back
abbrev pub release : Side → ℕ → Line → Line
release s n l = with_side s (counts ((on s l).held - n) (on s l).settled) l

-- the most lots that are held and settled on one side
abbrev pub side_max : ℕ
side_max = 999999999

-- the most lots of one reservation
abbrev pub lots_max : ℕ
lots_max = 1000000

-- each side's sum is at most the maximum
abbrev pub sound_line : Line → Bool
sound_line l = nat_le (side_sum Buy l) side_max && nat_le (side_sum Sell l) side_max

-- new lots that the line has room for
abbrev pub in_range : Side → ℕ → Line → Bool
in_range s n l = nat_le 1 n && nat_le n lots_max && nat_le (side_sum s l + n) side_max
