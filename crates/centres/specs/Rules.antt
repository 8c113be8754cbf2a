-- The two rules that a house can have over an account's own line, with the ranges of their settings. Assumes nothing.
use Rattle.std.specs.Prelude.{ℕ, ◌+◌, ◌*◌, Bool, ◌&&◌, nat_le}
use Rattle.clearing.specs.Line.{on, side_sum, all_counts}
use Rattle.clearing.specs.Side.{other}
use Rattle.clearing.specs.declared.line.Line.{Line}
use Rattle.clearing.specs.declared.side.Side.{Side}

-- the margin for each lot
abbrev pub margin_fits : ℕ → Bool
margin_fits m = nat_le 1 m && nat_le m 1000000

-- the most that an account may deposit
abbrev pub deposit_max : ℕ
deposit_max = 1000000000000000

-- prepaid: all lots of the account, the new ones too, at the margin, are within the deposit
abbrev pub prepaid_admits : ℕ → ℕ → Line → ℕ → Bool
prepaid_admits margin deposit l n = nat_le (margin * (all_counts l + n)) deposit

-- the largest position limit
abbrev pub limit_max : ℕ
limit_max = 999999999

-- by position: the lots of one side, the new ones too, are within the limit and what is settled on the other
abbrev pub position_admits : ℕ → Line → Side → ℕ → Bool
position_admits limit l s n = nat_le (side_sum s l + n) (limit + (on (other s) l).settled)
