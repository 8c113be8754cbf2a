-- The numbers that an account may have. Assumes nothing.
use Rattle.std.specs.Prelude.{Bool, ◌&&◌, ℤ, pos, int_le}

abbrev pub account_fits : ℤ → Bool
account_fits a = int_le (pos 1) a && int_le a (pos 999999)
