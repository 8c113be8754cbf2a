-- The causes of a no, each with its number. Assumes nothing.
use Rattle.std.specs.Prelude.{◌≡◌, ℕ, Ok, Err, Result, ◌≢◌}
use Rattle.clearing.specs.declared.cause.Cause.{Cause}
use Rattle.clearing.specs.declared.cause.Cause.TheVariants.{NoLine, OutOfRange, CentreRule, OverFirmCap, NotHeld, BadSetting}
use Rattle.clearing.specs.declared.cause.Denial.{Denial}
use Rattle.clearing.specs.declared.cause.UnknownCause.{UnknownCause}

abbrev pub cause_number : Cause → ℕ
cause_number NoLine = 1
cause_number OutOfRange = 2
cause_number CentreRule = 3
cause_number OverFirmCap = 4
cause_number NotHeld = 5
cause_number BadSetting = 6

-- a number read as a cause: the cause with this number, or the number itself, which no cause has
abbrev pub Numbered : ℕ → Result Cause UnknownCause → Type 0
Numbered n (Ok c) = cause_number c ≡ n
Numbered n (Err e) = (e.0 ≡ n) × ((c : Cause) → cause_number c ≢ n)

abbrev pub denied : Cause → ℕ → Denial
denied c d = record { cause = c; depth = d }
