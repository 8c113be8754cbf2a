-- A cause read from its number. Assumes nothing.
use Rattle.std.proofs.Common.{◌≡◌, ℕ, false, Ok, Err, Result, sym, refl, ap, ◌∙◌, ◌==◌}
use Rattle.std.specs.Result.{result_unwrap_or}
use Rattle.std.proofs.lemmas.Bool.{cond-false, ne_eqb}
use Rattle.clearing.specs.Cause.{Numbered, cause_number}
use Rattle.clearing.specs.declared.cause.Cause.{Cause}
use Rattle.clearing.specs.declared.cause.Cause.TheVariants.{NoLine, OutOfRange, CentreRule, OverFirmCap, NotHeld, BadSetting}
use Rattle.clearing.specs.declared.cause.UnknownCause.{UnknownCause}
use Rattle.page.specs.Printed.{cause_numbered}

-- the number of a cause is read as that cause
pub cause_told : (c : Cause) → cause_numbered (cause_number c) ≡ c
cause_told NoLine = refl
cause_told OutOfRange = refl
cause_told CentreRule = refl
cause_told OverFirmCap = refl
cause_told NotHeld = refl
cause_told BadSetting = refl

-- and what is no cause's number as the last one
pub cause_read : (n : ℕ) (r : Result Cause UnknownCause) → Numbered n r → result_unwrap_or r BadSetting ≡ cause_numbered n
cause_read n (Ok c) is = sym (cause_told c) ∙ ap cause_numbered is
cause_read n (Err e) (same, none) =
    let other : (c : Cause) → (n == cause_number c) ≡ false = λ c. ne_eqb n (cause_number c) (λ is. none c (sym is)) in
    sym (cond-false _ _ _ (other NoLine) ∙ cond-false _ _ _ (other OutOfRange) ∙ cond-false _ _ _ (other CentreRule) ∙ cond-false _ _ _ (other OverFirmCap) ∙ cond-false _ _ _ (other NotHeld))
