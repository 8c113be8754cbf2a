-- What an account's own row says to new lots. Assumes nothing.
use Rattle.std.specs.Prelude.{◌≡◌, ℕ, Bool, cond, List, length, ℤ, Some, None, Option, slice_index_or}
use Rattle.std.proofs.Common.{sym, ap, ap₂, ◌∙◌}
use Rattle.std.specs.Option.{option_map}
use Rattle.ordered.specs.Row.{Found, Lacks, at_key}
use Rattle.clearing.specs.AccountCentre.{account_own, own_at}
use Rattle.clearing.specs.Cause.{denied}
use Rattle.clearing.specs.Centre.{Sound, judged, verdict}
use Rattle.clearing.specs.Ledger.{account_of, allowances_of, lines_of}
use Rattle.clearing.specs.Line.{in_range}
use Rattle.clearing.specs.declared.cause.Cause.TheVariants.{CentreRule, NoLine, OutOfRange}
use Rattle.clearing.specs.declared.account_line.AccountLine.{AccountLine}
use Rattle.clearing.specs.declared.line.Line.{Line}
use Rattle.clearing.specs.declared.side.Side.{Side}
use Rattle.clearing.specs.Seen.{seen_found, seen_none}

module _ (admits : ℕ → Line → Side → ℕ → Bool) (xs : List AccountLine) (a : ℤ) (s : Side) (n : ℕ) where
  pub verdict_none : Lacks account_of xs a (length xs) → verdict (account_own admits (allowances_of xs)) (lines_of xs) a s n ≡ Some (denied NoLine 0)
  verdict_none lacks =
      ap (judged (account_own admits (allowances_of xs)) (lines_of xs) a s n) (seen_none account_of (λ r. r.line) xs a lacks)

  pub verdict_row : (i : ℕ) (x : AccountLine) → Found account_of xs a (Some i) → x ≡ slice_index_or xs i x → verdict (account_own admits (allowances_of xs)) (lines_of xs) a s n ≡ cond (in_range s n x.line) (cond (admits x.allowance x.line s n) None (Some (denied CentreRule 0))) (Some (denied OutOfRange 0))
  verdict_row i x found read =
      let line : lines_of xs a ≡ Some x.line = seen_found account_of (λ r. r.line) xs a i found x ∙ ap (λ r. Some r.line) (sym read) in
      let allowance : allowances_of xs a ≡ Some x.allowance = seen_found account_of (λ r. r.allowance) xs a i found x ∙ ap (λ r. Some r.allowance) (sym read) in
      ap₂ (λ k l. judged (λ _ _ s n. own_at admits k l s n) (lines_of xs) a s n l) allowance line

-- each line of the rows is sound
pub sound_lines : (xs : List AccountLine) (a : ℤ) → Sound (lines_of xs a)
sound_lines xs a = sound_at (at_key account_of xs a)
  where
    sound_at : (o : Option AccountLine) → Sound (option_map (λ r. r.line) o)
    sound_at None = tt
    sound_at (Some x) = x.sound
