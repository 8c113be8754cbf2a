-- A centre whose rule judges each account by its own line and its allowance. Assumes nothing.
use Rattle.std.specs.Prelude.{◌≡◌, ℕ, Bool, true, false, cond, ◌&&◌, List, ℤ, Some, None, Ok, Err, Option, Result, nat_le, slice_index_or}
use Rattle.ordered.specs.Row.{Found}
use Rattle.clearing.specs.Cause.{denied}
use Rattle.clearing.specs.Centre.{Own, settles, verdict}
use Rattle.clearing.specs.Ledger.{Added, Adjusted, account_of, allowances_of, can_add, lines_of}
use Rattle.clearing.specs.Line.{in_range, settle}
use Rattle.clearing.specs.declared.account_centre.AccountCentre.{AccountCentre}
use Rattle.clearing.specs.declared.cause.Cause.TheVariants.{BadSetting, CentreRule, NotHeld}
use Rattle.clearing.specs.declared.cause.Denial.{Denial}
use Rattle.clearing.specs.declared.account_line.AccountLine.{AccountLine}
use Rattle.clearing.specs.declared.grant.Grant.{Grant}
use Rattle.clearing.specs.declared.line.Line.{Line}
use Rattle.clearing.specs.declared.side.Side.{Side}

-- the rule says no by cause 3 at the bottom, of an account with an allowance and a line
abbrev pub own_at : (ℕ → Line → Side → ℕ → Bool) → Option ℕ → Option Line → Side → ℕ → Option Denial
own_at admits None l s n = None
own_at admits (Some k) None s n = None
own_at admits (Some k) (Some l) s n = cond (admits k l s n) None (Some (denied CentreRule 0))

-- by the allowances that the house set, at any lines
abbrev pub account_own : (ℕ → Line → Side → ℕ → Bool) → (ℤ → Option ℕ) → Own
account_own admits allowances L a s n = own_at admits (allowances a) (L a) s n

-- the place of the row whose account may reserve the lots, or why it may not
abbrev pub Judged : (ℕ → Line → Side → ℕ → Bool) → List AccountLine → ℤ → Side → ℕ → Result ℕ Denial → Type 0
Judged admits xs a s n (Ok i) = Found account_of xs a (Some i) × ((d : AccountLine) → in_range s n (slice_index_or xs i d).line ≡ true) × (verdict (account_own admits (allowances_of xs)) (lines_of xs) a s n ≡ None)
Judged admits xs a s n (Err d) = verdict (account_own admits (allowances_of xs)) (lines_of xs) a s n ≡ Some d

-- an account is added with an allowance within its range, or by cause 6 nothing changes
abbrev pub AddedTo : {R : Type 0} → ℕ → AccountCentre R → ℤ → ℕ → AccountCentre R → Result (Unit {0}) Denial → Type 0
AddedTo top c a n c' (Ok x) = ((nat_le n top && can_add c.ledger.rows a) ≡ true) × Added c.ledger.rows a n c'.ledger.rows × (c'.rule ≡ c.rule)
AddedTo top c a n c' (Err d) = ((nat_le n top && can_add c.ledger.rows a) ≡ false) × (d ≡ denied BadSetting 0) × (c' ≡ c)

-- n lots of a grant are settled on its account's line, or by cause 5 no row changes
abbrev pub PartSettled : {R : Type 0} → AccountCentre R → Grant → ℕ → AccountCentre R → Result (Unit {0}) Denial → Type 0
PartSettled c g n c' (Ok x) = (settles (lines_of c.ledger.rows) g n ≡ true) × Adjusted c.ledger.rows g.account (settle g.side n) c'.ledger.rows × (c'.rule ≡ c.rule)
PartSettled c g n c' (Err d) = (settles (lines_of c.ledger.rows) g n ≡ false) × (d ≡ denied NotHeld 0) × (c'.ledger.rows ≡ c.ledger.rows) × (c'.rule ≡ c.rule)

-- the rule, and the deposit or the limit of each account, are what they were
abbrev pub SameAllowances : {R : Type 0} → AccountCentre R → AccountCentre R → Type 0
SameAllowances c c' = (c.rule ≡ c'.rule) × (allowances_of c.ledger.rows ≡ allowances_of c'.ledger.rows)
