-- The members of firms. Assumes nothing.
use Rattle.std.proofs.Common.{◌≡◌, ℕ, ◌<◌, true, ◌&&◌, List, length, ℤ}
use Rattle.std.proofs.lemmas.Bool.{and_parts}
use Rattle.ordered.specs.Row.{Lacks}
use Rattle.clearing.specs.Account.{account_fits}
use Rattle.centres.specs.Firms.{can_place, firm_fits, member_account}
use Rattle.centres.specs.declared.firm_table.Member.{Member}
use Rattle.clearing.specs.Seen.{has_place_parts}

-- an account that can be placed finds a place free, and is in no firm yet
pub can_place_parts : (ms : List Member) (a : ℤ) (f : ℕ) → can_place ms a f ≡ true → (length ms < 32) × Lacks member_account ms a (length ms)
can_place_parts ms a f can =
    has_place_parts member_account (λ m. m.firm) ms a (and_parts (account_fits a && firm_fits f) _ can).1
