-- The firms of a cap: their accounts, their caps, and when one is passed. Assumes nothing.
use Rattle.std.specs.Prelude.{◌≡◌, ℕ, zero, ◌+◌, ◌-◌, Bool, false, cond, ◌&&◌, List, ℤ, Some, None, Option, ◌==◌, int_lt, min, nat_le, nat_lt, slice_index}
use Rattle.std.specs.List.{insert, sum_by}
use Rattle.ordered.specs.Row.{place}
use Rattle.clearing.specs.Account.{account_fits}
use Rattle.clearing.specs.Cause.{denied}
use Rattle.clearing.specs.Centre.{Lines, Own}
use Rattle.clearing.specs.Line.{all_counts}
use Rattle.clearing.specs.Table.{has_place, seen, with_entry}
use Rattle.clearing.specs.declared.cause.Cause.TheVariants.{OverFirmCap}
use Rattle.clearing.specs.declared.cause.Denial.{Denial}
use Rattle.centres.specs.declared.firm_table.Member.{Member}
use Rattle.clearing.specs.declared.line.Line.{Line}

abbrev pub member_account : Member → ℤ
member_account m = m.account

abbrev pub member_before : Member → Member → Bool
member_before x y = int_lt x.account y.account

abbrev pub member_of : ℤ → ℕ → Member
member_of a f = record { account = a; firm = f }

abbrev pub firm_fits : ℕ → Bool
firm_fits f = nat_le 1 f && nat_le f 8

abbrev pub cap_fits : ℕ → Bool
cap_fits n = nat_le n 999999999

-- the firm of each account that is in one
abbrev pub firm_of : List Member → ℤ → Option ℕ
firm_of ms = seen member_account (λ m. m.firm) ms

-- the caps are those of the firms 1 to 8
abbrev pub cap_of : List ℕ → ℕ → ℕ
cap_of caps f = cond (firm_fits f) (slice_index caps (f - 1)) 0

-- an account that can be placed in a firm
abbrev pub can_place : List Member → ℤ → ℕ → Bool
can_place ms a f = account_fits a && firm_fits f && has_place ms (firm_of ms a)

-- the members ms with a new one, at its place, become ns
abbrev pub Placed : List Member → ℤ → ℕ → List Member → Type 0
Placed ms a f ns = (ns ≡ insert ms (place member_before ms (member_of a f)) (member_of a f)) × (firm_of ns ≡ with_entry (firm_of ms) a f)

-- all four counts of a line; a missing one counts 0
abbrev pub counts_of : Option Line → ℕ
counts_of None = zero
counts_of (Some l) = all_counts l

-- what a member adds to a firm: the counts of its line, if it is in that firm
abbrev pub share_of : Lines → Member → ℕ → ℕ
share_of L m f = cond (m.firm == f) (counts_of (L m.account)) zero

-- the counts of all accounts of a firm
abbrev pub firm_total : Lines → List Member → ℕ → ℕ
firm_total L ms f = sum_by (λ m. share_of L m f) ms

-- with n lots more, the firm of the account would pass its cap; an account in no firm passes
abbrev pub over_at : Lines → List Member → List ℕ → ℕ → Option ℕ → Bool
over_at L ms caps n None = false
over_at L ms caps n (Some f) = nat_lt (cap_of caps f) (firm_total L ms f + n)

abbrev pub over_cap : Lines → List Member → List ℕ → ℤ → ℕ → Bool
over_cap L ms caps a n = over_at L ms caps n (firm_of ms a)

-- the first of two answers that is a no
abbrev pub first_no : Option Denial → Option Denial → Option Denial
first_no None x = x
first_no (Some d) x = Some d

-- the depth of a layer over one at the depth d: it stops growing at 99
abbrev pub layer_over : ℕ → ℕ
layer_over d = min (d + 1) 99

-- the no of a cap at depth d, where n lots more would pass it
abbrev pub cap_no : Lines → List Member → List ℕ → ℕ → ℤ → ℕ → Option Denial
cap_no L ms caps d a n = cond (over_cap L ms caps a n) (Some (denied OverFirmCap d)) None

-- a cap over an own rule: that one is asked first
abbrev pub cap_own : Own → List Member → List ℕ → ℕ → Own
cap_own below ms caps d L a s n = first_no (below L a s n) (cap_no L ms caps d a n)
