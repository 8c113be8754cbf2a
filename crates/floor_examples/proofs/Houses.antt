-- The accounts and members of the examples' centres are those that the contracts of the centres promise. Assumes nothing.
use Rattle.std.proofs.Common.{◌≡◌, ℕ, Bool, true, false, cond, ◌&&◌, List, ℤ, Ok, refl}
use Rattle.std.specs.Prelude.{MatchBool, nat_le}
use Rattle.std.proofs.lemmas.Bool.{and_parts}
use Rattle.ordered.specs.Row.{place}
use Rattle.clearing.specs.Ledger.{Added, account_before, account_of, can_add, opened}
use Rattle.clearing.specs.declared.account_line.AccountLine.{AccountLine}
use Rattle.clearing.proofs.Joins.{joins}
use Rattle.clearing.proofs.Ledgers.{can_add_parts}
use Rattle.centres.specs.Firms.{Placed, can_place, member_account, member_before, member_of}
use Rattle.centres.specs.declared.firm_table.Member.{Member}
use Rattle.centres.proofs.Members.{can_place_parts}
use Rattle.floor_examples.specs.House.{AddsAsPromised, PlacesAsPromised, joined}

module _ (top n : ℕ) (rows : List AccountLine) (a : ℤ) where
  new_rows : List AccountLine
  new_rows = joined account_before rows (opened a n)

  -- the two cases, by the test
  added_by : (b : Bool) → (nat_le n top && can_add rows a) ≡ b → MatchBool b (Added rows a n (cond b new_rows rows)) (cond b new_rows rows ≡ rows)
  unfolding new_rows
  added_by true fits =
      let free = can_add_parts rows a (and_parts (nat_le n top) (can_add rows a) fits).1 in
      let j = joins account_before account_of rows new_rows (opened a n) (Ok (place account_before rows (opened a n))) free (free.0, refl, refl) in
      (j.shows (λ x. x.line), j.shows (λ x. x.allowance), j.long)
  added_by false fails = refl

module _ (ms : List Member) (a : ℤ) (f : ℕ) where
  new_members : List Member
  new_members = joined member_before ms (member_of a f)

  placed_by : (b : Bool) → can_place ms a f ≡ b → MatchBool b (Placed ms a f (cond b new_members ms)) (cond b new_members ms ≡ ms)
  unfolding new_members
  placed_by true can =
      let free = can_place_parts ms a f can in
      let j = joins member_before member_account ms new_members (member_of a f) (Ok (place member_before ms (member_of a f))) free (free.0, refl, refl) in
      (refl, j.shows (λ m. m.firm))
  placed_by false cannot = refl

pub adds_as_promised : AddsAsPromised
unfolding new_rows
adds_as_promised top n rows a = added_by top n rows a (nat_le n top && can_add rows a) refl

pub places_as_promised : PlacesAsPromised
unfolding new_members
places_as_promised ms a f = placed_by ms a f (can_place ms a f) refl
