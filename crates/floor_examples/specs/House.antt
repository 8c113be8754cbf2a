-- A house's queue rule and its centre, as a market is made over them: accounts are added, members placed and caps set,
-- one after another. Assumes nothing.
use Rattle.std.specs.Prelude.{◌≡◌, ℕ, ◌-◌, Bool, false, MatchBool, cond, ◌&&◌, List, [], replicate, ℤ, pos, None, nat_le, nat_lt, slice_set}
use Rattle.std.specs.List.{insert}
use Rattle.ordered.specs.Row.{place}
use Rattle.clearing.specs.AccountCentre.{account_own}
use Rattle.clearing.specs.Centre.{Lines, Own}
use Rattle.clearing.specs.Ledger.{Added, account_before, allowances_of, can_add, lines_of, opened}
use Rattle.clearing.specs.declared.account_line.AccountLine.{AccountLine}
use Rattle.clearing.specs.declared.line.Line.{Line}
use Rattle.clearing.specs.declared.side.Side.{Side}
use Rattle.centres.specs.Firms.{Placed, can_place, cap_fits, cap_own, firm_fits, layer_over, member_before, member_of}
use Rattle.centres.specs.Rules.{deposit_max, limit_max, position_admits, prepaid_admits}
use Rattle.centres.specs.declared.firm_table.Member.{Member}
use Rattle.market.specs.Rule.{Rule}

-- Queue rules

-- a rule of some house: by number alone, and no buy meets a sell
abbrev pub aloof : Rule
aloof = record { stands = λ x y. nat_lt x.number y.number; meets = λ b s. false }

-- another: the larger number stands first, and buys numbered from 3 on meet every sell
abbrev pub late : Rule
late = record { stands = λ x y. nat_lt y.number x.number; meets = λ b s. nat_le 3 b.number }

-- Centres

-- a row with one item more, at its place
abbrev pub joined : {X : Type 0} → (X → X → Bool) → List X → X → List X
joined before xs x = insert xs (place before xs x) x

-- what `AccountCentre::add` leaves of the rows: one more, where the account can be added, and else the same
abbrev pub with_account : ℕ → List AccountLine → ℤ → ℕ → List AccountLine
with_account top rows a n = cond (nat_le n top && can_add rows a) (joined account_before rows (opened a n)) rows

-- what `FirmCap::place` leaves of the members
abbrev pub with_member : List Member → ℤ → ℕ → List Member
with_member ms a f = cond (can_place ms a f) (joined member_before ms (member_of a f)) ms

-- what `FirmCap::set_cap` leaves of the caps
abbrev pub with_cap : List ℕ → ℕ → ℕ → List ℕ
with_cap caps f n = cond (firm_fits f && cap_fits n) (slice_set caps (f - 1) n) caps

-- `with_account` leaves what the contract of `AccountCentre::add` promises, where an account can be added and where not
abbrev pub AddsAsPromised : Type 0
AddsAsPromised =
    (top n : ℕ) (rows : List AccountLine) (a : ℤ) →
    MatchBool (nat_le n top && can_add rows a)
    (Added rows a n (with_account top rows a n))
    (with_account top rows a n ≡ rows)

-- `with_member` leaves what the contract of `FirmCap::place` promises, where an account can be placed and where not
abbrev pub PlacesAsPromised : Type 0
PlacesAsPromised =
    (ms : List Member) (a : ℤ) (f : ℕ) →
    MatchBool (can_place ms a f)
    (Placed ms a f (with_member ms a f))
    (with_member ms a f ≡ ms)

-- what a market sees of a centre: its own rule, its lines and its depth
pub record Centre : Type 0 where
  pub own : Own
  pub lines : Lines
  pub depth : ℕ

-- a rule over rows of accounts
abbrev pub account_centre : (ℕ → Line → Side → ℕ → Bool) → List AccountLine → Centre
account_centre admits rows =
    record { own = account_own admits (allowances_of rows); lines = lines_of rows; depth = 0 }

-- a firm cap over a centre
abbrev pub firm_cap : Centre → List Member → List ℕ → Centre
firm_cap below ms caps =
    let depth = layer_over below.depth in
    record { own = cap_own below.own ms caps depth; lines = below.lines; depth = depth }

-- the ledger of the examples: accounts 101, 102 and 103, each with the same allowance
abbrev pub three_accounts : ℕ → ℕ → List AccountLine
three_accounts top n =
    with_account top (with_account top (with_account top [] (pos 101) n) (pos 102) n) (pos 103) n

-- by position, each account with this limit
abbrev pub position : ℕ → Centre
position limit = account_centre position_admits (three_accounts limit_max limit)

-- prepaid, at this margin, each account with this deposit
abbrev pub prepaid : ℕ → ℕ → Centre
prepaid margin deposit =
    account_centre (λ n l s lots. prepaid_admits margin n l lots) (three_accounts deposit_max deposit)

-- one layer over a centre: two accounts in its firm 1, which has this cap
abbrev pub capped : Centre → ℕ → ℕ → ℕ → Centre
capped below a b cap =
    firm_cap below (with_member (with_member [] (pos a) 1) (pos b) 1) (with_cap (replicate 8 0) 1 cap)

-- two layers over a position centre, each account with limit 50: accounts 101 and 102 are in firm 1 of the first layer, and
-- accounts 101 and 103 in firm 1 of the second
abbrev pub two_caps : ℕ → ℕ → Centre
two_caps first second = capped (capped (position 50) 101 102 first) 101 103 second

-- a centre with any lines, whose own rule never says no
abbrev pub free : Lines → Centre
free L = record { own = λ M a s n. None; lines = L; depth = 0 }
