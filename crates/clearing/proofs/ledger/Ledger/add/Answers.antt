-- There is room for one row more, so that it comes to its place.
use Rattle.std.proofs.Common.{◌≡◌, ℕ, ◌<◌, true, List, length, ℤ, Ok, Result, rules, sym, ap, ◌∙◌, subst}
use Rattle.ordered.specs.Kept.{AddedWithin}
use Rattle.ordered.specs.Row.{Lacks, place}
use Rattle.clearing.specs.Ledger.{Added, account_before, account_of, can_add, lines_of, opened}
use Rattle.clearing.specs.Table.{with_entry}
use Rattle.clearing.specs.declared.account_line.AccountLine.{AccountLine}
use Rattle.clearing.proofs.Joins.{joins}
use Rattle.clearing.proofs.Ledgers.{can_add_parts}
use Rattle.clearing.proofs.Passed.{passed}
use Rattle.clearing.proofs.ledger.Ledger.add.Goals as goal

free : (xs : List AccountLine) (a : ℤ) (n : ℕ) (x : AccountLine) → x ≡ opened a n → can_add xs a ≡ true → (length xs < 32) × Lacks account_of xs x.account (length xs)
free xs a n x is can = can_add_parts xs x.account (subst (λ y. can_add xs y.account ≡ true) (sym is) can)

opened_row : (xs ys : List AccountLine) (a : ℤ) (n : ℕ) (x : AccountLine) (r : Result ℕ AccountLine) → x ≡ opened a n → can_add xs a ≡ true → AddedWithin 32 account_before xs x ys r → (r ≡ Ok (place account_before xs x)) × Added xs a n ys
opened_row xs ys a n x r is can came =
    let j = joins account_before account_of xs ys x r (free xs a n x is can) came in
    (j.ok, subst (λ y. Added xs y.account y.allowance ys) is (j.shows (λ y. y.line) ∙ ap (λ y. with_entry (lines_of xs) x.account y.line) is, j.shows (λ y. y.allowance), j.long))

pub invariant_of-self : goal.invariant_of-self
invariant_of-self c =
    let l = c.args.self.now in
    let can = passed (λ a. can_add l.rows a ≡ true) c.args.account c.ranges.account (sym c.if-not-can_add.ensures) in
    let is = passed (λ a. c.new-row.result ≡ opened a c.args.allowance) c.args.account c.ranges.account c.new-row.ensures in
    record { ordered = c.add.ensures.ordered l.ordered (free l.rows c.args.account c.args.allowance c.new-row.result is can).1 }

pub returns : goal.returns
returns c =
    let l = c.args.self.now in
    let can = passed (λ a. can_add l.rows a ≡ true) c.args.account c.ranges.account (sym c.if-not-can_add.ensures) in
    let is = passed (λ a. c.new-row.result ≡ opened a c.args.allowance) c.args.account c.ranges.account c.new-row.ensures in
    let o = opened_row l.rows c.add.new.self c.args.account c.args.allowance c.new-row.result c.add.result is can c.add.ensures.added in
    search rules
