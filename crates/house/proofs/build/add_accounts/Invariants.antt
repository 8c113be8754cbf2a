-- The accounts that are left, after those that were added, make what all make.
use Rattle.std.proofs.Common.{◌≡◌, drop, length}
use Rattle.clearing.specs.Ledger.{allowances_of, lines_of}
use Rattle.house.specs.Built.{accounts_fit, with_lines, with_values}
use Rattle.house.specs.House.{margin_of, rows_of}
use Rattle.house.proofs.build.add_accounts.Given as goal

abbrev pub invariant-loop-entry : goal.invariant-loop-entry
invariant-loop-entry l =
    let rest = drop l.entry-index l.entries in
    let now' = rows_of l.base in
    let first = rows_of l.initial.base in
    let m = margin_of l.initial.base in
    (accounts_fit rest m (length now') (lines_of now') ≡ accounts_fit l.entries m (length first) (lines_of first))
    × (with_lines rest (lines_of now') ≡ with_lines l.entries (lines_of first))
    × (with_values rest (allowances_of now') ≡ with_values l.entries (allowances_of first))
    × (margin_of l.base ≡ m)
