-- The row where the account was found tells what it holds.
use Rattle.std.proofs.Common.{◌≤◌, length, Some, ap, ◌∙◌, subst, arith}
use Rattle.std.proofs.lemmas.List.{get_or_read}
use Rattle.std.proofs.lemmas.Bool.{le-leb, lt-leb}
use Rattle.ordered.specs.Row.{Found, Lacks}
use Rattle.clearing.specs.Centre.{holds}
use Rattle.clearing.specs.Ledger.{account_of}
use Rattle.clearing.specs.Line.{on}
use Rattle.clearing.proofs.Ledgers.{holds_row}
use Rattle.clearing.proofs.Passed.{passed}
use Rattle.clearing.specs.Seen.{seen_none}
use Rattle.clearing.proofs.ledger.Ledger.holder.Goals as goal

pub returns-in_default : goal.returns-in_default
returns-in_default c =
    let rows = c.args.self.now.rows in
    let lacks = passed (λ a. Lacks account_of rows a (length rows)) c.args.account c.ranges.account c.in_default.ensures in
    (ap (λ o. holds o c.args.side c.args.lots) (seen_none account_of (λ r. r.line) rows c.args.account lacks), c.new-not_held.ensures)

pub returns-then-lots-on : goal.returns-then-lots-on
returns-then-lots-on c =
    let rows = c.args.self.now.rows in
    let found = passed (λ a. Found account_of rows a (Some c.in-Some.at)) c.args.account c.ranges.account c.in-Some.ensures in (
      holds_row rows c.in-Some.at c.args.account c.args.side c.args.lots c.row.result found c.row.ensures
          ∙ lt-leb _ _ (omega (arith, c.if-lots-on.true, ap (λ x. x.held) c.on.ensures)),
      c.new-not_held.ensures,
    )

pub returns : goal.returns
returns c =
    let rows = c.args.self.now.rows in
    let found = passed (λ a. Found account_of rows a (Some c.in-Some.at)) c.args.account c.ranges.account c.in-Some.ensures in
    let holding : c.args.lots ≤ (on c.args.side c.row.result.line).held = omega (arith, c.if-lots-on.false, ap (λ x. x.held) c.on.ensures) in (
      found,
      holds_row rows c.in-Some.at c.args.account c.args.side c.args.lots c.row.result found c.row.ensures ∙ le-leb _ _ holding,
      λ d. subst (λ x. c.args.lots ≤ (on c.args.side x.line).held) (get_or_read rows c.in-Some.at c.row.result found.0 c.row.ensures d) holding,
    )
