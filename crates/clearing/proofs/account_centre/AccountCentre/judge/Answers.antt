-- The answer follows what the account's own row says.
use Rattle.std.proofs.Common.{◌≡◌, true, length, Some, sym, ap, ◌∙◌, subst}
use Rattle.std.proofs.lemmas.List.{get_or_read}
use Rattle.std.proofs.lemmas.Bool.{cond-true, cond-false}
use Rattle.ordered.specs.Row.{Found, Lacks}
use Rattle.clearing.specs.Ledger.{account_of}
use Rattle.clearing.specs.Line.{in_range}
use Rattle.clearing.proofs.Passed.{passed}
use Rattle.clearing.specs.Verdicts.{verdict_none, verdict_row}
use Rattle.clearing.proofs.account_centre.AccountCentre.judge.Goals as goal

pub returns-in_default : goal.returns-in_default
returns-in_default g c =
    let rows = c.args.self.now.ledger.rows in
    let lacks = passed (λ a. Lacks account_of rows a (length rows)) c.args.account c.ranges.account c.in_default.ensures in
    verdict_none _ rows c.args.account c.args.side c.args.lots lacks ∙ ap Some (sym c.new.ensures)

pub returns-then-not-has_room : goal.returns-then-not-has_room
returns-then-not-has_room g c =
    let rows = c.args.self.now.ledger.rows in
    let found = passed (λ a. Found account_of rows a (Some c.in-Some.at)) c.args.account c.ranges.account c.in-Some.ensures in
    verdict_row _ rows c.args.account c.args.side c.args.lots c.in-Some.at c.row-row.result found c.row-row.ensures
    ∙ cond-false _ _ _ (sym c.if-not-has_room.ensures)
    ∙ ap Some (sym c.new-then-not-has_room.ensures)

pub returns-then-not-admits : goal.returns-then-not-admits
returns-then-not-admits g c =
    let rows = c.args.self.now.ledger.rows in
    let found = passed (λ a. Found account_of rows a (Some c.in-Some.at)) c.args.account c.ranges.account c.in-Some.ensures in
    verdict_row _ rows c.args.account c.args.side c.args.lots c.in-Some.at c.row-row.result found c.row-row.ensures
    ∙ cond-true _ _ _ (sym c.if-not-has_room.ensures)
    ∙ cond-false _ _ _ (sym c.if-not-admits.ensures)
    ∙ ap Some (sym c.new-then-not-admits.ensures)

pub returns : goal.returns
returns g c =
    let rows = c.args.self.now.ledger.rows in
    let found = passed (λ a. Found account_of rows a (Some c.in-Some.at)) c.args.account c.ranges.account c.in-Some.ensures in (
      found,
      λ d. subst (λ x. in_range c.args.side c.args.lots x.line ≡ true) (get_or_read rows c.in-Some.at c.row-row.result found.0 c.row-row.ensures d) (sym c.if-not-has_room.ensures),
      verdict_row _ rows c.args.account c.args.side c.args.lots c.in-Some.at c.row-row.result found c.row-row.ensures
          ∙ cond-true _ _ _ (sym c.if-not-has_room.ensures)
          ∙ cond-true _ _ _ (sym c.if-not-admits.ensures),
    )
