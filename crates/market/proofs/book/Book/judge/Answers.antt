-- The refusals are judged stage by stage, each on what the stages before left open.
use Rattle.std.proofs.Common.{sym, ◌∙◌, ap₂, w64, SFits, rules}
use Rattle.std.proofs.lemmas.Int.{to_z-of_z}
use Rattle.std.proofs.lemmas.Result.{err_from_is_err_and}
use Rattle.clearing.specs.Centre.{answered, verdict}
use Rattle.market.proofs.Refusals.{allowed_no, allowed_yes, by_centre, by_lines, by_terms, by_walk, centre_no, centre_yes, plan_lines}
use Rattle.market.specs.BookState.{state_of}
use Rattle.market.specs.Calls.{walk_of}
use Rattle.market.proofs.book.Book.judge.Goals as goal

pub returns-in_err-check_terms : goal.returns-in_err-check_terms
returns-in_err-check_terms g c =
    let b = c.args.self.now in
    let R = g.R.QueueRule.rule b.rule.rule in
    let e = c.args.entry.now in
    let p = err_from_is_err_and c.from_residual.result c.from_residual.ensures.1 in
    rw (p.1, p.2) (by_terms (g.C.Centre.own c.args.centre.now) (state_of b) (g.C.Centre.lines c.args.centre.now) e (walk_of R (state_of b) e) c.in_err-check_terms.field-0.0 (allowed_no _ _ (sym c.in_err-check_terms.ensures)))

pub returns-in_err-check_walk : goal.returns-in_err-check_walk
returns-in_err-check_walk g c =
    let b = c.args.self.now in
    let R = g.R.QueueRule.rule b.rule.rule in
    let e = c.args.entry.now in
    let p = err_from_is_err_and c.from_residual-in_err-check_walk.result c.from_residual-in_err-check_walk.ensures.1 in
    rw (p.1, p.2) (by_walk (g.C.Centre.own c.args.centre.now) (state_of b) (g.C.Centre.lines c.args.centre.now) e (walk_of R (state_of b) e) (allowed_yes _ _ (sym c.in_ok-check_terms.ensures)) c.plan-plan.result c.plan-plan.ensures.plans c.in_err-check_walk.field-0.0 (allowed_no _ _ (sym c.in_err-check_walk.ensures)))

pub returns-then-out_of_step : goal.returns-then-out_of_step
returns-then-out_of_step g c =
    let b = c.args.self.now in
    let R = g.R.QueueRule.rule b.rule.rule in
    let e = c.args.entry.now in
    let L = g.C.Centre.lines c.args.centre.now in
    by_lines (g.C.Centre.own c.args.centre.now) (state_of b) L e (walk_of R (state_of b) e) (allowed_yes _ _ (sym c.in_ok-check_terms.ensures)) c.plan-plan.result c.plan-plan.ensures.plans (allowed_yes _ _ (sym c.in_ok-check_walk.ensures))
    (plan_lines R (state_of b) L e c.plan-plan.result c.plan-plan.ensures.plans c.other.result c.other.ensures _ c.if-out_of_step.ensures)

pub returns-in_err-question : goal.returns-in_err-question
returns-in_err-question g c =
    let b = c.args.self.now in
    let R = g.R.QueueRule.rule b.rule.rule in
    let e = c.args.entry.now in
    let C = g.C.Centre.own c.args.centre.now in
    let L = g.C.Centre.lines c.args.centre.now in
    let fa : SFits w64 e.account = search rules in
    let asked = c.question.ensures ∙ ap₂ (λ a n. answered (verdict C L a e.side n)) (to_z-of_z w64 e.account fa) c.entry_lots.ensures in
    let p = err_from_is_err_and c.from_residual-in_err-question.result c.from_residual-in_err-question.ensures.1 in
    rw (p.1, p.2) (by_centre C (state_of b) L e (walk_of R (state_of b) e) (allowed_yes _ _ (sym c.in_ok-check_terms.ensures)) c.plan-plan.result c.plan-plan.ensures.plans (allowed_yes _ _ (sym c.in_ok-check_walk.ensures))
    (plan_lines R (state_of b) L e c.plan-plan.result c.plan-plan.ensures.plans c.other.result c.other.ensures _ c.if-out_of_step.ensures)
    ∙ sym (centre_no _ _ (sym c.in_err-question.was ∙ asked)))

pub returns : goal.returns
returns g c =
    let b = c.args.self.now in
    let R = g.R.QueueRule.rule b.rule.rule in
    let e = c.args.entry.now in
    let C = g.C.Centre.own c.args.centre.now in
    let L = g.C.Centre.lines c.args.centre.now in
    let fa : SFits w64 e.account = search rules in
    let asked = c.question.ensures ∙ ap₂ (λ a n. answered (verdict C L a e.side n)) (to_z-of_z w64 e.account fa) c.entry_lots.ensures in (
      by_centre C (state_of b) L e (walk_of R (state_of b) e) (allowed_yes _ _ (sym c.in_ok-check_terms.ensures)) c.plan-plan.result c.plan-plan.ensures.plans (allowed_yes _ _ (sym c.in_ok-check_walk.ensures))
          (plan_lines R (state_of b) L e c.plan-plan.result c.plan-plan.ensures.plans c.other.result c.other.ensures _ c.if-out_of_step.ensures)
          ∙ sym (centre_yes _ _ (sym c.in_ok-question.was ∙ asked)),
      c.plan-plan.ensures.plans,
    )
