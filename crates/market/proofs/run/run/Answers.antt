-- Each turn is one call more of the run.
use Rattle.std.proofs.Common.{get_or, take, pos, sym, ap, ◌∙◌, ap₂, subst₂, arith}
use Rattle.std.proofs.lemmas.List.{take_more}
use Rattle.dealing.specs.declared.call.Call.TheVariants.{Open}
use Rattle.market.proofs.Runs.{run_on, runs_keep_the_law}
use Rattle.market.specs.BookState.{state_of}
use Rattle.market.specs.Calls.{answer}
use Rattle.market.specs.Law.{IsRun}
use Rattle.market.specs.Rule.{Lawful, Rule}
use Rattle.market.specs.declared.standing.ByRule.{ByRule}
use Rattle.market.proofs.run.run.Given as given
use Rattle.market.proofs.run.run.Goals as goal

-- a rule is lawful by the laws that its type owes
lawful : (g : given.Over) (rule : g.row.R.Denot) → Lawful (g.R.QueueRule.rule rule)
lawful g rule = record {
  irreflexive = g.met.R.QueueRule.irreflexive rule;
  transitive = g.met.R.QueueRule.transitive rule;
  decided = g.met.R.QueueRule.decided rule;
  meeting = g.met.R.QueueRule.meeting rule;
}

pub returns-in_err-market-clause-law : goal.returns-in_err-market-clause-law
returns-in_err-market-clause-law g c = runs_keep_the_law (g.R.QueueRule.rule c.args.rule) (lawful g c.args.rule) (g.C.Centre.own c.args.centre) (g.C.Centre.lines c.args.centre) c.args.calls.now

pub returns-in_err-replies-clause-law : goal.returns-in_err-replies-clause-law
returns-in_err-replies-clause-law g c = runs_keep_the_law (g.R.QueueRule.rule c.args.rule) (lawful g c.args.rule) (g.C.Centre.own c.args.centre) (g.C.Centre.lines c.args.centre) c.args.calls.now

pub loop-call-preserved : goal.loop-call-preserved
loop-call-preserved g c =
    let m = c.in_ok-market.market in
    let by : ByRule g.row.R.Denot → Rule = λ x. g.R.QueueRule.rule x.rule in
    let L = g.C.Centre.lines m.centre in
    let C = g.C.Centre.own m.centre in
    let inv = c.loop-call.invariant in
    let now' = c.loop-call.market in
    let next = c.call.new.self in
    let calls = c.args.calls.now in
    let i = c.loop-call.call-index in
    let it = get_or calls i (Open (pos 0) (pos 0) (pos 0)) in
    let answered = ap₂ (λ R D. answer R D (state_of now'.book) (g.C.Centre.lines now'.centre) it) (sym (ap by inv.1)) (g.met.C.Centre.same_own m.centre now'.centre inv.2) ∙ c.call.ensures.answered in
    let on = run_on (by m.book.rule) C L (take i calls) it (state_of now'.book) (g.C.Centre.lines now'.centre) c.loop-call.replies.items (state_of next.book) (g.C.Centre.lines next.centre) c.call.result inv.0 answered in
    let pushed = c.push_reserved.ensures in
    let more = take_more calls i (Open (pos 0) (pos 0) (pos 0)) c.loop-call-test.true in
    let size = inv.3 in
    let room = inv.4 in
    let len = pushed.len in
    let cap' = pushed.capacity in (
      subst₂ (λ cs rs. IsRun (by m.book.rule) C L cs (state_of next.book) (g.C.Centre.lines next.centre) rs) (sym more) (sym pushed.items) on,
      c.call.ensures.rule ∙ inv.1,
      g.met.C.Centre.same_on m.centre now'.centre next.centre inv.2 c.call.ensures.settings,
      omega arith,
      omega arith,
    )

pub returns-clause-law : goal.returns-clause-law
returns-clause-law g c = runs_keep_the_law (g.R.QueueRule.rule c.args.rule) (lawful g c.args.rule) (g.C.Centre.own c.args.centre) (g.C.Centre.lines c.args.centre) c.args.calls.now
