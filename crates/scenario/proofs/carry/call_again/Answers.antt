use Rattle.std.proofs.Common.{sym, ap, ap₂, subst₂, ◌∙◌, add-one}
use Rattle.clearing.specs.Centre.{Lines, Own}
use Rattle.market.specs.BookState.{state_of}
use Rattle.market.specs.Calls.{Done, answer}
use Rattle.market.specs.Law.{CallKeepsTheLaw}
use Rattle.market.specs.Rule.{Rule}
use Rattle.market.specs.State.{State}
use Rattle.market.specs.declared.standing.ByRule.{ByRule}
use Rattle.scenario.specs.Again.{again}
use Rattle.scenario.proofs.Lawful.{first, further}
use Rattle.scenario.proofs.carry.call_again.Goals as goal

pub loop-turn-init : goal.loop-turn-init
unfolding again
loop-turn-init g c =
    let m = c.args.market.now in
    let new' = c.call-reply.new.self in
    let call = c.call-reply.ensures in
    let law = first (g.R.QueueRule.rule m.book.rule.rule) (g.C.Centre.own m.centre) (state_of m.book) (g.C.Centre.lines m.centre) c.args.call c.call-reply.result (state_of new'.book) (g.C.Centre.lines new'.centre) call.law in
    (call.answered, law, call.rule, call.settings)

pub loop-turn-preserved : goal.loop-turn-preserved
unfolding again
loop-turn-preserved g c =
    let m = c.args.market.now in
    let mid = c.loop-turn.market in
    let new' = c.call-reply-in-loop-turn.new.self in
    let r = c.call-reply-in-loop-turn.result in
    let it = c.args.call in
    let call = c.call-reply-in-loop-turn.ensures in
    let inv = c.loop-turn.invariant in
    let by : ByRule g.row.R.Denot → Rule = λ x. g.R.QueueRule.rule x.rule in
    let S : State = state_of mid.book in
    let L : Lines = g.C.Centre.lines mid.centre in
    let S' : State = state_of new'.book in
    let L' : Lines = g.C.Centre.lines new'.centre in
    let R : Rule = by m.book.rule in
    let D : Own = g.C.Centre.own m.centre in
    let own = g.met.C.Centre.same_own m.centre mid.centre inv.3 in
    let answered = ap₂ (λ Q E. answer Q E S L it) (sym (ap by inv.2)) own ∙ call.answered in
    let law = subst₂ (λ Q E. CallKeepsTheLaw Q E S L it r S' L') (ap by inv.2) (sym own) call.law in (
      rw add-one (ap (λ (d : Done). answer R D d.state d.lines it) inv.0 ∙ answered),
      further R D S L it r (state_of m.book) (g.C.Centre.lines m.centre) S' L' inv.1 law,
      call.rule ∙ inv.2,
      g.met.C.Centre.same_on m.centre mid.centre new'.centre inv.3 call.settings,
    )
