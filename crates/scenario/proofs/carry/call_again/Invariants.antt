use Rattle.std.proofs.Common.{◌≡◌}
use Rattle.market.specs.BookState.{state_of}
use Rattle.market.specs.Calls.{answer, done}
use Rattle.scenario.specs.Again.{StillLawful, again}
use Rattle.scenario.proofs.carry.call_again.Given as goal

-- the calls so far
abbrev pub invariant-loop-turn : goal.invariant-loop-turn
invariant-loop-turn g l =
    let m = l.fn.market in
    (again (g.R.QueueRule.rule m.book.rule.rule) (g.C.Centre.own m.centre) l.call l._turn (answer (g.R.QueueRule.rule m.book.rule.rule) (g.C.Centre.own m.centre) (state_of m.book) (g.C.Centre.lines m.centre) l.call)
    ≡ done (state_of l.market.book) (g.C.Centre.lines l.market.centre) l.reply)
    × StillLawful (g.R.QueueRule.rule m.book.rule.rule) (g.C.Centre.own m.centre) (state_of m.book) (g.C.Centre.lines m.centre) (state_of l.market.book) (g.C.Centre.lines l.market.centre)
    × (l.market.book.rule ≡ m.book.rule)
    × g.C.Centre.same_settings m.centre l.market.centre
