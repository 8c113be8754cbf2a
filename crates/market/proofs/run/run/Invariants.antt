-- The calls so far are a run of their own, with one reply for each, and there is room for as many replies as calls.
use Rattle.std.proofs.Common.{◌≡◌, length, take}
use Rattle.market.specs.BookState.{state_of}
use Rattle.market.specs.Law.{IsRun}
use Rattle.market.proofs.run.run.Given as goal

abbrev pub invariant-loop-call : goal.invariant-loop-call
invariant-loop-call g l =
    let m = l.initial.market in
    IsRun (g.R.QueueRule.rule m.book.rule.rule) (g.C.Centre.own m.centre) (g.C.Centre.lines m.centre) (take l.call-index l.calls) (state_of l.market.book) (g.C.Centre.lines l.market.centre) l.replies.items
    × (l.market.book.rule ≡ m.book.rule)
    × g.C.Centre.same_settings m.centre l.market.centre
    × (l.replies.len ≡ l.call-index)
    × (l.replies.cap ≡ length l.calls)
