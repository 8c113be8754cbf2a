-- Some of the planned trades are made, and the others lead to where the whole walk leads.
use Rattle.market.proofs.Carried.{UnderWay}
use Rattle.market.proofs.carrying.trade_on.Given as goal

abbrev pub invariant-loop-i : goal.invariant-loop-i
invariant-loop-i g l =
    UnderWay l.numbered.entry l.numbered.number (g.C.Centre.lines l.initial.centre) l.initial.theirs.orders l.initial.register l.lots l.trades l._i (g.C.Centre.lines l.centre) l.theirs.orders l.register l.left l.rest
    × g.C.Centre.same_settings l.initial.centre l.centre
