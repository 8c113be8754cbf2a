-- What is still to be given back leads to where giving all back leads.
use Rattle.std.proofs.Common.{◌≡◌, length}
use Rattle.market.specs.Closing.{all_given_back}
use Rattle.market.proofs.queue.Queue.close.Given as goal

abbrev pub invariant-loop-order : goal.invariant-loop-order
invariant-loop-order g l =
    (all_given_back (g.C.Centre.lines l.centre) l.orders ≡ all_given_back (g.C.Centre.lines l.initial.centre) l.initial.orders)
    × g.C.Centre.same_settings l.initial.centre l.centre

abbrev pub decreases-loop-order : goal.decreases-loop-order
decreases-loop-order g l = length l.orders
