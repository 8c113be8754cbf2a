use Rattle.std.proofs.Common.{take}
use Rattle.std.specs.Io.KnownBytes.{Appends}
use Rattle.scenario.specs.Shown.{each}
use Rattle.scenario.proofs.state.show_each.Given as goal

-- the items so far
abbrev pub invariant-loop-item : goal.invariant-loop-item
invariant-loop-item g l = Appends (g.W.Write.contents l.initial.out) (g.W.Write.contents l.out) (each l.before g.T.Item.text (take l.item-index l.items))
