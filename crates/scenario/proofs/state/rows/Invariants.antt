use Rattle.std.proofs.Common.{◌≡◌, take}
use Rattle.scenario.specs.Lines.{rows_of}
use Rattle.scenario.proofs.state.rows.Given as goal

-- the accounts so far
abbrev pub invariant-loop-at : goal.invariant-loop-at
invariant-loop-at g l = l.rows.items ≡ rows_of (g.C.Centre.lines l.centre) (take l.at (g.C.HouseFloor.accounts l.centre))
