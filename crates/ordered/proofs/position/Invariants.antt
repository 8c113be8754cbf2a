use Rattle.std.proofs.Common.{◌≡◌, ◌+◌, ◌≤◌, length, drop}
use Rattle.ordered.specs.Row.{place}
use Rattle.ordered.proofs.position.Given as goal

-- what is left of the row still says where the item goes
abbrev pub invariant-loop-i : goal.invariant-loop-i
invariant-loop-i g l = (l.i ≤ length l.row) × (l.i + place (g.S.Standing.stands l.by) (drop l.i l.row) l.item ≡ place (g.S.Standing.stands l.by) l.row l.item)
