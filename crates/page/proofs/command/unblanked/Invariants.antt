-- Nothing but blanks was passed.
use Rattle.std.proofs.Common.{◌≡◌, ◌≤◌, length}
use Rattle.page.specs.Bytes.{unblanked}
use Rattle.page.proofs.command.unblanked.Given as goal

abbrev pub invariant-loop-rest : goal.invariant-loop-rest
invariant-loop-rest l = (unblanked l.rest ≡ unblanked l.field) × (length l.rest ≤ length l.field)

abbrev pub decreases-loop-rest : goal.decreases-loop-rest
decreases-loop-rest l = length l.rest
