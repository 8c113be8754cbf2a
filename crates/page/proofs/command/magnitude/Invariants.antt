-- The digits passed make n, and n has no more of them than were passed.
use Rattle.std.proofs.Common.{◌≡◌, ◌^◌, ◌<◌, drop}
use Rattle.page.specs.Bytes.{digits}
use Rattle.page.proofs.command.magnitude.Given as goal

abbrev pub invariant-loop-b : goal.invariant-loop-b
invariant-loop-b l = (digits l.n (drop l.b-index l.bytes) ≡ digits 0 l.bytes) × (l.n < 10 ^ l.b-index)
