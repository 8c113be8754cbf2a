-- The digits passed make n, and n has no more of them than were passed.
use Rattle.std.proofs.Common.{◌≡◌, ◌^◌, ◌<◌, drop}
use Rattle.page.specs.Columns.{numeral}
use Rattle.page.proofs.printed.numeral.Given as goal

abbrev pub invariant-loop-b : goal.invariant-loop-b
invariant-loop-b l = (numeral l.n (drop l.b-index l.bytes) ≡ numeral 0 l.bytes) × (l.n < 10 ^ l.b-index)
