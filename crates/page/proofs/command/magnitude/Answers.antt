use Rattle.std.proofs.Common.{lt_of_lt_of_le, arith}
use native.Mathlib.Nat.{pow-le-pow_right}
use Rattle.page.proofs.command.magnitude.Goals as goal

pub returns-clause-bound : goal.returns-clause-bound
returns-clause-bound c = lt_of_lt_of_le c.loop-b.invariant.1 (pow-le-pow_right {n = 10} (omega arith) {i = c.loop-b.b-index} {j = 11} (omega arith))
