use Rattle.std.specs.Io.KnownBytes.{Keeps}
use Rattle.line_service.proofs.output.has_more.Given as goal

-- interrupted reads lost nothing
abbrev pub invariant-loop : goal.invariant-loop
invariant-loop g l = Keeps (g.R.Read.remaining l.initial.input) (g.R.Read.remaining l.input)
