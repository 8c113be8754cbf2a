use Rattle.std.proofs.Common.{◌≡◌, ◌≤◌, ℕ, List, length}
use Rattle.std.specs.Io.KnownBytes.{Consumes, Keeps}
use Rattle.line_service.specs.Pieces.{HoldsMore, IsWithinLine}
use Rattle.line_service.proofs.line.finish_line.Given as goal

-- so far these bytes of the line were read, and are kept
abbrev pub invariant-loop : goal.invariant-loop
invariant-loop g l =
    record {
      room : length l.kept ≡ length l.initial.kept;
      fits : l.len ≤ length l.kept;
      shown : Keeps (g.W.Write.contents l.initial.output) (g.W.Write.contents l.output);
      bytes : List ℕ;
      within : IsWithinLine bytes;
      read : Consumes (g.R.Read.remaining l.initial.input) (g.R.Read.remaining l.input) bytes;
      held : HoldsMore l.initial.kept l.initial.len l.kept l.len bytes;
    }
