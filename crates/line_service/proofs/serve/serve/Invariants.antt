use Rattle.std.proofs.Common.{◌≡◌, ℕ, List, length}
use Rattle.line_service.specs.Lines.{ConsumesLines}
use Rattle.line_service.specs.Page.{Serves}
use Rattle.line_service.proofs.serve.serve.Given as goal

-- so many lines were answered, and their page is written
abbrev pub invariant-loop-answered : goal.invariant-loop-answered
invariant-loop-answered g l =
    record {
      room : length l.kept ≡ g.S.LineService.LONGEST;
      lines : List (List ℕ);
      count : length lines ≡ l.answered;
      read : ConsumesLines (g.R.Read.remaining l.initial.input) (g.R.Read.remaining l.input) lines;
      serves : Serves g.S.LineService.shown g.S.LineService.next (g.S.LineService.state l.initial.service) (g.S.LineService.state l.service) 1 lines (g.W.Write.contents l.initial.output) (g.W.Write.contents l.output);
      kept : g.S.LineService.kept l.initial.service l.service;
    }
