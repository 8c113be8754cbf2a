use Rattle.std.proofs.Common.{◌++◌, subst, ap, ◌∙◌, append-nil}
use Rattle.std.proofs.KnownBytes.{Consumes-kept, Keeps-trans}
use Rattle.std.specs.Io.KnownBytes.{Consumes}
use Rattle.line_service.specs.Pieces.{end_of}
use Rattle.line_service.proofs.PieceLemmas.{TakesPiece-more}
use Rattle.line_service.proofs.line.finish_line.Goals as goal

pub returns-then-piece-clause-piece : goal.returns-then-piece-clause-piece
returns-then-piece-clause-piece g c =
    let before = c.loop.invariant in
    TakesPiece-more _ _ _ _ _ _ _ _ _ before.bytes before.within (Consumes-kept _ _ _ before.bytes before.read c.wait_for_more.ensures.kept) before.held c.in-Ok.ensures.piece

pub loop-preserved : goal.loop-preserved
loop-preserved g c =
    let before = c.loop.invariant in
    let all = TakesPiece-more _ _ _ _ _ _ _ _ _ before.bytes before.within (Consumes-kept _ _ _ before.bytes before.read c.wait_for_more.ensures.kept) before.held c.in-Ok.ensures.piece in
    record {
      room = c.take_piece.ensures.room ∙ before.room;
      fits = all.fits;
      shown = Keeps-trans _ _ _ before.shown c.wait_for_more.ensures.shown;
      bytes = all.bytes;
      within = all.within;
      read = subst (Consumes _ _) (ap (λ b. all.bytes ++ end_of b) c.if-piece.false ∙ append-nil all.bytes) all.read;
      held = all.held;
    }
