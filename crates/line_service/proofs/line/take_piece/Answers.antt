use Rattle.std.proofs.Common.{◌+◌, length, take, arith, sym, subst, append-nil, le_refl, take_all, ◌∙◌}
use Rattle.std.specs.Io.BufRead.{FillKeeps}
use Rattle.std.specs.Io.KnownBytes.{Consumes}
use Rattle.std.proofs.BufReadLemmas.{Consumes_shown}
use Rattle.line_service.proofs.line.take_piece.Goals as goal

pub returns-in-Some-clause-piece : goal.returns-in-Some-clause-piece
returns-in-Some-clause-piece g c =
    let shown = c.in_ok-buffer.buffer.now in
    let end = c.in-Some.end in
    let rested = c.fill_buf.follows.lender-at-none in
    let filled = subst (FillKeeps _ (g.R.Read.remaining rested) (g.R.BufRead.consumable_len rested)) c.in_ok-buffer.was c.fill_buf.follows.holds-at-none in
    let found = c.in-Some.ensures.found in
    let moved = Consumes_shown _ _ _ _ shown (end + 1) (omega (arith, found.0)) c.in_ok-buffer.ensures.front c.in_ok-buffer.ensures.end filled.0 filled.1 c.consume.ensures.bytes in
    record { fits = c.keep-len.ensures.fits; bytes = take end shown; within = found.1; read = subst (Consumes _ _) found.2 moved.0; held = c.keep-len.ensures.held }

pub returns-in-None-clause-piece : goal.returns-in-None-clause-piece
returns-in-None-clause-piece g c =
    let shown = c.in_ok-buffer.buffer.now in
    let rested = c.fill_buf.follows.lender-at-none in
    let filled = subst (FillKeeps _ (g.R.Read.remaining rested) (g.R.BufRead.consumable_len rested)) c.in_ok-buffer.was c.fill_buf.follows.holds-at-none in
    let moved = Consumes_shown _ _ _ _ shown (length shown) (le_refl (length shown)) c.in_ok-buffer.ensures.front c.in_ok-buffer.ensures.end filled.0 filled.1 c.consume-in-None.ensures.bytes in
    record {
      fits = c.keep-len-in-None.ensures.fits;
      bytes = shown;
      within = c.in-None.ensures.none;
      read = subst (Consumes _ _) (take_all (length shown) shown (le_refl (length shown)) ∙ sym (append-nil shown)) moved.0;
      held = c.keep-len-in-None.ensures.held;
    }
