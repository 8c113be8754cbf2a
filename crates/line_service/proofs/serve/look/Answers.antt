use Rattle.std.proofs.Common.{◌∙◌, ap, ◌+◌, [], length, take, arith, sym, subst, refl, le_refl, zero-le, take_all}
use Rattle.std.proofs.lemmas.Bool.Decides.{nat_tests}
use Rattle.std.specs.Io.BufRead.{FillKeeps}
use Rattle.std.specs.Io.KnownBytes.{Consumes}
use Rattle.std.proofs.BufReadLemmas.{Consumes_shown}
use Rattle.line_service.proofs.LineLemmas.{ConsumesLines-ended}
use Rattle.line_service.proofs.PageLemmas.{Answers-cut}
use Rattle.line_service.proofs.serve.look.Goals as goal

pub returns-in-Some-clause-begun : goal.returns-in-Some-clause-begun
returns-in-Some-clause-begun g c =
    let shown = c.in_ok-buffer.buffer.now in
    let end = c.in-Some.end in
    let rested = c.fill_buf.follows.lender-at-none in
    let filled = subst (FillKeeps _ (g.R.Read.remaining rested) (g.R.BufRead.consumable_len rested)) c.in_ok-buffer.was c.fill_buf.follows.holds-at-none in
    let found = c.in-Some.ensures.found in
    let moved = Consumes_shown _ _ _ _ shown (end + 1) (omega (arith, found.0)) c.in_ok-buffer.ensures.front c.in_ok-buffer.ensures.end filled.0 filled.1 c.consume.ensures.bytes in
    record {
      line = take end shown;
      read = ConsumesLines-ended _ _ (take end shown) found.1 (subst (Consumes _ _) found.2 moved.0);
      answers = Answers-cut g.S.LineService.shown g.S.LineService.next g.S.LineService.LONGEST g.met.S.LineService.looks_shown g.met.S.LineService.looks_next _ _ _ c.args.number (take end shown) _ _ refl (c.cut.ensures ∙ ap (λ k. take k (take end shown)) c.requires.looks) (c.answer.ensures.next c.requires.number) (c.answer.ensures.shown c.requires.number);
    }

pub returns-in-None-2-clause-begun : goal.returns-in-None-2-clause-begun
returns-in-None-2-clause-begun g c =
    let shown = c.in_ok-buffer.buffer.now in
    let rested = c.fill_buf.follows.lender-at-none in
    let filled = subst (FillKeeps _ (g.R.Read.remaining rested) (g.R.BufRead.consumable_len rested)) c.in_ok-buffer.was c.fill_buf.follows.holds-at-none in
    let moved = Consumes_shown _ _ _ _ shown (length shown) (le_refl (length shown)) c.in_ok-buffer.ensures.front c.in_ok-buffer.ensures.end filled.0 filled.1 c.consume-in-None-2.ensures.bytes in
    record {
      fits = c.keep-len.ensures.fits;
      bytes = shown;
      within = c.in-None.ensures.none;
      some = grind (arith, nat_tests);
      read = subst (Consumes _ _) (take_all (length shown) shown (le_refl (length shown))) moved.0;
      held = c.keep-len.ensures.held [] (record { within = omega arith; bytes = sym (take_all (length c.args.kept.now) [] zero-le) });
      state = refl;
    }
