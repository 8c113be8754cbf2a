use Rattle.std.proofs.Common.{◌<◌, length, Ok, MatchOption, sym, ap, ◌∙◌, subst, rules}
use Rattle.std.specs.Array.{IsFirstChunk}
use Rattle.page.specs.Phrases.{phrases}
use Rattle.page.specs.Printed.{printed, same_line}
use Rattle.page.proofs.Lines.{cut_read, lost_read}
use Rattle.page.proofs.table.PhraseTable.read_back.Goals as goal

pub returns-in_err-place-clause-value : goal.returns-in_err-place-clause-value
returns-in_err-place-clause-value c =
    let bs = c.args.bytes.now in
    let cut = subst (λ o. MatchOption o (length bs < 86) (λ y. IsFirstChunk bs y.now 86)) c.in_ok-bytes.ensures.ok_part c.first_chunk.ensures.cases in
    let lost = lost_read (phrases c.args.self.now.rows) bs c.in_ok-bytes.bytes.now cut.enough cut.same c.find.result (sym c.find.ensures.value) c.in_err-place.ensures.variant in
    search rules

pub returns-then-not-prints-clause-value : goal.returns-then-not-prints-clause-value
returns-then-not-prints-clause-value c =
    let ps = phrases c.args.self.now.rows in
    let bs = c.args.bytes.now in
    let cut = subst (λ o. MatchOption o (length bs < 86) (λ y. IsFirstChunk bs y.now 86)) c.in_ok-bytes.ensures.ok_part c.first_chunk.ensures.cases in
    let same = ap (λ l. same_line (printed ps l) c.in_ok-bytes.bytes.now) (sym c.guessed-line.ensures) ∙ sym c.if-not-prints.ensures in
    sym (cut_read ps bs c.in_ok-bytes.bytes.now cut.enough cut.same c.in_ok-place.place _ (sym c.find.ensures.value ∙ c.in_ok-place.ensures.ok_part) same)

pub returns-clause-value : goal.returns-clause-value
returns-clause-value c =
    let ps = phrases c.args.self.now.rows in
    let bs = c.args.bytes.now in
    let cut = subst (λ o. MatchOption o (length bs < 86) (λ y. IsFirstChunk bs y.now 86)) c.in_ok-bytes.ensures.ok_part c.first_chunk.ensures.cases in
    let line = c.guessed-line.ensures in
    let same = ap (λ l. same_line (printed ps l) c.in_ok-bytes.bytes.now) (sym line) ∙ sym c.if-not-prints.ensures in
    ap (λ l. Ok l) line ∙ sym (cut_read ps bs c.in_ok-bytes.bytes.now cut.enough cut.same c.in_ok-place.place _ (sym c.find.ensures.value ∙ c.in_ok-place.ensures.ok_part) same)
