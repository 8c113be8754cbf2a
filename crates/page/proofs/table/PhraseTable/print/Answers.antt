use Rattle.std.proofs.Common.{◌++◌, length, drop, set, sym, ap, ◌∙◌, rules}
use borrow.Rule.Slice.PartMut.{put_mid}
use Rattle.page.specs.Columns.{across, all_fit, width_of}
use Rattle.page.specs.Phrases.{phrases}
use Rattle.page.specs.Printed.{layout, over}
use Rattle.page.proofs.Laws.{phrase_tells}
use Rattle.page.proofs.Lines.{across-length, done_result, line_written}
use Rattle.page.proofs.table.PhraseTable.print.Goals as goal

pub returns-then-out-lt-LINE-clause-phrase_tells : goal.returns-then-out-lt-LINE-clause-phrase_tells
returns-then-out-lt-LINE-clause-phrase_tells c = phrase_tells

pub returns-in_err-place-clause-phrase_tells : goal.returns-in_err-place-clause-phrase_tells
returns-in_err-place-clause-phrase_tells c = phrase_tells

pub returns-then-not-all_fit-clause-phrase_tells : goal.returns-then-not-all_fit-clause-phrase_tells
returns-then-not-all_fit-clause-phrase_tells c = phrase_tells

pub returns-clause-bytes : goal.returns-clause-bytes
returns-clause-bytes c =
    let line = c.args.line.now in
    let out = c.args.out.now in
    let at = sym c.phrase_place.ensures ∙ c.in_ok-place.ensures.ok_part in
    let columns = c.layout-columns.ensures in
    let fit = sym (c.if-not-all_fit.ensures ∙ ap all_fit columns) in
    let result = done_result (phrases c.args.self.now.rows) line (length out) c.in_ok-place.place c.if-out-lt-LINE.false at fit in
    let put = c.put_columns.ensures ∙ ap (λ cs. across cs ++ drop (width_of cs) out) columns in
    let row = c.copy_from_slice.ensures.after in
    let filled_row = c.row.ensures in
    (λ i. put_mid 46 40 (set (put i) 45 32) ((row ∙ filled_row) i))
    ∙ line_written (across (layout line)) _ out (across-length (layout line)) (ap length (sym filled_row) ∙ search rules) c.if-out-lt-LINE.false
    ∙ sym (ap (λ r. over r out) result)

pub returns-clause-phrase_tells : goal.returns-clause-phrase_tells
returns-clause-phrase_tells c = phrase_tells
