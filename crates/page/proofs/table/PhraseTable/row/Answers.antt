use Rattle.std.proofs.Common.{sym, ◌∙◌, arith}
use Rattle.std.proofs.lemmas.List.{length-map}
use Rattle.page.specs.Phrases.{trimmed}
use Rattle.page.proofs.Filled.{row_filled}
use Rattle.page.proofs.table.PhraseTable.row.Goals as goal

pub returns : goal.returns
returns c =
    let t = c.args.self.now in
    let there = sym (length-map t.rows trimmed) ∙ t.table.count in
    let wide = t.wide c.args.place (omega arith) in
    sym (row_filled t.rows c.args.place (omega arith) wide)
