use Rattle.std.proofs.Common.{sym}
use Rattle.page.proofs.Shared.{table_sound}
use Rattle.page.proofs.table.PhraseTable.from_text.Goals as goal

pub invariant_of-result : goal.invariant_of-result
invariant_of-result c =
    let rows = c.in_ok-rows.ensures in
    record { wide = rows.1; table = table_sound c.args.text.now _ rows.0 (sym c.in_default.ensures) }
