use Rattle.std.proofs.Common.{◌≡◌, true, false, rules, tests}
use Rattle.std.specs.Str.{bytes_eq}
use Rattle.std.proofs.lemmas.Iterator.{IsFirst-from_position, YieldsList-from_slice}
use Rattle.page.proofs.Filled.{found_row}
use Rattle.page.proofs.table.PhraseTable.find.Goals as goal

pub returns-clause-value : goal.returns-clause-value
returns-clause-value c =
    let table = c.args.self.now in
    let columns = c.args.columns.now in
    found_row table.rows table.wide columns c.position.result
    (IsFirst-from_position _ _ _ (λ row. bytes_eq row columns ≡ true) (λ row. bytes_eq row columns ≡ false) c.position.ensures.ran (YieldsList-from_slice table.rows cc) (λ x q k. search (rules, tests)) (λ x q k. search (rules, tests)))
