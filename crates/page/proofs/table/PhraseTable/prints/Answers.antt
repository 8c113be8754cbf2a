use Rattle.std.proofs.Common.{◌≡◌, length, replicate, is_err, sym, refl, ap, ◌∙◌, arith, rules}
use Rattle.std.specs.Str.{bytes_eq}
use Rattle.std.proofs.lemmas.List.{take_all}
use Rattle.page.specs.Phrases.{phrases}
use Rattle.page.specs.Printed.{printed}
use Rattle.page.proofs.Lines.{reprinted, unprinted}
use Rattle.page.proofs.table.PhraseTable.prints.Goals as goal

pub returns-then-is_ok : goal.returns-then-is_ok
returns-then-is_ok c =
    let again = c.print.new.out in
    let bytes = c.args.bytes.now in
    let long : length again ≡ 86 = omega arith in
    c.eq.ensures
    ∙ (λ i. bytes_eq (sym (take_all 86 again (omega arith)) i) (sym (take_all 86 bytes (omega (arith, c.told-bytes))) i))
    ∙ reprinted (printed (phrases c.args.self.now.rows) c.args.line.now) (replicate 86 0) again bytes refl long
    (ap is_err (sym c.print.ensures.value) ∙ search rules) c.print.ensures.bytes

pub returns-else-is_ok : goal.returns-else-is_ok
returns-else-is_ok c =
    c.if-is_ok.false ∙ sym (unprinted _ c.args.bytes.now (ap is_err (sym c.print.ensures.value) ∙ search rules))
