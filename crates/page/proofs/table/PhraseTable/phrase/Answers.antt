use Rattle.std.proofs.Common.{◌≡◌, [], sym, ap, ◌∙◌, arith, rules}
use Rattle.std.proofs.lemmas.List.{get_or-map, length-map, nil_from_length}
use Rattle.page.specs.Phrases.{trimmed}
use Rattle.page.proofs.Filled.{trim_step, trim_stop}
use Rattle.page.proofs.table.PhraseTable.phrase.Goals as goal
use Rattle.page.proofs.table.PhraseTable.phrase.Goals.{in_default, in_default-2}

pub loop-phrase-preserved : goal.loop-phrase-preserved
loop-phrase-preserved c = trim_step c.loop-phrase.phrase.now c.in-32.len_at_least (search rules) ∙ c.loop-phrase.invariant

pub returns : goal.returns
returns c =
    let table = c.args.self.now in
    let there = sym (length-map table.rows trimmed) ∙ table.table.count in
    let phrase = c.loop-phrase.phrase.now in
    let row = c.in_ok-get.ensures.lookup.3 in
    let whole : trimmed phrase ≡ phrase =
    elim c.if-phrase-lt1.branch [
      | in_default w ↦ let none = nil_from_length phrase (omega arith) in ap trimmed none ∙ sym none
      | in_default-2 w ↦ trim_stop phrase w.in_default.len_at_least (search rules)
    ] in
    (omega (arith, row.0), sym whole ∙ c.loop-phrase.invariant ∙ ap trimmed (c.as_slice-phrase.ensures ∙ row.1 []) ∙ sym (get_or-map trimmed table.rows c.args.place [] [] row.0))
