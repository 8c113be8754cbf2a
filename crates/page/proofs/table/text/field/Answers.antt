use Rattle.std.proofs.Common.{ℕ, ◌++◌, length, drop, replicate, ap, ◌∙◌, arith}
use Rattle.std.proofs.lemmas.List.{drop-replicate}
use Rattle.page.proofs.table.text.field.Goals as goal

pub returns : goal.returns
returns c =
    let phrase = c.args.phrase.now in
    (λ i. c.copy_from_slice.ensures.after i ++ drop (length phrase) (replicate 40 32))
    ∙ ap (λ l. phrase ++ l) (drop-replicate (length phrase) 40 32 ∙ ap (λ (n : ℕ). replicate n 32) (omega arith))
