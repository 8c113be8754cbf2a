use Rattle.std.proofs.Common.{ltb, ◌||◌, refl, ◌∙◌, rules, tests}
use Rattle.std.specs.List.{list_any}
use Rattle.std.proofs.lemmas.Iterator.{YieldsList-from_slice}
use Rattle.std.proofs.lemmas.Iterator.Search.{any_from_yields_List}
use Rattle.std.proofs.lemmas.List.Recursion.{same_from_clauses}
use Rattle.page.specs.PhraseText.{has_low}
use Rattle.page.proofs.table.text.has_low.Goals as goal

pub returns : goal.returns
returns c =
    let phrase = c.args.phrase.now in
    any_from_yields_List (λ b. ltb b 32) _ _ _ c.any.ensures.ran (YieldsList-from_slice phrase cc) (λ x b q k. search (rules, tests))
    ∙ same_from_clauses (list_any (λ b. ltb b 32)) has_low (λ b low. ltb b 32 || low) refl (λ _ _. refl) (λ _ _. refl) phrase
