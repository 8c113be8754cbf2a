use Rattle.std.proofs.Common.{eqb, ◌&&◌, ◌∙◌, rules, tests, refl}
use Rattle.std.specs.List.{list_all}
use Rattle.std.proofs.lemmas.Iterator.{YieldsList-from_slice}
use Rattle.std.proofs.lemmas.Iterator.Search.{all_from_yields_List}
use Rattle.std.proofs.lemmas.List.Recursion.{same_from_clauses}
use Rattle.page.specs.Bytes.{blank}
use Rattle.page.proofs.command.is_blank.Goals as goal

pub returns : goal.returns
returns c =
    let bytes = c.args.bytes.now in
    all_from_yields_List (λ b. eqb b 32) _ _ _ c.all.ensures.ran (YieldsList-from_slice bytes cc) (λ x b q k. search (rules, tests))
    ∙ same_from_clauses (list_all (λ b. eqb b 32)) blank (λ b more. eqb b 32 && more) refl (λ _ _. refl) (λ _ _. refl) bytes
