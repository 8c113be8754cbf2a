use Rattle.std.proofs.Common.{◌^◌, ◌≤◌, ◌&&◌, ltb, leb, sym, refl, ◌∙◌, subst, arith, rules, tests}
use Rattle.std.specs.List.{list_all}
use Rattle.std.proofs.lemmas.Bool.{leb-true}
use Rattle.std.proofs.lemmas.Iterator.{YieldsList-from_slice}
use Rattle.std.proofs.lemmas.Iterator.Adapters.{serves_from_places}
use Rattle.std.proofs.lemmas.Iterator.Search.{all_from_yields_List}
use Rattle.std.proofs.lemmas.List.Recursion.{and_at, same_from_clauses}
use Rattle.page.specs.Columns.{all_fit, all_narrow}
use Rattle.page.proofs.Printing.{power_narrow}
use Rattle.page.proofs.printed.all_fit.Goals as goal

pub all-requires-clause-callable : goal.all-requires-clause-callable
all-requires-clause-callable c =
    let columns = c.args.columns.now in
    serves_from_places (YieldsList-from_slice columns cc) (λ x q e. search rules)
    (λ x k l at.
    let narrow : x.now.width ≤ 8 = subst (λ col. col.width ≤ 8) (sym at) (leb-true _ 8 (and_at all_narrow (λ col. leb col.width 8) refl (λ _ _. refl) columns k x.now l c.requires)) in
    λ _ _ _ _ _ _ _. omega (arith, power_narrow x.now.width narrow))

pub returns : goal.returns
returns c =
    let columns = c.args.columns.now in
    all_from_yields_List (λ k. ltb k.value (10 ^ k.width)) _ _ _ c.all.ensures.ran (YieldsList-from_slice columns cc) (λ x b q k. search (rules, tests))
    ∙ same_from_clauses (list_all (λ k. ltb k.value (10 ^ k.width))) all_fit (λ k more. ltb k.value (10 ^ k.width) && more) refl (λ _ _. refl) (λ _ _. refl) columns
