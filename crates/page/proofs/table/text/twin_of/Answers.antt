use Rattle.std.proofs.Common.{◌≡◌, ◌+◌, true, false, ◌-◌, [], get_or, take, drop, sym, ap, ◌∙◌, arith, rules, tests}
use Rattle.std.specs.Str.{bytes_eq}
use Rattle.std.proofs.lemmas.Iterator.{IsFirst-from_position, YieldsList-from_slice}
use Rattle.std.proofs.lemmas.List.{take_rest}
use Rattle.page.proofs.Shared.{first_twin, no_twin}
use Rattle.page.proofs.table.text.twin_of.Goals as goal

pub returns-in_err-gap : goal.returns-in_err-gap
returns-in_err-gap c =
    let rows = c.args.rows.now in
    let place = c.args.place in
    let none = IsFirst-from_position _ _ _ (λ r. bytes_eq (get_or rows place []) r ≡ true) (λ r. bytes_eq (get_or rows place []) r ≡ false) c.in_err-gap.ensures.ran (YieldsList-from_slice (drop (place + 1) rows) (c.iter.ensures.rest ∙ ap (λ n. take (n - (place + 1)) (drop (place + 1) rows)) (sym c.told-rows) ∙ take_rest rows (place + 1))) (λ x q k. search (rules, tests)) (λ x q k. search (rules, tests)) in
    c.from_residual.ensures ∙ sym (no_twin rows c.requires.wide place (omega arith) none)

pub returns : goal.returns
returns c =
    let rows = c.args.rows.now in
    let place = c.args.place in
    let first = IsFirst-from_position _ _ _ (λ r. bytes_eq (get_or rows place []) r ≡ true) (λ r. bytes_eq (get_or rows place []) r ≡ false) c.in_ok-gap.ensures.ran (YieldsList-from_slice (drop (place + 1) rows) (c.iter.ensures.rest ∙ ap (λ n. take (n - (place + 1)) (drop (place + 1) rows)) (sym c.told-rows) ∙ take_rest rows (place + 1))) (λ x q k. search (rules, tests)) (λ x q k. search (rules, tests)) in
    sym (first_twin rows c.requires.wide place (omega arith) c.in_ok-gap.gap first.0 first.1 first.2)
