use Rattle.std.proofs.Common.{◌≡◌, ◌+◌, take, drop, Some, sym, ap, ◌∙◌, add-one, arith, rules, tests}
use Rattle.std.proofs.lemmas.Iterator.{IsFirst-from_position, YieldsList-from_slice}
use Rattle.std.proofs.lemmas.List.{take_rest}
use Rattle.page.specs.PhraseText.{first_line}
use Rattle.page.proofs.TextLines.{line_endless, line_ends}
use Rattle.page.proofs.table.text.first_line.Goals as goal

pub returns-in-Some : goal.returns-in-Some
returns-in-Some c =
    let text = c.args.text.now in
    let end = c.in-Some.end in
    let first = IsFirst-from_position _ _ _ (λ b. b ≡ 10) (λ b. b ≡ 10 → ⊥) c.in-Some.ensures.ran (YieldsList-from_slice text cc) (λ x q k. search (rules, tests)) (λ x q k. search (rules, tests)) in
    let cut : first_line text ≡ Some (take end text, drop (end + 1) text) = rw add-one (line_ends text end first.0 (first.1 0) (λ k l. first.2 k 0 (omega arith) l)) in
    cut ∙ ap (λ rest. Some (take end text, rest)) (sym (take_rest text (end + 1)))

pub returns-in-None : goal.returns-in-None
returns-in-None c =
    let text = c.args.text.now in
    let none = IsFirst-from_position _ _ _ (λ b. b ≡ 10) (λ b. b ≡ 10 → ⊥) c.in-None.ensures.ran (YieldsList-from_slice text cc) (λ x q k. search (rules, tests)) (λ x q k. search (rules, tests)) in
    (line_endless text (λ k l. none k 0 (omega arith) l), c.unended.ensures)
