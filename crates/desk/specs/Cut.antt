-- A command has 37 bytes, so that of a longer line 38 bytes tell what it comes to. Assumes nothing.
use Rattle.std.specs.Prelude.{◌≡◌, ◌≢◌, ℕ, List, Err, length, take, unwrap_or, [], ◌∷◌, ◌++◌}
use Rattle.std.proofs.Common.{inl, inr, sym, ap, ◌∙◌, ltb, arith, take_all}
use Rattle.std.proofs.lemmas.Bool.{cases_Bool, cond-false, ltb-false, ltb-true, ne_eqb}
use Rattle.std.proofs.lemmas.List.{length-take}
use Rattle.dealing.specs.declared.refusal.Refusal.TheVariants.{CommandLength}
use Rattle.page.specs.Command.{read_command}
use Rattle.page.specs.Printed.{printed}
use Rattle.desk.specs.Desk.{page_line}
use Rattle.desk.specs.Served.{DeskState, after, dealt, left_by, shown}

-- a line of another length is refused for it
wrong_length : (line : List ℕ) → length line ≢ 37 → read_command line ≡ Err CommandLength
wrong_length line other = cond-false _ _ _ (ne_eqb (length line) 37 other)

pub read_cut : (line : List ℕ) → read_command (take 38 line) ≡ read_command line
read_cut line = elim (cases_Bool (ltb 38 (length line))) [
  | inl longer ↦
      let long = ltb-true 38 (length line) longer in
      let kept = length-take 38 line in
      wrong_length (take 38 line) (λ e. omega (arith, e, kept, long)) ∙ sym (wrong_length line (λ e. omega (arith, e, long)))
  | inr within ↦ ap read_command (take_all 38 line (ltb-false 38 (length line) within))
]

-- so it is answered by them
pub shown_cut : (d : DeskState) (number : ℕ) (line : List ℕ) → shown d number (take 38 line) ≡ shown d number line
shown_cut d number line = ap (λ r. unwrap_or (printed d.phrases (page_line number (dealt d r).reply)) [] ++ 10 ∷ []) (read_cut line)

pub after_cut : (d : DeskState) (line : List ℕ) → after d (take 38 line) ≡ after d line
after_cut d line = ap (λ r. left_by d (dealt d r)) (read_cut line)
