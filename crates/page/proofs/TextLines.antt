-- The lines of a phrase text, one after the other. Assumes nothing.
use Rattle.std.proofs.Common.{◌≡◌, ℕ, zero, suc, ◌+◌, ◌-◌, ◌<◌, ◌≤◌, Bool, true, false, cond, ◌||◌, eqb, ltb, List, [], ◌∷◌, ◌++◌, length, get_or, take, drop, set, Some, None, Ok, Err, Option, Result, sym, refl, ap, ◌∙◌, subst, ⊎_elim, add-one, arith}
use Rattle.std.specs.Option.{option_map}
use Rattle.std.proofs.lemmas.List.{get_or-set_other, get_or-set_same, length-set, map_push, take_more_set}
use Rattle.std.proofs.lemmas.Bool.{cases_eq, cond-false, cond-true, eq-eqb, eqb-false, ltb-false, ne_eqb, or_parts}
use Rattle.page.specs.declared.table.text.Flaw.{Flaw}
use Rattle.page.specs.declared.table.text.Flaw.TheVariants.{Surplus}
use Rattle.page.specs.declared.table.text.TextFault.{TextFault}
use Rattle.page.specs.declared.table.text.TextFault.TheVariants.{Unsound}
use Rattle.page.specs.PhraseText.{before, first_line, flaw_of, judged, line_flaw, lines, with_line}
use Rattle.page.specs.Phrases.{AllWide, ends_blank, filled, phrases, trimmed}
use Rattle.page.proofs.Filled.{trimmed_filled}
use Rattle.page.proofs.OneLine.{nothing}

-- a phrase ends in a blank where its last byte is one
pub ends_blank_last : (p : List ℕ) → 0 < length p → ends_blank p ≡ eqb (get_or p (length p - 1) 0) 32
ends_blank_last [] h = absurd (omega arith)
ends_blank_last (b ∷ []) h = refl
ends_blank_last (b ∷ c ∷ cs) h =
    let same : suc (suc (length cs)) - 1 ≡ suc (suc (length cs) - 1) = omega arith in
    ends_blank_last (c ∷ cs) (omega arith) ∙ ap (λ k. eqb (get_or (b ∷ c ∷ cs) k 0) 32) (sym same)

-- the first byte 10 ends the first line
pub line_ends : (xs : List ℕ) (i : ℕ) → i < length xs → get_or xs i 0 ≡ 10 → ((k : ℕ) → k < i → get_or xs k 0 ≡ 10 → ⊥) → first_line xs ≡ Some (take i xs, drop (suc i) xs)
line_ends [] i h e before = absurd (omega arith)
line_ends (x ∷ xs) zero h e before = cond-true _ _ _ (eq-eqb _ _ e)
line_ends (x ∷ xs) (suc i) h e before =
    cond-false _ _ _ (ne_eqb _ _ (before 0 (omega arith)))
    ∙ ap (option_map (λ r. (x ∷ r.0, r.1))) (line_ends xs i (omega arith) e (λ k l. before (suc k) (omega arith)))

pub line_endless : (xs : List ℕ) → ((k : ℕ) → k < length xs → get_or xs k 0 ≡ 10 → ⊥) → first_line xs ≡ None
line_endless [] none = refl
line_endless (x ∷ xs) none =
    cond-false _ _ _ (ne_eqb _ _ (none 0 (omega arith)))
    ∙ ap (option_map (λ r. (x ∷ r.0, r.1))) (line_endless xs (λ k l. none (suc k) (omega arith)))

-- some phrases before what the rest of a text gives
abbrev pub prepended : List (List ℕ) → Result (List (List ℕ)) TextFault → Result (List (List ℕ)) TextFault
prepended [] r = r
prepended (p ∷ ps) r = before p (prepended ps r)

prepended_push : (ps : List (List ℕ)) (p : List ℕ) (r : Result (List (List ℕ)) TextFault) → prepended (ps ++ p ∷ []) r ≡ prepended ps (before p r)
prepended_push [] p r = refl
prepended_push (q ∷ ps) p r = ap (before q) (prepended_push ps p r)

pub prepended_ok : (ps qs : List (List ℕ)) → prepended ps (Ok qs) ≡ Ok (ps ++ qs)
prepended_ok [] qs = refl
prepended_ok (p ∷ ps) qs = ap (before p) (prepended_ok ps qs)

pub prepended_err : (ps : List (List ℕ)) (e : TextFault) → prepended ps (Err e) ≡ Err e
prepended_err [] e = refl
prepended_err (p ∷ ps) e = ap (before p) (prepended_err ps e)

-- the lines still due, where one is
lines_next : (n k : ℕ) (bs : List ℕ) → 0 < n → lines n k bs ≡ with_line (lines (n - 1)) k bs (first_line bs)
lines_next zero k bs h = absurd (omega arith)
lines_next (suc n) k bs h = let e : n ≡ suc n - 1 = omega arith in ap (λ m. with_line (lines m) k bs (first_line bs)) e

-- a flaw of the first line is what is wrong with the text
flaw_told : (more : ℕ → List ℕ → Result (List (List ℕ)) TextFault) (k : ℕ) (bs : List ℕ) (o : Option (List ℕ × List ℕ)) (f : Flaw) → line_flaw bs o ≡ Some f → with_line more k bs o ≡ Err (Unsound k f)
flaw_told more k bs None f e = ap (λ o. judged k bs o (Err (Unsound k f))) e
flaw_told more k bs (Some r) f e = ap (λ o. judged k r.0 o (more (suc k) r.1)) e

module _ (n k : ℕ) (bs : List ℕ) (due : 0 < n) where
  pub flawed_line : (f : Flaw) → line_flaw bs (first_line bs) ≡ Some f → lines n k bs ≡ Err (Unsound k f)
  flawed_line f e = lines_next n k bs due ∙ flaw_told (lines (n - 1)) k bs (first_line bs) f e

  pub sound_line : (p rest : List ℕ) → first_line bs ≡ Some (p, rest) → flaw_of p ≡ None → lines n k bs ≡ before p (lines (n - 1) (suc k) rest)
  sound_line p rest is e = lines_next n k bs due ∙ ap (with_line (lines (n - 1)) k bs) is ∙ ap (λ o. judged k p o (lines (n - 1) (suc k) rest)) e

-- a test that led past an answer failed
pub unless : {A : Type 0} (t : Bool) (x : A) (o : Option A) → cond t (Some x) o ≡ None → (t ≡ false) × (o ≡ None)
unless true x o e = absurd (nothing (sym e))
unless false x o e = (refl, e)

-- a sound phrase does not end in a blank, is not empty and not too long
pub sound_phrase : (p : List ℕ) → flaw_of p ≡ None → (0 < length p) × (length p ≤ 40) × (ends_blank p ≡ false)
sound_phrase p e =
    let a = unless (eqb (length p) 0) _ _ e in
    let b = unless (ltb 40 (length p)) _ _ a.1 in
    let c = unless (eqb (get_or p 0 0) 32 || ends_blank p) _ _ b.1 in
    (omega (arith, eqb-false (length p) 0 a.0), ltb-false _ _ b.0, (or_parts _ _ c.0).1)

-- one row more
pub row_more : (all : Result (List (List ℕ)) TextFault) (rows : List (List ℕ)) (i : ℕ) (p bs rest : List ℕ) → i < 28 → length rows ≡ 28 → first_line bs ≡ Some (p, rest) → flaw_of p ≡ None → all ≡ prepended (phrases (take i rows)) (lines (28 - i) (i + 1) bs) → all ≡ prepended (phrases (take (i + 1) (set rows i (filled p)))) (lines (28 - (i + 1)) (i + 1 + 1) rest)
row_more all rows i p bs rest h l is sound e =
    let one : 28 - i - 1 ≡ 28 - (i + 1) = omega arith in
    let trimmed-row : trimmed (filled p) ≡ p = trimmed_filled p _ (sound_phrase p sound).2 in
    e
    ∙ ap (prepended (phrases (take i rows))) (sound_line (28 - i) (i + 1) bs (omega arith) p rest is sound ∙ (λ j. before p (lines (one j) (sym (add-one (i + 1)) j) rest)))
    ∙ sym (prepended_push (phrases (take i rows)) p (lines (28 - (i + 1)) (i + 1 + 1) rest))
    ∙ ap (λ ps. prepended ps (lines (28 - (i + 1)) (i + 1 + 1) rest))
    (ap (λ q. phrases (take i rows) ++ q ∷ []) (sym trimmed-row) ∙ sym (map_push trimmed (take i rows) (filled p)) ∙ ap phrases (sym (take_more_set rows i (filled p) (omega arith))))

pub wide_more : (rows : List (List ℕ)) (i : ℕ) (row : List ℕ) → i < length rows → length row ≡ 40 → AllWide rows → AllWide (set rows i row)
wide_more rows i row h l wide k within =
    ⊎_elim
    (λ e. ap (λ j. length (get_or (set rows i row) j [])) e ∙ ap length (get_or-set_same rows i row [] h) ∙ l)
    (λ n. ap length (get_or-set_other rows i k row [] n) ∙ wide k (subst (λ m. k < m) (length-set rows i row) within))
    (cases_eq k i)

-- all lines were read, and nothing or something is left
pub none_left : (n k : ℕ) (bs : List ℕ) → n ≡ 0 → bs ≡ [] → lines n k bs ≡ Ok []
none_left n k bs e f = (λ i. lines (e i) k (f i))

over_left : (k : ℕ) (bs : List ℕ) → 0 < length bs → lines 0 k bs ≡ Err (Unsound k Surplus)
over_left k [] h = absurd (omega arith)
over_left k (b ∷ bs) h = refl

pub some_left : (n k : ℕ) (bs : List ℕ) → n ≡ 0 → 0 < length bs → lines n k bs ≡ Err (Unsound k Surplus)
some_left n k bs e h = ap (λ m. lines m k bs) e ∙ over_left k bs h
