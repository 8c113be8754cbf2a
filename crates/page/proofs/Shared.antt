-- Phrases that stand twice, and what a text without them gives. Assumes nothing.
use Rattle.std.proofs.Common.{◌≡◌, ℕ, zero, suc, ◌+◌, ◌-◌, ◌<◌, Bool, true, false, List, [], ◌∷◌, ◌++◌, length, get_or, drop, replicate, Some, None, Ok, Err, Option, Result, sym, refl, ap, ◌∙◌, subst, arith}
use Rattle.std.specs.Str.{bytes_eq}
use Rattle.std.proofs.lemmas.Slice.Eq.{bytes_eq-Decides}
use Rattle.std.specs.List.{AllWithin, HoldsAt}
use Rattle.std.proofs.lemmas.List.{drop-map, get_or-drop, get_or-map, get_or_default, length-drop}
use Rattle.std.proofs.lemmas.Bool.Decides.{Decides-like, same_from_decides}
use Rattle.page.specs.declared.table.text.TextFault.{TextFault}
use Rattle.page.specs.declared.table.text.Flaw.{Flaw}
use Rattle.page.specs.PhraseText.{all_lines, first_line, flaw_of, judged, lines, or_later, shared_pair, twin, with_line}
use Rattle.page.specs.Phrases.{AllDifferent, AllWide, Table, phrases, trimmed}
use Rattle.page.proofs.Filled.{filled_trimmed}
use Rattle.page.proofs.FirstPlace.{first_place, no_place}
use Rattle.page.proofs.OneCall.{refused}
use Rattle.page.proofs.Laws.{ok_same}
use Rattle.page.proofs.OneLine.{nothing}
use Rattle.page.proofs.TextLines.{sound_phrase, unless}

-- rows are equal where their phrases are
pub rows_test : (rows : List (List ℕ)) → AllWide rows → (i j : ℕ) → i < length rows → j < length rows → bytes_eq (get_or (phrases rows) i []) (get_or (phrases rows) j []) ≡ bytes_eq (get_or rows i []) (get_or rows j [])
rows_test rows wide i j wi wj =
    let phrase-i = get_or-map trimmed rows i [] [] wi in
    let phrase-j = get_or-map trimmed rows j [] [] wj in
    (λ k. bytes_eq (phrase-i k) (phrase-j k))
    ∙ same_from_decides _ _
    (Decides-like _ (λ e. sym (filled_trimmed _ (wide i wi)) ∙ ap (λ p. p ++ replicate (40 - length p) 32) e ∙ filled_trimmed _ (wide j wj)) (ap trimmed) (bytes_eq-Decides (trimmed (get_or rows i [])) (trimmed (get_or rows j []))))
    (bytes_eq-Decides (get_or rows i []) (get_or rows j []))

module _ (rows : List (List ℕ)) (wide : AllWide rows) (i : ℕ) (within : i < length rows) where
  -- the test of the phrases is the test of the rows
  later_test : (b : Bool) (j : ℕ) → j < length (drop (i + 1) rows) → ((d : List ℕ) → bytes_eq (get_or rows i []) (get_or (drop (i + 1) rows) j d) ≡ b) → (d : List ℕ) → bytes_eq (get_or (phrases rows) i []) (trimmed (get_or (drop (i + 1) rows) j d)) ≡ b
  later_test b j l test d =
      let long = length-drop (i + 1) rows in
      let at : (d : List ℕ) → get_or (drop (i + 1) rows) j d ≡ get_or rows (i + 1 + j) d = λ d. get_or-drop (i + 1) rows j d in
      let there : i + 1 + j < length rows = omega arith in
      let same : get_or (drop (i + 1) rows) j d ≡ get_or (drop (i + 1) rows) j [] = get_or_default (drop (i + 1) rows) j d [] l in
      ap (λ q. bytes_eq (get_or (phrases rows) i []) (trimmed q)) (same ∙ at [])
      ∙ ap (bytes_eq (get_or (phrases rows) i [])) (sym (get_or-map trimmed rows (i + 1 + j) [] [] there))
      ∙ rows_test rows wide i (i + 1 + j) within there
      ∙ ap (bytes_eq (get_or rows i [])) (sym (at []))
      ∙ test []

  pub no_twin : AllWithin (λ r. bytes_eq (get_or rows i []) r ≡ false) (drop (i + 1) rows) 0 (length (drop (i + 1) rows)) → twin (i + 1) (get_or (phrases rows) i []) (drop (i + 1) (phrases rows)) ≡ None
  no_twin none =
      ap (twin (i + 1) (get_or (phrases rows) i [])) (drop-map trimmed (i + 1) rows)
      ∙ no_place (λ r. bytes_eq (get_or (phrases rows) i []) (trimmed r)) (λ k rs. twin k (get_or (phrases rows) i []) (phrases rs)) (λ _. refl) (λ _ _ _. refl) (i + 1) (drop (i + 1) rows)
      (λ j d a b. later_test false j b (λ d. none j d a b) d)

  pub first_twin : (j : ℕ) → j < length (drop (i + 1) rows) → HoldsAt (λ r. bytes_eq (get_or rows i []) r ≡ true) (drop (i + 1) rows) j → AllWithin (λ r. bytes_eq (get_or rows i []) r ≡ false) (drop (i + 1) rows) 0 j → twin (i + 1) (get_or (phrases rows) i []) (drop (i + 1) (phrases rows)) ≡ Some (i + 1 + j)
  first_twin j l here none =
      ap (twin (i + 1) (get_or (phrases rows) i [])) (drop-map trimmed (i + 1) rows)
      ∙ first_place (λ r. bytes_eq (get_or (phrases rows) i []) (trimmed r)) (λ k rs. twin k (get_or (phrases rows) i []) (phrases rs)) (λ _. refl) (λ _ _ _. refl) (i + 1) (drop (i + 1) rows) j l
      (later_test true j l here)
      (λ m d a b. later_test false m (omega arith) (λ d. none m d a b) d)

untwinned : (k : ℕ) (p : List ℕ) (qs : List (List ℕ)) → twin k p qs ≡ None → (j : ℕ) → j < length qs → bytes_eq p (get_or qs j []) ≡ false
untwinned k p [] e j h = absurd (omega arith)
untwinned k p (q ∷ qs) e zero h = (unless (bytes_eq p q) k (twin (suc k) p qs) e).0
untwinned k p (q ∷ qs) e (suc j) h = untwinned (suc k) p qs (unless (bytes_eq p q) k (twin (suc k) p qs) e).1 j (omega arith)

neither : (k : ℕ) (o : Option ℕ) (later : Option (ℕ × ℕ)) → or_later k o later ≡ None → (o ≡ None) × (later ≡ None)
neither k None later e = (refl, e)
neither k (Some j) later e = absurd (nothing (sym e))

-- where no pair is shared, all are different
pub all_different : (k : ℕ) (ps : List (List ℕ)) → shared_pair k ps ≡ None → AllDifferent ps
all_different k [] e i j h = absurd (omega (arith, h.1))
all_different k (p ∷ ps) e zero zero h = absurd (omega (arith, h.0))
all_different k (p ∷ ps) e zero (suc j) h = untwinned (suc k) p ps (neither k (twin (suc k) p ps) (shared_pair (suc k) ps) e).0 j (omega (arith, h.1))
all_different k (p ∷ ps) e (suc i) zero h = absurd (omega (arith, h.0))
all_different k (p ∷ ps) e (suc i) (suc j) h = all_different (suc k) ps (neither k (twin (suc k) p ps) (shared_pair (suc k) ps) e).1 i j (omega (arith, h.0), omega (arith, h.1))

-- what is known of the phrases of n lines
Sound : ℕ → List (List ℕ) → Type 0
Sound n ps = (length ps ≡ n) × ((i : ℕ) → i < length ps → flaw_of (get_or ps i []) ≡ None)

one_more : (n : ℕ) (p : List ℕ) (ps : List (List ℕ)) → flaw_of p ≡ None → Sound n ps → Sound (suc n) (p ∷ ps)
unfolding Sound
one_more n p ps sound rest = (ap suc rest.0, λ i h. at i h)
  where
    at : (i : ℕ) → i < suc (length ps) → flaw_of (get_or (p ∷ ps) i []) ≡ None
    at zero h = sound
    at (suc i) h = rest.1 i (omega arith)

sound_rest : (n k : ℕ) (p : List ℕ) (f : Option Flaw) (more : Result (List (List ℕ)) TextFault) (ps : List (List ℕ)) → flaw_of p ≡ f → ((qs : List (List ℕ)) → more ≡ Ok qs → Sound n qs) → judged k p f more ≡ Ok ps → Sound (suc n) ps
sound_rest n k p (Some f) more ps is rest e = absurd (refused e)
sound_rest n k p None (Err x) ps is rest e = absurd (refused e)
sound_rest n k p None (Ok qs) ps is rest e = subst (λ l. Sound (suc n) l) (ok_same (p ∷ qs) ps e) (one_more n p qs is (rest qs refl))

sound_with : (n k : ℕ) (bs : List ℕ) (o : Option (List ℕ × List ℕ)) (ps : List (List ℕ)) → ((j : ℕ) (cs : List ℕ) (qs : List (List ℕ)) → lines n j cs ≡ Ok qs → Sound n qs) → with_line (lines n) k bs o ≡ Ok ps → Sound (suc n) ps
sound_with n k bs None ps rest e = absurd (refused e)
sound_with n k bs (Some r) ps rest e = sound_rest n k r.0 (flaw_of r.0) (lines n (suc k) r.1) ps refl (rest (suc k) r.1) e

sound_lines : (n k : ℕ) (bs : List ℕ) (ps : List (List ℕ)) → lines n k bs ≡ Ok ps → Sound n ps
unfolding Sound
sound_lines zero k [] ps e = subst (λ l. Sound 0 l) (ok_same [] ps e) (refl, λ i h. absurd (omega arith))
sound_lines zero k (b ∷ bs) ps e = absurd (refused e)
sound_lines (suc n) k bs ps e = sound_with n k bs (first_line bs) ps (sound_lines n) e

-- the phrases of a text whose lines are sound and of which no two are equal make a table
pub table_sound : (text : List ℕ) (ps : List (List ℕ)) → all_lines text ≡ Ok ps → shared_pair 0 ps ≡ None → Table ps
unfolding all_lines Sound
table_sound text ps e f =
    let s = sound_lines 28 1 text ps e in
    record {
      count = s.0;
      named = λ i h. (sound_phrase (get_or ps i []) (s.1 i h)).0;
      short = λ i h. (sound_phrase (get_or ps i []) (s.1 i h)).1;
      ended = λ i h. (sound_phrase (get_or ps i []) (s.1 i h)).2;
      apart = all_different 0 ps f;
    }
