-- A phrase and the row that it fills tell each other. Assumes nothing.
use Rattle.std.proofs.Common.{◌≡◌, ℕ, zero, suc, ◌+◌, ◌-◌, ◌<◌, ◌≤◌, Bool, true, false, eqb, List, [], ◌∷◌, ◌++◌, length, get_or, take, replicate, Some, None, Option, MatchOption, sym, refl, ap, ◌∙◌, subst, ⊎_elim, arith}
use Rattle.std.specs.Str.{bytes_eq}
use Rattle.std.specs.List.{AllWithin, HoldsAt}
use Rattle.std.proofs.lemmas.List.{get_or-map, get_or_default, length-append, length-replicate, take_all, take_more}
use Rattle.std.proofs.lemmas.Bool.{cases_Bool, cond-false, cond-true, eqb-true, ne_eqb}
use Rattle.page.specs.Phrases.{AllWide, ends_blank, filled, found_from, kept_before, phrases, trimmed}
use Rattle.page.proofs.FirstPlace.{first_place, no_place}

-- the blanks after a phrase make up for those that a trim took away, here where nothing but blanks follows b
kept_blank : (b : ℕ) (bs : List ℕ) → replicate (length bs) 32 ≡ bs → (kept_before b [] ++ replicate (suc (length bs) - length (kept_before b [])) 32 ≡ b ∷ bs) × (length (kept_before b []) ≤ suc (length bs)) × (ends_blank (kept_before b []) ≡ false)
kept_blank b bs e =
    ⊎_elim
    (λ t.
    let whole : suc (length bs) - 0 ≡ suc (length bs) = omega arith in
    let none = cond-true (eqb b 32) [] (b ∷ []) t in
    (ap (λ l. l ++ replicate (suc (length bs) - length l) 32) none ∙ ap (λ (n : ℕ). replicate n 32) whole ∙ (λ i. sym (eqb-true b 32 t) i ∷ e i), subst (λ l. length l ≤ suc (length bs)) (sym none) (omega arith), ap ends_blank none))
    (λ t.
    let one = cond-false (eqb b 32) [] (b ∷ []) t in
    (ap (λ l. l ++ replicate (suc (length bs) - length l) 32) one ∙ ap (λ l. b ∷ l) (ap (λ n. replicate n 32) (omega arith) ∙ e), subst (λ l. length l ≤ suc (length bs)) (sym one) (omega arith), ap ends_blank one ∙ t))
    (cases_Bool (eqb b 32))

-- one byte more in front of what is trimmed
kept : (b : ℕ) (bs t : List ℕ) → t ++ replicate (length bs - length t) 32 ≡ bs → length t ≤ length bs → ends_blank t ≡ false → (kept_before b t ++ replicate (suc (length bs) - length (kept_before b t)) 32 ≡ b ∷ bs) × (length (kept_before b t) ≤ suc (length bs)) × (ends_blank (kept_before b t) ≡ false)
kept b bs [] e l n = kept_blank b bs (ap (λ m. replicate m 32) (omega arith) ∙ e)
kept b bs (c ∷ cs) e l n = (ap (λ t. b ∷ t) (ap (λ m. c ∷ cs ++ replicate m 32) (omega arith) ∙ e), omega arith, n)

pub trim : (xs : List ℕ) → (trimmed xs ++ replicate (length xs - length (trimmed xs)) 32 ≡ xs) × (length (trimmed xs) ≤ length xs) × (ends_blank (trimmed xs) ≡ false)
trim [] = (refl, omega arith, refl)
trim (b ∷ bs) = let t = trim bs in kept b bs (trimmed bs) t.0 t.1 t.2

-- a row is what its phrase fills
pub filled_trimmed : (row : List ℕ) → length row ≡ 40 → filled (trimmed row) ≡ row
filled_trimmed row l = ap (λ n. trimmed row ++ replicate (n - length (trimmed row)) 32) (sym l) ∙ (trim row).0

trimmed_blanks : (n : ℕ) → trimmed (replicate n 32) ≡ []
trimmed_blanks zero = refl
trimmed_blanks (suc n) = ap (λ t. kept_before 32 t) (trimmed_blanks n)

pub trimmed_filled : (p : List ℕ) (n : ℕ) → ends_blank p ≡ false → trimmed (p ++ replicate n 32) ≡ p
trimmed_filled [] n e = trimmed_blanks n
trimmed_filled (b ∷ []) n e = ap (λ t. kept_before b t) (trimmed_blanks n) ∙ cond-false (eqb b 32) [] (b ∷ []) e
trimmed_filled (b ∷ c ∷ cs) n e = ap (λ t. kept_before b t) (trimmed_filled (c ∷ cs) n e)

-- phrases that fill the same columns are the same
pub same_filled : (p q : List ℕ) → ends_blank p ≡ false → ends_blank q ≡ false → filled p ≡ filled q → p ≡ q
same_filled p q a b e = sym (trimmed_filled p _ a) ∙ ap trimmed e ∙ trimmed_filled q _ b

pub filled-length : (p : List ℕ) → length p ≤ 40 → length (filled p) ≡ 40
filled-length p h = simp (length-append, length-replicate) (omega arith)

module _ (rows : List (List ℕ)) (i : ℕ) (within : i < length rows) (wide : length (get_or rows i []) ≡ 40) where
  -- what a place's phrase fills is its row
  pub row_filled : filled (get_or (phrases rows) i []) ≡ get_or rows i []
  row_filled = ap filled (get_or-map trimmed rows i [] [] within) ∙ filled_trimmed _ wide

module _ (rows : List (List ℕ)) (wide : AllWide rows) (field : List ℕ) where
  -- a row fills the columns where its phrase does
  fills : (b : Bool) (k : ℕ) (d : List ℕ) → k < length rows → bytes_eq (get_or rows k d) field ≡ b → bytes_eq (filled (trimmed (get_or rows k d))) field ≡ b
  fills b k d l e = ap (λ r. bytes_eq r field) (filled_trimmed (get_or rows k d) (ap length (get_or_default rows k d [] l) ∙ wide k l)) ∙ e

  -- the first row that is the columns is the first phrase that fills them
  pub found_row : (r : Option ℕ) → MatchOption r (AllWithin (λ row. bytes_eq row field ≡ false) rows 0 (length rows)) (λ i. (i < length rows) × HoldsAt (λ row. bytes_eq row field ≡ true) rows i × AllWithin (λ row. bytes_eq row field ≡ false) rows 0 i) → r ≡ found_from 0 field (phrases rows)
  found_row None fail =
      sym (no_place (λ row. bytes_eq (filled (trimmed row)) field) (λ k rs. found_from k field (phrases rs)) (λ _. refl) (λ _ _ _. refl) 0 rows (λ k d a b. fills false k d b (fail k d a b)))
  found_row (Some i) first =
      let from_start : i ≡ 0 + i = omega arith in
      ap (λ n. Some n) from_start
      ∙ sym (first_place (λ row. bytes_eq (filled (trimmed row)) field) (λ k rs. found_from k field (phrases rs)) (λ _. refl) (λ _ _ _. refl) 0 rows i first.0
      (λ d. fills true i d first.0 (first.1 d))
      (λ k d a b. fills false k d (omega (arith, first.0)) (first.2 k d a b)))

trimmed_blank : (xs : List ℕ) → trimmed (xs ++ 32 ∷ []) ≡ trimmed xs
trimmed_blank [] = refl
trimmed_blank (x ∷ xs) = ap (kept_before x) (trimmed_blank xs)

trimmed_other : (xs : List ℕ) (b : ℕ) → (b ≡ 32 → ⊥) → trimmed (xs ++ b ∷ []) ≡ xs ++ b ∷ []
trimmed_other [] b n = cond-false _ _ _ (ne_eqb b 32 n)
trimmed_other (x ∷ []) b n = ap (kept_before x) (trimmed_other [] b n)
trimmed_other (x ∷ y ∷ ys) b n = ap (kept_before x) (trimmed_other (y ∷ ys) b n)

module _ (xs : List ℕ) (some : 0 < length xs) where
  last_taken : xs ≡ take (length xs - 1) xs ++ get_or xs (length xs - 1) 0 ∷ []
  last_taken =
      let whole : length xs ≡ length xs - 1 + 1 = omega arith in
      sym (take_all (length xs) xs (omega arith)) ∙ ap (λ n. take n xs) whole ∙ take_more xs (length xs - 1) 0 (omega arith)

  -- a blank at the end is no part of the phrase
  pub trim_step : get_or xs (length xs - 1) 0 ≡ 32 → trimmed (take (length xs - 1) xs) ≡ trimmed xs
  trim_step e = sym (ap trimmed (last_taken ∙ ap (λ b. take (length xs - 1) xs ++ b ∷ []) e) ∙ trimmed_blank (take (length xs - 1) xs))

  -- another byte is its last
  pub trim_stop : (get_or xs (length xs - 1) 0 ≡ 32 → ⊥) → trimmed xs ≡ xs
  trim_stop n = ap trimmed last_taken ∙ trimmed_other (take (length xs - 1) xs) _ n ∙ sym last_taken
