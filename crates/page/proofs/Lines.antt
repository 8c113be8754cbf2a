-- What printing and reading back come to, case by case. Assumes nothing.
use Rattle.std.proofs.Common.{◌≡◌, ℕ, zero, suc, ◌+◌, ◌-◌, ◌≤◌, Bool, true, false, cond, List, [], ◌∷◌, ◌++◌, length, get_or, take, drop, set, is_err, is_some, Some, None, Ok, Err, Option, sym, refl, ap, ◌∙◌, append_assoc, append-nil, arith}
use borrow.Rule.Slice.PartMut.{put_mid}
use Rattle.std.specs.Option.{option_map, ok_or}
use Rattle.std.specs.Str.{bytes_eq}
use Rattle.std.proofs.lemmas.List.{drop_all, drop_at, drop-drop, drop-take, drop_more, length-append, length-drop, set_at, take_all, take-append-drop, take_at}
use Rattle.std.proofs.lemmas.Slice.{drop-put_mid, take-put_mid}
use Rattle.std.proofs.lemmas.Bool.{cond-false, false≢true, le-ltb, true≢false}
use Rattle.clearing.specs.declared.cause.Denial.{Denial}
use Rattle.dealing.specs.Replies.{Reply, place, reply_number}
use Rattle.dealing.specs.declared.outcome.Figures.{Figures}
use Rattle.dealing.specs.declared.outcome.Outcome.TheVariants.{Opened}
use Rattle.dealing.specs.declared.refusal.Refusal.TheVariants.{NotPrintable}
use Rattle.page.specs.declared.printed.Column.{Column}
use Rattle.page.specs.declared.printed.PageLine.{PageLine}
use Rattle.page.specs.Columns.{across, all_fit, column, numeral, width_of}
use Rattle.page.specs.Phrases.{filled, found_from}
use Rattle.page.specs.Printed.{cause_numbered, confirmed, denial_at, figures_at, guess, layout, over, placed_line, print_result, printed, read_back, replies, said, same_line}
use Rattle.page.proofs.Printing.{column-length}

pub across-length : (cs : List Column) → length (across cs) ≡ width_of cs
across-length [] = refl
across-length (c ∷ cs) = length-append (column c.width c.value) (across cs) ∙ (λ i. column-length c.width c.value i + across-length cs i)

-- the columns, a blank and the phrase over the caller's first 86 bytes
pub line_written : (front row out : List ℕ) → length front ≡ 45 → length row ≡ 40 → 86 ≤ length out → put_mid 46 40 (set (front ++ drop 45 out) 45 32) row ≡ (front ++ 32 ∷ row) ++ drop 86 out
line_written front row out lf lr room =
    let rest = drop_more out 45 0 (omega arith) in
    let blanked : set (front ++ drop 45 out) 45 32 ≡ front ++ 32 ∷ drop 46 out = ap (λ l. set (front ++ l) 45 32) rest ∙ set_at front (get_or out 45 0) (drop 46 out) 32 45 lf in
    let first : take 46 (front ++ 32 ∷ drop 46 out) ≡ front ++ 32 ∷ [] = ap (take 46) (sym (append_assoc front (32 ∷ []) (drop 46 out))) ∙ take_at (front ++ 32 ∷ []) (drop 46 out) 46 (length-append front (32 ∷ []) ∙ omega arith) in
    let last : drop 86 (front ++ 32 ∷ drop 46 out) ≡ drop 86 out =
    ap (λ l. drop 86 l) (sym (append_assoc front (32 ∷ []) (drop 46 out)))
    ∙ sym (drop-drop 40 46 ((front ++ 32 ∷ []) ++ drop 46 out))
    ∙ ap (λ l. drop 40 l) (drop_at (front ++ 32 ∷ []) (drop 46 out) 46 (length-append front (32 ∷ []) ∙ omega arith))
    ∙ drop-drop 40 46 out in
    let long : length (front ++ 32 ∷ drop 46 out) ≡ length out = length-append front (32 ∷ drop 46 out) ∙ omega (arith, length-drop 46 out) in
    ap (λ l. put_mid 46 40 l row) blanked
    ∙ sym (take-append-drop 86 (put_mid 46 40 (front ++ 32 ∷ drop 46 out) row))
    ∙ (λ i. (take-put_mid 46 40 (front ++ 32 ∷ drop 46 out) row 86 (omega arith) (omega arith) ∙ ap (λ l. l ++ row) first ∙ append_assoc front (32 ∷ []) row) i
    ++ (drop-put_mid 46 40 (front ++ 32 ∷ drop 46 out) row 86 (omega arith) (omega arith) lr ∙ last) i)

module _ (ps : List (List ℕ)) (l : PageLine) where
  long_result : (n : ℕ) → 86 ≤ n → print_result ps l n ≡ ok_or (printed ps l) NotPrintable
  long_result n h = cond-false _ _ _ (le-ltb n 86 h)

  placed : (i : ℕ) (t : Bool) → place (reply_number l.reply) ≡ Some i → all_fit (layout l) ≡ t → printed ps l ≡ cond t (Some (across (layout l) ++ 32 ∷ filled (get_or ps i []))) None
  placed i t e f = ap (placed_line ps l) e ∙ ap (λ u. cond u (Some (across (layout l) ++ 32 ∷ filled (get_or ps i []))) None) f

  pub done_result : (n i : ℕ) → 86 ≤ n → place (reply_number l.reply) ≡ Some i → all_fit (layout l) ≡ true → print_result ps l n ≡ Ok (across (layout l) ++ 32 ∷ filled (get_or ps i []))
  done_result n i h e f = long_result n h ∙ ap (λ o. ok_or o NotPrintable) (placed i true e f)

-- a line that was not printed is no line's bytes
pub unprinted : (o : Option (List ℕ)) (bs : List ℕ) → is_err (said (ok_or o NotPrintable)) ≡ true → same_line o bs ≡ false
unprinted None bs e = refl
unprinted (Some line) bs e = absurd (false≢true e)

-- one that was printed over 86 bytes is theirs if it is what they are
pub reprinted : (o : Option (List ℕ)) (z again bs : List ℕ) → length z ≡ 86 → length again ≡ 86 → is_err (said (ok_or o NotPrintable)) ≡ false → again ≡ over (ok_or o NotPrintable) z → bytes_eq (take 86 again) (take 86 bs) ≡ same_line o bs
reprinted None z again bs h g e over-is = absurd (true≢false e)
reprinted (Some line) z again bs h g e over-is =
    ap (λ t. bytes_eq t (take 86 bs)) (take_all 86 again (omega arith) ∙ over-is ∙ ap (λ r. line ++ r) (drop_all 86 z (omega arith)) ∙ append-nil line)

module _ (ps : List (List ℕ)) (bs : List ℕ) where
  long_read : 86 ≤ length bs → (o : Option ℕ) → found_from 0 (take 40 (drop 46 bs)) ps ≡ o → read_back ps bs ≡ confirmed ps bs (option_map (guess bs) o)
  long_read h o e = cond-false _ _ _ (le-ltb _ 86 h) ∙ ap (λ p. confirmed ps bs (option_map (guess bs) p)) e

  pub placed_read : (i : ℕ) (t : Bool) → 86 ≤ length bs → found_from 0 (take 40 (drop 46 bs)) ps ≡ Some i → same_line (printed ps (guess bs i)) bs ≡ t → read_back ps bs ≡ cond t (Ok (guess bs i)) (Err NotPrintable)
  placed_read i t h e s = long_read h (Some i) e ∙ ap (λ u. cond u (Ok (guess bs i)) (Err NotPrintable)) s

shorter : (n m : ℕ) (xs : List ℕ) → n ≤ m → take n (take m xs) ≡ take n xs
shorter zero m xs h = refl
shorter (suc n) zero xs h = absurd (omega arith)
shorter (suc n) (suc m) [] h = refl
shorter (suc n) (suc m) (x ∷ xs) h = ap (λ l. x ∷ l) (shorter n m xs (omega arith))

module _ (bs : List ℕ) where
  -- what stands in the first 86 bytes stands there in them alone
  pub part_cut : (k w : ℕ) → k + w ≤ 86 → take w (drop k (take 86 bs)) ≡ take w (drop k bs)
  part_cut k w h =
      let n : 86 ≡ k + (86 - k) = omega arith in
      ap (λ l. take w (drop k (take l bs))) n ∙ ap (take w) (drop-take k (86 - k) bs) ∙ shorter w (86 - k) (drop k bs) (omega arith)

  pub guess_cut : (i : ℕ) → guess (take 86 bs) i ≡ guess bs i
  guess_cut i = λ j. record {
    number = numeral 0 (part_cut 0 7 (omega arith) j);
    reply =
        get_or
        (replies
        (record { number = numeral 0 (part_cut 14 7 (omega arith) j); traded = numeral 0 (part_cut 21 8 (omega arith) j); resting = numeral 0 (part_cut 29 8 (omega arith) j); taken_off = numeral 0 (part_cut 37 8 (omega arith) j) })
        (record { cause = cause_numbered (numeral 0 (part_cut 10 2 (omega arith) j)); depth = numeral 0 (part_cut 12 2 (omega arith) j) }))
        i
        (Ok Opened);
  }

  pub same_cut : (o : Option (List ℕ)) → same_line o (take 86 bs) ≡ same_line o bs
  same_cut None = refl
  same_cut (Some line) = ap (bytes_eq line) (part_cut 0 86 (omega arith))

module _ (ps : List (List ℕ)) (bs cut : List ℕ) (room : 86 ≤ length bs) (is : cut ≡ take 86 bs) where
  phrase_cut : take 40 (drop 46 bs) ≡ take 40 (drop 46 cut)
  phrase_cut = sym (ap (λ l. take 40 (drop 46 l)) is ∙ part_cut bs 46 40 (omega arith))

  -- what the first 86 bytes alone read back as
  pub cut_read : (i : ℕ) (t : Bool) → found_from 0 (take 40 (drop 46 cut)) ps ≡ Some i → same_line (printed ps (guess cut i)) cut ≡ t → read_back ps bs ≡ cond t (Ok (guess cut i)) (Err NotPrintable)
  cut_read i t found same =
      let line : guess cut i ≡ guess bs i = ap (λ l. guess l i) is ∙ guess_cut bs i in
      placed_read ps bs i t room (ap (λ f. found_from 0 f ps) phrase_cut ∙ found)
      (sym (ap (same_line (printed ps (guess cut i))) is ∙ same_cut bs (printed ps (guess cut i)) ∙ ap (λ l. same_line (printed ps l) bs) line) ∙ same)
      ∙ ap (λ l. cond t (Ok l) (Err NotPrintable)) (sym line)

  pub lost_read : (o : Option ℕ) → found_from 0 (take 40 (drop 46 cut)) ps ≡ o → false ≡ is_some o → read_back ps bs ≡ Err NotPrintable
  lost_read None found none = long_read ps bs room None (ap (λ f. found_from 0 f ps) phrase_cut ∙ found)
  lost_read (Some i) found none = absurd (false≢true none)

-- the parts of a guess make it
pub guess_is : (bs : List ℕ) (i n : ℕ) (f : Figures) (d : Denial) (r : Reply) → n ≡ numeral 0 (take 7 bs) → f ≡ figures_at bs → d ≡ denial_at bs → r ≡ get_or (replies f d) i (Ok Opened) → record { number = n; reply = r } ≡ guess bs i
guess_is bs i n f d r en ef ed er k = record { number = en k; reply = (er ∙ (λ j. get_or (replies (ef j) (ed j)) i (Ok Opened))) k }
