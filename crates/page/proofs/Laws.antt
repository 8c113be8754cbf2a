-- Printing and reading back undo each other, and the phrase alone tells the outcome. Assumes nothing.
use Rattle.std.proofs.Common.{◌≡◌, ℕ, zero, suc, ◌+◌, ◌-◌, ◌*◌, ◌/◌, ◌%◌, ◌^◌, ◌<◌, ◌≤◌, true, cond, eqb, ltb, List, [], ◌∷◌, ◌++◌, length, get_or, take, drop, Some, None, Ok, Err, Option, Result, sym, refl, ap, ◌∙◌, subst, ⊎_elim, append_assoc, append-nil, zero-add, arith}
use native.Mathlib.Nat.{pow-succ'}
use Rattle.std.specs.Str.{bytes_eq}
use Rattle.std.proofs.lemmas.Slice.Eq.{bytes_eq-Decides}
use Rattle.std.proofs.lemmas.List.{drop_at, length-append, take_at}
use Rattle.std.proofs.lemmas.Bool.{and_from, and_parts, cases_Bool, cases_order, cond-false, cond-true, eqb-true, false≢true, le-leb, ltb-true, true≢false}
use Rattle.clearing.specs.declared.cause.Denial.{Denial}
use Rattle.dealing.specs.Replies as replies-spec
use Rattle.dealing.specs.Replies.{Reply, owners, place, reply_number}
use Rattle.dealing.specs.declared.outcome.Outcome.TheVariants.{Filled, Resting, PartResting, TakenOff, PartOffAtLimit, PartOffAtOwn, Withdrawn, Reduced, Suspended, Resumed, Opened}
use Rattle.dealing.specs.declared.refusal.Refusal.TheVariants.{WrongPeriod, LotsOutOfRange, MarketTerms, PriceOutOfBand, NumbersUsedUp, OwnOrderFirst, NotInFull, RegisterFull, QueueFull, NoSuchOrder, NotYourOrder, ReductionOutOfRange, OutOfStep, CentreDenies, UnsoundText, SharedPhrase, LineTooShort, CommandLength, CommandLetter, CommandNumber, NotPrintable}
use Rattle.page.specs.declared.printed.Column.{Column}
use Rattle.page.specs.declared.printed.PageLine.{PageLine}
use Rattle.page.specs.Columns.{across, all_fit, column, digit_of, leading, numeral}
use Rattle.page.specs.Phrases.{Table, filled, found_from}
use Rattle.page.proofs.Causes.{cause_told}
use Rattle.page.specs.Printed.{PhraseTells, PrintedReadsBack, ReadBackPrints, candidate, cause_numbered, cause_of, confirmed, denial_of, depth_of, figures_of, guess, layout, number_at, placed_line, printed, read_back, replies, same_line}
use Rattle.page.proofs.Filled.{filled-length, same_filled}
use Rattle.page.proofs.Lines.{across-length, placed_read}
use Rattle.page.proofs.OneCall.{refused}
use Rattle.page.proofs.OneLine.{guarded, nothing, some_same}
use Rattle.page.proofs.Printing.{column-length}

-- a number is what its column is read as

numeral-push : (xs : List ℕ) (n b : ℕ) → numeral n (xs ++ b ∷ []) ≡ 10 * numeral n xs + digit_of b
numeral-push [] n b = refl
numeral-push (x ∷ xs) n b = numeral-push xs (10 * n + digit_of x) b

digit_read : (d : ℕ) → d < 10 → digit_of (48 + d) ≡ d
digit_read d h = cond-true _ _ _ (and_from _ _ (le-leb 48 (48 + d) (omega arith)) (le-leb (48 + d) 57 (omega arith))) ∙ omega arith

leading_read : (w n : ℕ) → n < 10 ^ w → numeral 0 (leading w n) ≡ n
leading_read zero n h = omega arith
leading_read (suc w) n h =
    let less : n / 10 < 10 ^ w = omega (arith, pow-succ' 10 w) in
    numeral-push (leading w (n / 10)) 0 _
    ∙ ap (λ m. 10 * m + digit_of (cond (eqb n 0) 32 (48 + n % 10))) (leading_read w (n / 10) less)
    ∙ ⊎_elim
    (λ t. let none = eqb-true n 0 t in ap (λ b. 10 * (n / 10) + digit_of b) (cond-true _ _ _ t) ∙ omega arith)
    (λ t. ap (λ b. 10 * (n / 10) + digit_of b) (cond-false (eqb n 0) 32 (48 + n % 10) t) ∙ ap (λ d. 10 * (n / 10) + d) (digit_read (n % 10) (omega arith)) ∙ omega arith)
    (cases_Bool (eqb n 0))

column_read : (w n : ℕ) → n < 10 ^ w → numeral 0 (column w n) ≡ n
column_read zero n h = omega arith
column_read (suc w) n h =
    let less : n / 10 < 10 ^ w = omega (arith, pow-succ' 10 w) in
    numeral-push (leading w (n / 10)) 0 _
    ∙ (λ i. 10 * leading_read w (n / 10) less i + digit_read (n % 10) (omega arith) i)
    ∙ omega arith

-- from byte k on, each column is read as its number
abbrev Reads : List Column → ℕ → List ℕ → Type 0
Reads [] k bs = Unit {0}
Reads (c ∷ cs) k bs = (number_at k c.width bs ≡ c.value) × Reads cs (k + c.width) bs

columns_read : (cs : List Column) (k : ℕ) (before after : List ℕ) → length before ≡ k → all_fit cs ≡ true → Reads cs k (before ++ (across cs ++ after))
columns_read [] k before after l fit = tt
columns_read (c ∷ cs) k before after l fit =
    let p = and_parts _ _ fit in
    let here = column c.width c.value in
    let long = column-length c.width c.value in
    let regrouped : before ++ ((here ++ across cs) ++ after) ≡ (before ++ here) ++ (across cs ++ after) = simp append_assoc in (
      ap (λ bs. numeral 0 (take c.width bs)) (drop_at before ((here ++ across cs) ++ after) k l)
          ∙ ap (λ bs. numeral 0 (take c.width bs)) (append_assoc here (across cs) after)
          ∙ ap (numeral 0) (take_at here (across cs ++ after) c.width long)
          ∙ column_read c.width c.value (ltb-true _ _ p.0),
      subst (λ bs. Reads cs (k + c.width) bs) (sym regrouped)
          (columns_read cs (k + c.width) (before ++ here) after (length-append before here ∙ (λ i. l i + long i)) p.1),
    )

-- the cause and the depth that a reply prints
denial_printed : Reply → Denial
denial_printed r = record { cause = cause_numbered (cause_of (denial_of r)); depth = depth_of (denial_of r) }

told_at : (r : Reply) (i k : ℕ) → Some k ≡ Some i → get_or (replies (figures_of r) (denial_printed r)) k (Ok Opened) ≡ r → get_or (replies (figures_of r) (denial_printed r)) i (Ok Opened) ≡ r
told_at r i k e h = ap (λ j. get_or (replies (figures_of r) (denial_printed r)) j (Ok Opened)) (sym (some_same k i e)) ∙ h

-- the reply at the place of a reply's phrase, with the numbers that it prints, is the reply
reply_told : (r : Reply) (i : ℕ) → place (reply_number r) ≡ Some i → get_or (replies (figures_of r) (denial_printed r)) i (Ok Opened) ≡ r
unfolding denial_printed
reply_told (Ok (Filled f)) i e = told_at (Ok (Filled f)) i 17 e refl
reply_told (Ok (Resting f)) i e = told_at (Ok (Resting f)) i 18 e refl
reply_told (Ok (PartResting f)) i e = told_at (Ok (PartResting f)) i 19 e refl
reply_told (Ok (TakenOff f)) i e = told_at (Ok (TakenOff f)) i 20 e refl
reply_told (Ok (PartOffAtLimit f)) i e = told_at (Ok (PartOffAtLimit f)) i 21 e refl
reply_told (Ok (PartOffAtOwn f)) i e = told_at (Ok (PartOffAtOwn f)) i 22 e refl
reply_told (Ok (Withdrawn f)) i e = told_at (Ok (Withdrawn f)) i 23 e refl
reply_told (Ok (Reduced f)) i e = told_at (Ok (Reduced f)) i 24 e refl
reply_told (Ok Suspended) i e = told_at (Ok Suspended) i 25 e refl
reply_told (Ok Resumed) i e = told_at (Ok Resumed) i 26 e refl
reply_told (Ok Opened) i e = told_at (Ok Opened) i 27 e refl
reply_told (Err WrongPeriod) i e = told_at (Err WrongPeriod) i 0 e refl
reply_told (Err LotsOutOfRange) i e = told_at (Err LotsOutOfRange) i 1 e refl
reply_told (Err MarketTerms) i e = told_at (Err MarketTerms) i 2 e refl
reply_told (Err PriceOutOfBand) i e = told_at (Err PriceOutOfBand) i 3 e refl
reply_told (Err NumbersUsedUp) i e = told_at (Err NumbersUsedUp) i 4 e refl
reply_told (Err OwnOrderFirst) i e = told_at (Err OwnOrderFirst) i 5 e refl
reply_told (Err NotInFull) i e = told_at (Err NotInFull) i 6 e refl
reply_told (Err RegisterFull) i e = told_at (Err RegisterFull) i 7 e refl
reply_told (Err QueueFull) i e = told_at (Err QueueFull) i 8 e refl
reply_told (Err NoSuchOrder) i e = told_at (Err NoSuchOrder) i 9 e refl
reply_told (Err NotYourOrder) i e = told_at (Err NotYourOrder) i 10 e refl
reply_told (Err ReductionOutOfRange) i e = told_at (Err ReductionOutOfRange) i 11 e refl
reply_told (Err OutOfStep) i e = told_at (Err OutOfStep) i 12 e refl
reply_told (Err (CentreDenies d)) i e = told_at (Err (CentreDenies d)) i 13 e (λ j. Err (CentreDenies (record { cause = cause_told d.cause j; depth = d.depth })))
reply_told (Err UnsoundText) i e = absurd (nothing e)
reply_told (Err SharedPhrase) i e = absurd (nothing e)
reply_told (Err LineTooShort) i e = absurd (nothing e)
reply_told (Err CommandLength) i e = told_at (Err CommandLength) i 14 e refl
reply_told (Err CommandLetter) i e = told_at (Err CommandLetter) i 15 e refl
reply_told (Err CommandNumber) i e = told_at (Err CommandNumber) i 16 e refl
reply_told (Err NotPrintable) i e = absurd (nothing e)

-- the place of a number's phrase has the number
found_owner : (k n i : ℕ) (ms : List ℕ) → replies-spec.found_from k n ms ≡ Some i → (k ≤ i) × (i < k + length ms) × (get_or ms (i - k) 0 ≡ n)
found_owner k n i [] e = absurd (nothing e)
found_owner k n i (m ∷ ms) e =
    ⊎_elim
    (λ t.
    let here = some_same k i (sym (cond-true _ _ _ t) ∙ e) in
    let first : i - k ≡ 0 = omega arith in
    (omega arith, omega arith, ap (λ j. get_or (m ∷ ms) j 0) first ∙ sym (eqb-true n m t)))
    (λ t.
    let later = found_owner (suc k) n i ms (sym (cond-false _ _ _ t) ∙ e) in
    let past : i - k ≡ suc (i - suc k) = omega arith in
    (omega arith, omega arith, ap (λ j. get_or (m ∷ ms) j 0) past ∙ later.2))
    (cases_Bool (eqb n m))

-- what a printed line is made of
record Made (ps : List (List ℕ)) (l : PageLine) (bytes : List ℕ) : Type 0 where
  pub at : ℕ
  pub owns : place (reply_number l.reply) ≡ Some at
  pub within : at < 28
  pub fits : all_fit (layout l) ≡ true
  pub is : bytes ≡ across (layout l) ++ 32 ∷ filled (get_or ps at [])

made_from : (ps : List (List ℕ)) (l : PageLine) (bytes : List ℕ) (o : Option ℕ) → place (reply_number l.reply) ≡ o → placed_line ps l o ≡ Some bytes → Made ps l bytes
made_from ps l bytes None e p = absurd (nothing p)
made_from ps l bytes (Some i) e p =
    let u = guarded _ _ _ p in
    record { at = i; owns = e; within = (found_owner 0 (reply_number l.reply) i owners e).1; fits = u.0; is = sym (some_same _ _ u.1) }

made : (ps : List (List ℕ)) (l : PageLine) (bytes : List ℕ) → printed ps l ≡ Some bytes → Made ps l bytes
made ps l bytes p = made_from ps l bytes _ refl p

-- the phrase stands from byte 46 on
phrase_part : (l : PageLine) (field more : List ℕ) → drop 46 ((across (layout l) ++ 32 ∷ field) ++ more) ≡ field ++ more
phrase_part l field more =
    ap (drop 46) (append_assoc (across (layout l)) (32 ∷ field) more ∙ sym (append_assoc (across (layout l)) (32 ∷ []) (field ++ more)))
    ∙ drop_at (across (layout l) ++ 32 ∷ []) (field ++ more) 46 (length-append (across (layout l)) (32 ∷ []) ∙ ap (λ n. n + 1) (across-length (layout l)))

-- in a table, phrases that fill the same columns stand at one place
module _ (ps : List (List ℕ)) (t : Table ps) where
  differ : (i j : ℕ) → i < j → j < length ps → filled (get_or ps i []) ≡ filled (get_or ps j []) → ⊥
  differ i j less within e =
      let same = same_filled (get_or ps i []) (get_or ps j []) (t.ended i (omega arith)) (t.ended j within) e in
      true≢false (sym ((bytes_eq-Decides (get_or ps i []) (get_or ps j [])).1 same) ∙ t.apart i j (less, within))

  one_place : (i j : ℕ) → i < length ps → j < length ps → filled (get_or ps i []) ≡ filled (get_or ps j []) → i ≡ j
  one_place i j wi wj e =
      ⊎_elim (λ same. same) (⊎_elim (λ less. absurd (differ i j less wj e)) (λ more. absurd (differ j i more wi (sym e)))) (cases_order i j)

pub phrase_tells : PhraseTells
phrase_tells ps t l m a b p q e =
    let u = made ps l a p in
    let v = made ps m b q in
    let there = t.count in
    let field-a : drop 46 a ≡ filled (get_or ps u.at []) = ap (drop 46) (u.is ∙ sym (append-nil _)) ∙ phrase_part l _ [] ∙ append-nil _ in
    let field-b : drop 46 b ≡ filled (get_or ps v.at []) = ap (drop 46) (v.is ∙ sym (append-nil _)) ∙ phrase_part m _ [] ∙ append-nil _ in
    let same = one_place ps t u.at v.at (omega (arith, u.within)) (omega (arith, v.within)) (sym field-a ∙ e ∙ field-b) in
    sym (found_owner 0 (reply_number l.reply) u.at owners u.owns).2 ∙ ap (λ i. get_or owners (i - 0) 0) same ∙ (found_owner 0 (reply_number m.reply) v.at owners v.owns).2

pub ok_same : {A E : Type 0} (x y : A) → ◌≡◌ {A = Result A E} (Ok x) (Ok y) → x ≡ y
ok_same x y e = cc

same_told : (o : Option (List ℕ)) (bs : List ℕ) → same_line o bs ≡ true → o ≡ Some (take 86 bs)
same_told None bs e = absurd (false≢true e)
same_told (Some line) bs e = ap (λ t. Some t) ((bytes_eq-Decides line (take 86 bs)).0 e)

confirmed_prints : (ps : List (List ℕ)) (bs : List ℕ) (l : PageLine) (o : Option PageLine) → confirmed ps bs o ≡ Ok l → printed ps l ≡ Some (take 86 bs)
confirmed_prints ps bs l None e = absurd (refused e)
confirmed_prints ps bs l (Some m) e =
    ⊎_elim
    (λ t. let same : m ≡ l = ok_same m l (sym (cond-true _ _ _ t) ∙ e) in subst (λ n. printed ps n ≡ Some (take 86 bs)) same (same_told (printed ps m) bs t))
    (λ t. absurd (refused (sym (cond-false _ _ _ t) ∙ e)))
    (cases_Bool (same_line (printed ps m) bs))

pub read_back_prints : ReadBackPrints
read_back_prints ps bs l e =
    ⊎_elim
    (λ t. absurd (refused (sym (cond-true _ _ _ t) ∙ e)))
    (λ t. confirmed_prints ps bs l (candidate ps bs) (sym (cond-false _ _ _ t) ∙ e))
    (cases_Bool (ltb (length bs) 86))

-- the first phrase that fills some columns is found at its place
found_at : (ps : List (List ℕ)) (k i : ℕ) (field : List ℕ) → i < length ps → filled (get_or ps i []) ≡ field → ((j : ℕ) → j < i → filled (get_or ps j []) ≡ field → ⊥) → found_from k field ps ≡ Some (k + i)
found_at [] k i field within is before = absurd (omega arith)
found_at (p ∷ ps) k zero field within is before =
    let here : k ≡ k + 0 = omega arith in
    cond-true _ _ _ ((bytes_eq-Decides (filled p) field).1 is) ∙ ap (λ n. Some n) here
found_at (p ∷ ps) k (suc i) field within is before =
    let there : suc k + i ≡ k + suc i = omega arith in
    ⊎_elim
    (λ t. absurd (before 0 (omega arith) ((bytes_eq-Decides (filled p) field).0 t)))
    (λ t. cond-false _ _ _ t ∙ found_at ps (suc k) i field (omega arith) is (λ j h. before (suc j) (omega arith)) ∙ ap (λ n. Some n) there)
    (cases_Bool (bytes_eq (filled p) field))

-- the columns of a line give back the line
guess_told : (l : PageLine) (i : ℕ) (bs : List ℕ) → place (reply_number l.reply) ≡ Some i → Reads (layout l) 0 bs → guess bs i ≡ l
unfolding denial_printed
guess_told l i bs owns r =
    let cause = r.1.1.0 in
    let depth = r.1.1.1.0 in
    let lots = r.1.1.1.1 in
    (λ j. record {
      number = r.0 j;
      reply =
          ((λ m. get_or (replies (record { number = lots.0 m; traded = lots.1.0 m; resting = lots.1.1.0 m; taken_off = lots.1.1.1.0 m }) (record { cause = cause_numbered (cause m); depth = depth m })) i (Ok Opened))
          ∙ reply_told l.reply i owns) j;
    })

pub printed_reads_back : PrintedReadsBack
printed_reads_back ps t l bytes more p =
    let u = made ps l bytes p in
    let there = t.count in
    let i = u.at in
    let field = filled (get_or ps i []) in
    let bs = (across (layout l) ++ 32 ∷ field) ++ more in
    let within : i < length ps = omega (arith, u.within) in
    let wide = filled-length (get_or ps i []) (t.short i within) in
    let long : length (across (layout l) ++ 32 ∷ field) ≡ 86 = length-append (across (layout l)) (32 ∷ field) ∙ omega (arith, across-length (layout l)) in
    let room : 86 ≤ length bs = omega (arith, length-append (across (layout l) ++ 32 ∷ field) more) in
    let found : found_from 0 (take 40 (drop 46 bs)) ps ≡ Some i =
    ap (λ f. found_from 0 (take 40 f) ps) (phrase_part l field more)
    ∙ ap (λ f. found_from 0 f ps) (take_at field more 40 wide)
    ∙ found_at ps 0 i field within refl (λ j less. differ ps t j i less within)
    ∙ ap (λ n. Some n) (zero-add i) in
    let regrouped : bs ≡ [] ++ (across (layout l) ++ (32 ∷ (field ++ more))) = append_assoc (across (layout l)) (32 ∷ field) more in
    let told : guess bs i ≡ l = guess_told l i bs u.owns (subst (λ b. Reads (layout l) 0 b) (sym regrouped) (columns_read (layout l) 0 [] (32 ∷ (field ++ more)) refl u.fits)) in
    let same : same_line (printed ps (guess bs i)) bs ≡ true =
    ap (λ m. same_line (printed ps m) bs) told
    ∙ ap (λ o. same_line o bs) (p ∙ ap (λ b. Some b) u.is)
    ∙ (bytes_eq-Decides (across (layout l) ++ 32 ∷ field) (take 86 bs)).1 (sym (take_at (across (layout l) ++ 32 ∷ field) more 86 long)) in
    ap (λ b. read_back ps (b ++ more)) u.is ∙ placed_read ps bs i true room found same ∙ ap (λ m. Ok m) told
