-- Two lines that read as one call are one line: part by part, the call tells the bytes. Assumes nothing.
use Rattle.std.proofs.Common.{◌≡◌, ℕ, zero, suc, ◌+◌, ◌-◌, ◌<◌, ◌≤◌, Bool, true, false, cond, eqb, List, [], ◌∷◌, length, get_or, take, drop, ℤ, Some, None, Ok, Err, Option, sym, refl, ap, ◌∙◌, subst, ⊎_elim, arith}
use Rattle.std.specs.Option.{ok_or}
use Rattle.std.proofs.lemmas.List.{ext_get_or, get_or-drop, get_or-take, length-drop, length-take}
use Rattle.std.proofs.lemmas.Bool.{and_parts, cases_Bool, cases_lt, cond-false, cond-true, eqb-false, eqb-true}
use Rattle.clearing.specs.declared.side.Side.{Side}
use Rattle.clearing.specs.declared.side.Side.TheVariants.{Buy, Sell}
use Rattle.dealing.specs.declared.call.Call.{Call}
use Rattle.dealing.specs.declared.call.Call.TheVariants as call
use Rattle.dealing.specs.declared.call.Entry.{Entry}
use Rattle.dealing.specs.declared.call.Kind.{Kind}
use Rattle.dealing.specs.declared.call.Kind.TheVariants.{Limited, Market}
use Rattle.dealing.specs.declared.call.Rest.{Rest}
use Rattle.dealing.specs.declared.call.Rest.TheVariants.{Queue, TakeOff, InFull}
use Rattle.page.specs.declared.command.Head.{Head}
use Rattle.page.specs.declared.command.Head.TheVariants as head
use Rattle.page.specs.Bytes.{blank, number}
use Rattle.page.specs.Command.{OneLineEach, apply, call_of, call_or_refusal, entry, first, head_of, kind_of, opening, plain_letter, read_command, reduction, rest_of, second, side_of, third, three_numbers, two_numbers, where_holds, withdrawal}
use Rattle.page.proofs.OneLine.{nothing, same_blank, same_field, some_same}

-- two lines have the same bytes from k to before k + n
Agree : List ℕ → List ℕ → ℕ → ℕ → Type 0
Agree a b k n = (i : ℕ) → k ≤ i → i < k + n → get_or a i 0 ≡ get_or b i 0

part_at : (a : List ℕ) (k n i : ℕ) → k ≤ i → i < k + n → get_or (take n (drop k a)) (i - k) 0 ≡ get_or a i 0
part_at a k n i low high =
    let inside : i - k < n = omega arith in
    let back : k + (i - k) ≡ i = omega arith in
    get_or-take n (drop k a) (i - k) 0 inside ∙ get_or-drop k a (i - k) 0 ∙ ap (λ j. get_or a j 0) back

agree : (a b : List ℕ) (k n : ℕ) → take n (drop k a) ≡ take n (drop k b) → Agree a b k n
unfolding Agree
agree a b k n e i low high = sym (part_at a k n i low high) ∙ ap (λ l. get_or l (i - k) 0) e ∙ part_at b k n i low high

part_length : (a : List ℕ) (k n : ℕ) → k + n ≤ length a → length (take n (drop k a)) ≡ n
part_length a k n h = simp (length-take, length-drop) (omega arith)

module _ (a b : List ℕ) (la : length a ≡ 37) (lb : length b ≡ 37) where
  same_length : (k n : ℕ) → k + n ≤ 37 → length (take n (drop k a)) ≡ length (take n (drop k b))
  same_length k n h = part_length a k n (omega arith) ∙ sym (part_length b k n (omega arith))

  blanks_agree : (k n : ℕ) → k + n ≤ 37 → blank (take n (drop k a)) ≡ true → blank (take n (drop k b)) ≡ true → Agree a b k n
  blanks_agree k n h p q = agree a b k n (same_blank _ _ (same_length k n h) p q)

  numbers_agree : (k n : ℕ) (x y : ℤ) → k + n ≤ 37 → number (take n (drop k a)) ≡ Some x → number (take n (drop k b)) ≡ Some y → x ≡ y → Agree a b k n
  numbers_agree k n x y h p q e = agree a b k n (same_field _ _ x (same_length k n h) p (q ∙ ap (λ z. Some z) (sym e)))

  thrice : Agree a b 4 11 → Agree a b 15 11 → Agree a b 26 11 → Agree a b 4 33
  unfolding Agree
  thrice p q r i low high =
      ⊎_elim (λ l. p i low l) (λ g. ⊎_elim (λ l. q i g l) (λ m. r i m high) (cases_lt i 26)) (cases_lt i 15)

  whole : Agree a b 0 4 → Agree a b 4 33 → a ≡ b
  unfolding Agree
  whole p q = ext_get_or 0 a b (la ∙ sym lb) (λ i h. ⊎_elim (λ l. p i (omega arith) l) (λ g. q i g (omega arith)) (cases_lt i 4))

-- the letters of each head
side_byte : Side → ℕ
side_byte Buy = 66
side_byte Sell = 83

kind_byte : Kind → ℕ
kind_byte Limited = 76
kind_byte Market = 77

rest_byte : Rest → ℕ
rest_byte Queue = 81
rest_byte TakeOff = 84
rest_byte InFull = 70

letter : Head → ℕ
letter head.Open = 79
letter (head.Enter s k r) = 69
letter head.Withdraw = 87
letter head.Reduce = 82
letter head.Suspend = 72
letter head.Resume = 71

-- a byte that was taken for k, or else by the tests after it, is the one of what it was taken for
picked : {A : Type 0} (byte : A → ℕ) (x k : ℕ) (s t : A) (o : Option A) → byte s ≡ k → (o ≡ Some t → x ≡ byte t) → cond (eqb x k) (Some s) o ≡ Some t → x ≡ byte t
picked byte x k s t o is later e =
    ⊎_elim
    (λ h. eqb-true x k h ∙ sym is ∙ ap byte (some_same s t (sym (cond-true _ _ _ h) ∙ e)))
    (λ h. later (sym (cond-false _ _ _ h) ∙ e))
    (cases_Bool (eqb x k))

side_told : (x : ℕ) (s : Side) → side_of x ≡ Some s → x ≡ side_byte s
unfolding side_byte
side_told x s = picked side_byte x 66 Buy s _ refl (picked side_byte x 83 Sell s None refl (λ e. absurd (nothing e)))

kind_told : (x : ℕ) (k : Kind) → kind_of x ≡ Some k → x ≡ kind_byte k
unfolding kind_byte
kind_told x k = picked kind_byte x 76 Limited k _ refl (picked kind_byte x 77 Market k None refl (λ e. absurd (nothing e)))

rest_told : (x : ℕ) (r : Rest) → rest_of x ≡ Some r → x ≡ rest_byte r
unfolding rest_byte
rest_told x r =
    picked rest_byte x 81 Queue r _ refl
    (picked rest_byte x 84 TakeOff r _ refl (picked rest_byte x 70 InFull r None refl (λ e. absurd (nothing e))))

letter_told : (x : ℕ) (h : Head) → plain_letter x ≡ Some h → x ≡ letter h
unfolding letter
letter_told x h =
    picked letter x 79 head.Open h _ refl
    (picked letter x 87 head.Withdraw h _ refl
    (picked letter x 82 head.Reduce h _ refl
    (picked letter x 72 head.Suspend h _ refl
    (picked letter x 71 head.Resume h None refl (λ e. absurd (nothing e))))))

-- what the tests of a chain gave
applied : {A B : Type 0} (f : Option (A → B)) (o : Option A) (y : B) → apply f o ≡ Some y → (g : A → B) × (x : A) × (f ≡ Some g) × (o ≡ Some x) × (g x ≡ y)
applied None o y e = absurd (nothing e)
applied (Some g) None y e = absurd (nothing e)
applied (Some g) (Some x) y e = (g, x, refl, refl, some_same _ _ e)

applied_twice : {A B C : Type 0} (f : A → B → C) (o : Option A) (p : Option B) (z : C) → apply (apply (Some f) o) p ≡ Some z → (x : A) × (y : B) × (o ≡ Some x) × (p ≡ Some y) × (f x y ≡ z)
applied_twice f o p z e =
    let u = applied _ p z e in
    let v = applied (Some f) o u.0 u.2 in
    (v.1, u.1, v.3, u.3, ap (λ g. g u.1) (ap (λ g. g v.1) (some_same _ _ v.2) ∙ v.4) ∙ u.4)

applied_thrice : {A B C D : Type 0} (f : A → B → C → D) (o : Option A) (p : Option B) (q : Option C) (d : D) → apply (apply (apply (Some f) o) p) q ≡ Some d → (x : A) × (y : B) × (z : C) × (o ≡ Some x) × (p ≡ Some y) × (q ≡ Some z) × (f x y z ≡ d)
applied_thrice f o p q d e =
    let u = applied _ q d e in
    let v = applied_twice f o p u.0 u.2 in
    (v.0, v.1, u.1, v.2, v.3, u.3, ap (λ g. g u.1) v.4 ∙ u.4)

held : {A : Type 0} (t : Bool) (o : Option A) (x : A) → where_holds t o ≡ Some x → (t ≡ true) × (o ≡ Some x)
held true o x e = (refl, e)
held false o x e = absurd (nothing e)

-- the four letters that ask for a head
second_byte : Head → ℕ
second_byte head.Open = 32
second_byte (head.Enter s k r) = side_byte s
second_byte head.Withdraw = 32
second_byte head.Reduce = 32
second_byte head.Suspend = 32
second_byte head.Resume = 32

third_byte : Head → ℕ
third_byte head.Open = 32
third_byte (head.Enter s k r) = kind_byte k
third_byte head.Withdraw = 32
third_byte head.Reduce = 32
third_byte head.Suspend = 32
third_byte head.Resume = 32

fourth_byte : Head → ℕ
fourth_byte head.Open = 32
fourth_byte (head.Enter s k r) = rest_byte r
fourth_byte head.Withdraw = 32
fourth_byte head.Reduce = 32
fourth_byte head.Suspend = 32
fourth_byte head.Resume = 32

Spelt : List ℕ → Head → Type 0
Spelt a h = (get_or a 0 0 ≡ letter h) × (get_or a 1 0 ≡ second_byte h) × (get_or a 2 0 ≡ third_byte h) × (get_or a 3 0 ≡ fourth_byte h)

-- a head without letters of its own has blanks for them
plain_bytes : (h : Head) → (letter h ≡ 69 → ⊥) → (second_byte h ≡ 32) × (third_byte h ≡ 32) × (fourth_byte h ≡ 32)
unfolding letter second_byte third_byte fourth_byte
plain_bytes head.Open n = (refl, refl, refl)
plain_bytes (head.Enter s k r) n = absurd (n refl)
plain_bytes head.Withdraw n = (refl, refl, refl)
plain_bytes head.Reduce n = (refl, refl, refl)
plain_bytes head.Suspend n = (refl, refl, refl)
plain_bytes head.Resume n = (refl, refl, refl)

blank_at : (xs : List ℕ) (i : ℕ) → blank xs ≡ true → i < length xs → get_or xs i 0 ≡ 32
blank_at [] i e h = absurd (omega arith)
blank_at (x ∷ xs) zero e h = eqb-true x 32 (and_parts _ _ e).0
blank_at (x ∷ xs) (suc i) e h = blank_at xs i (and_parts _ _ e).1 (omega arith)

blank_column : (a : List ℕ) (i : ℕ) → length a ≡ 37 → 1 ≤ i → i < 4 → blank (take 3 (drop 1 a)) ≡ true → get_or a i 0 ≡ 32
blank_column a i l low high e =
    let long = part_length a 1 3 (omega arith) in
    sym (part_at a 1 3 i low high) ∙ blank_at _ (i - 1) e (omega arith)

spelt_entry : (a : List ℕ) (h : Head) → get_or a 0 0 ≡ 69 → apply (apply (apply (Some (λ s k r. head.Enter s k r)) (side_of (get_or a 1 0))) (kind_of (get_or a 2 0))) (rest_of (get_or a 3 0)) ≡ Some h → Spelt a h
unfolding Spelt letter second_byte third_byte fourth_byte
spelt_entry a h e p =
    let u = applied_thrice _ _ _ _ h p in
    subst (λ g. Spelt a g) u.6 (e, side_told _ _ u.3, kind_told _ _ u.4, rest_told _ _ u.5)

spelt_plain : (a : List ℕ) (h : Head) → length a ≡ 37 → (get_or a 0 0 ≡ 69 → ⊥) → where_holds (blank (take 3 (drop 1 a))) (plain_letter (get_or a 0 0)) ≡ Some h → Spelt a h
unfolding Spelt
spelt_plain a h l n p =
    let u = held _ _ h p in
    let first-is = letter_told _ h u.1 in
    let rest = plain_bytes h (λ e. n (first-is ∙ e)) in (
      first-is,
      blank_column a 1 l (omega arith) (omega arith) u.0 ∙ sym rest.0,
      blank_column a 2 l (omega arith) (omega arith) u.0 ∙ sym rest.1,
      blank_column a 3 l (omega arith) (omega arith) u.0 ∙ sym rest.2,
    )

spelt : (a : List ℕ) (h : Head) → length a ≡ 37 → head_of a ≡ Some h → Spelt a h
spelt a h l p =
    ⊎_elim
    (λ e. spelt_entry a h (eqb-true _ _ e) (sym (cond-true _ _ _ e) ∙ p))
    (λ e. spelt_plain a h l (eqb-false _ _ e) (sym (cond-false _ _ _ e) ∙ p))
    (cases_Bool (eqb (get_or a 0 0) 69))

letters_agree : (a b : List ℕ) (h : Head) → Spelt a h → Spelt b h → Agree a b 0 4
unfolding Spelt Agree
letters_agree a b h p q zero low high = p.0 ∙ sym q.0
letters_agree a b h p q (suc zero) low high = p.1 ∙ sym q.1
letters_agree a b h p q (suc (suc zero)) low high = p.2 ∙ sym q.2
letters_agree a b h p q (suc (suc (suc zero))) low high = p.3 ∙ sym q.3
letters_agree a b h p q (suc (suc (suc (suc i)))) low high = absurd (omega arith)

two_told : (f : ℤ → ℤ → Call) (a : List ℕ) (c : Call) → two_numbers f a ≡ Some c → (x : ℤ) × (y : ℤ) × (number (first a) ≡ Some x) × (number (second a) ≡ Some y) × (f x y ≡ c)
two_told f a c = applied_twice f (number (first a)) (number (second a)) c

three_told : (f : ℤ → ℤ → ℤ → Call) (a : List ℕ) (c : Call) → three_numbers f a ≡ Some c → (x : ℤ) × (y : ℤ) × (z : ℤ) × (number (first a) ≡ Some x) × (number (second a) ≡ Some y) × (number (third a) ≡ Some z) × (f x y z ≡ c)
three_told f a c = applied_thrice f (number (first a)) (number (second a)) (number (third a)) c

-- the head that a call comes from
head_for : Call → Head
head_for (call.Open low high deviation) = head.Open
head_for (call.Enter e) = head.Enter e.side e.kind e.rest
head_for (call.Withdraw account order) = head.Withdraw
head_for (call.Reduce account order lots) = head.Reduce
head_for call.Suspend = head.Suspend
head_for call.Resume = head.Resume

head_told : (h : Head) (a : List ℕ) (c : Call) → call_of h a ≡ Some c → h ≡ head_for c
unfolding head_for
head_told head.Open a c e = ap head_for (three_told opening a c e).6
head_told (head.Enter s k r) a c e = ap head_for (three_told (entry s k r) a c e).6
head_told head.Withdraw a c e = ap head_for (two_told withdrawal a c (held (blank (third a)) _ c e).1).4
head_told head.Reduce a c e = ap head_for (three_told reduction a c e).6
head_told head.Suspend a c e = ap head_for (some_same call.Suspend c (held (blank (take 33 (drop 4 a))) _ c e).1)
head_told head.Resume a c e = ap head_for (some_same call.Resume c (held (blank (take 33 (drop 4 a))) _ c e).1)

-- a call keeps each of its numbers apart
Keeps : (ℤ → ℤ → ℤ → Call) → Type 0
Keeps f = (x y z u v w : ℤ) → f x y z ≡ f u v w → (x ≡ u) × (y ≡ v) × (z ≡ w)

same_entry : (d e : Entry) → call.Enter d ≡ call.Enter e → d ≡ e
same_entry d e p = cc

entry_keeps : (s : Side) (k : Kind) (r : Rest) → Keeps (entry s k r)
unfolding Keeps
entry_keeps s k r x y z u v w p =
    let same = same_entry _ _ p in
    (ap (λ (e : Entry). e.account) same, ap (λ (e : Entry). e.price) same, ap (λ (e : Entry). e.lots) same)

module _ (a b : List ℕ) (la : length a ≡ 37) (lb : length b ≡ 37) (c : Call) where
  three_agree : (f : ℤ → ℤ → ℤ → Call) → Keeps f → three_numbers f a ≡ Some c → three_numbers f b ≡ Some c → Agree a b 4 33
  unfolding Keeps
  three_agree f keeps p q =
      let u = three_told f a c p in
      let v = three_told f b c q in
      let same = keeps _ _ _ _ _ _ (u.6 ∙ sym v.6) in
      thrice a b la lb
      (numbers_agree a b la lb 4 11 _ _ (omega arith) u.3 v.3 same.0)
      (numbers_agree a b la lb 15 11 _ _ (omega arith) u.4 v.4 same.1)
      (numbers_agree a b la lb 26 11 _ _ (omega arith) u.5 v.5 same.2)

  fields_agree : (h : Head) → call_of h a ≡ Some c → call_of h b ≡ Some c → Agree a b 4 33
  unfolding Keeps
  fields_agree head.Open p q = three_agree opening (λ x y z u v w e. (cc, cc, cc)) p q
  fields_agree (head.Enter s k r) p q = three_agree (entry s k r) (entry_keeps s k r) p q
  fields_agree head.Withdraw p q =
      let u = held (blank (third a)) _ c p in
      let v = held (blank (third b)) _ c q in
      let m = two_told withdrawal a c u.1 in
      let n = two_told withdrawal b c v.1 in
      let e : withdrawal m.0 m.1 ≡ withdrawal n.0 n.1 = m.4 ∙ sym n.4 in
      thrice a b la lb
      (numbers_agree a b la lb 4 11 _ _ (omega arith) m.2 n.2 (cc))
      (numbers_agree a b la lb 15 11 _ _ (omega arith) m.3 n.3 (cc))
      (blanks_agree a b la lb 26 11 (omega arith) u.0 v.0)
  fields_agree head.Reduce p q = three_agree reduction (λ x y z u v w e. (cc, cc, cc)) p q
  fields_agree head.Suspend p q = blanks_agree a b la lb 4 33 (omega arith) (held (blank (take 33 (drop 4 a))) _ c p).0 (held (blank (take 33 (drop 4 b))) _ c q).0
  fields_agree head.Resume p q = blanks_agree a b la lb 4 33 (omega arith) (held (blank (take 33 (drop 4 a))) _ c p).0 (held (blank (take 33 (drop 4 b))) _ c q).0

-- a line that was read: its length, its head, and the call that its fields made of it
record Read (a : List ℕ) (c : Call) : Type 0 where
  pub long : length a ≡ 37
  pub head : Head
  pub letters : head_of a ≡ Some head
  pub fields : call_of head a ≡ Some c

pub refused : {A E : Type 0} {e : E} {x : A} → Err e ≡ Ok x → ⊥
refused e = let z : ◌≡◌ {A = ℕ} 0 1 = cc in omega arith

was_some : {A E : Type 0} (o : Option A) (e : E) (x : A) → ok_or o e ≡ Ok x → o ≡ Some x
was_some None e x p = absurd (refused p)
was_some (Some y) e x p = let same : y ≡ x = cc in ap (λ t. Some t) same

headed : (a : List ℕ) (c : Call) (o : Option Head) → length a ≡ 37 → head_of a ≡ o → call_or_refusal a o ≡ Ok c → Read a c
headed a c None l e p = absurd (refused p)
headed a c (Some h) l e p = record { long = l; head = h; letters = e; fields = was_some (call_of h a) _ c p }

was_read : (a : List ℕ) (c : Call) → read_command a ≡ Ok c → Read a c
was_read a c p =
    ⊎_elim
    (λ t. headed a c _ (eqb-true _ _ t) refl (sym (cond-true _ _ _ t) ∙ p))
    (λ t. absurd (refused (sym (cond-false _ _ _ t) ∙ p)))
    (cases_Bool (eqb (length a) 37))

pub one_line_each : OneLineEach
one_line_each a b c p q =
    let u = was_read a c p in
    let v = was_read b c q in
    let same : v.head ≡ u.head = head_told _ b c v.fields ∙ sym (head_told _ a c u.fields) in
    whole a b u.long v.long
    (letters_agree a b u.head (spelt a _ u.long u.letters) (spelt b _ v.long (v.letters ∙ ap (λ h. Some h) same)))
    (fields_agree a b u.long v.long c u.head u.fields (ap (λ h. call_of h b) (sym same) ∙ v.fields))
