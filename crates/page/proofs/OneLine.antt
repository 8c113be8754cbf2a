-- Each call has one line: what a field, a letter or a blank is read to tells its bytes. Assumes nothing.
use Rattle.std.proofs.Common.{◌≡◌, ℕ, suc, ◌+◌, ◌-◌, ◌*◌, ◌^◌, ◌<◌, ◌≤◌, Bool, true, false, cond, eqb, List, [], ◌∷◌, length, ℤ, pos, Some, None, Option, sym, refl, ap, ◌∙◌, subst, ⊎_elim, mul-le-mul_right, mul_assoc, mul_left_comm, arith}
use native.Mathlib.Nat.{pow-succ', pow-le-pow_right}
use Rattle.std.specs.Option.{option_map}
use Rattle.std.specs.Char.{is_ascii_digit}
use Rattle.std.proofs.lemmas.Bool.{cond-true, cond-false, eqb-true, eqb-false, and_parts, cases_Bool, cases_order, cond_both, leb-true}
use Rattle.std.proofs.lemmas.Int.{ints}
use Rattle.page.specs.Bytes.{blank, unblanked, digits, magnitude, minus, written, zero_alone, number}

-- a test that led to a value held
pub guarded : {A : Type 0} (t : Bool) (o : Option A) (x : A) → cond t o None ≡ Some x → (t ≡ true) × (o ≡ Some x)
guarded true o x e = (refl, e)
guarded false o x e = let z : ◌≡◌ {A = ℕ} 0 1 = cc in absurd (omega arith)

pub some_same : {A : Type 0} (x y : A) → Some x ≡ Some y → x ≡ y
some_same x y e = cc

digit_range : (b : ℕ) → is_ascii_digit b ≡ true → (48 ≤ b) × (b ≤ 57)
digit_range b t = let p = and_parts _ _ t in (leb-true 48 b p.0, leb-true b 57 p.1)

-- digits of one length that make one number are the same, and so is what stood before them
same_digits : (a b : List ℕ) (n m k : ℕ) → length a ≡ length b → digits n a ≡ Some k → digits m b ≡ Some k → (a ≡ b) × (n ≡ m)
same_digits [] [] n m k l p q = (refl, some_same n m (p ∙ sym q))
same_digits [] (y ∷ ys) n m k l p q = absurd (omega arith)
same_digits (x ∷ xs) [] n m k l p q = absurd (omega arith)
same_digits (x ∷ xs) (y ∷ ys) n m k l p q =
    let u = guarded _ _ _ p in
    let v = guarded _ _ _ q in
    let r = digit_range x u.0 in
    let s = digit_range y v.0 in
    let rest = same_digits xs ys _ _ k (omega arith) u.1 v.1 in
    let here = rest.1 in
    let head : x ≡ y = omega arith in
    ((λ i. head i ∷ rest.0 i), omega arith)

pub nothing : {A : Type 0} {x : A} → None ≡ Some x → ⊥
nothing e = let z : ◌≡◌ {A = ℕ} 0 1 = cc in omega arith

-- a test that led past a refusal failed
refused_first : {A : Type 0} (t : Bool) (o : Option A) (x : A) → cond t None o ≡ Some x → (t ≡ false) × (o ≡ Some x)
refused_first true o x e = absurd (nothing e)
refused_first false o x e = (refl, e)

ten_times : (n l : ℕ) → n * 10 ^ suc l ≡ 10 * n * 10 ^ l
ten_times n l = ap (λ p. n * p) (pow-succ' 10 l) ∙ mul_left_comm n 10 (10 ^ l) ∙ sym (mul_assoc 10 n (10 ^ l))

-- the digits after n make a number between n and n + 1 of their power of ten
bounds : (a : List ℕ) (n k : ℕ) → digits n a ≡ Some k → (n * 10 ^ length a ≤ k) × (k < (n + 1) * 10 ^ length a)
bounds [] n k p = let e = some_same n k p in (omega arith, omega arith)
bounds (x ∷ xs) n k p =
    let u = guarded _ _ _ p in
    let r = digit_range x u.0 in
    let d : x - 48 ≤ 9 = omega arith in
    let i = bounds xs (10 * n + (x - 48)) k u.1 in
    let low = ten_times n (length xs) in
    let high = ten_times (n + 1) (length xs) in
    let under = mul-le-mul_right {m = 10 * n} {n = 10 * n + (x - 48)} (10 ^ length xs) (omega arith) in
    let over = mul-le-mul_right {m = 10 * n + (x - 48) + 1} {n = 10 * (n + 1)} (10 ^ length xs) (omega arith) in
    (omega arith, omega arith)

-- digits of which the first is not 0: the number has as many digits
sized : (x k : ℕ) (xs : List ℕ) → magnitude (x ∷ xs) ≡ Some k → (10 ^ length xs ≤ k) × (k < 10 ^ suc (length xs)) × (digits 0 (x ∷ xs) ≡ Some k)
sized x k xs p =
    let u = refused_first (eqb x 48) _ _ p in
    let nonzero = eqb-false _ _ u.0 in
    let v = guarded _ _ _ u.1 in
    let r = digit_range x v.0 in
    let first : 1 ≤ 10 * 0 + (x - 48) = ⊎_elim (λ e. absurd (nonzero e)) (λ o. omega (arith, o)) (cases_order x 48) in
    let i = bounds xs (10 * 0 + (x - 48)) k v.1 in
    let under = mul-le-mul_right {m = 1} {n = 10 * 0 + (x - 48)} (10 ^ length xs) first in
    let over = mul-le-mul_right {m = 10 * 0 + (x - 48) + 1} {n = 10} (10 ^ length xs) (omega arith) in
    let power = pow-succ' 10 (length xs) in
    (omega arith, omega arith, u.1)

-- of two numbers with one value neither has fewer digits
no_shorter : (m n k : ℕ) → k < 10 ^ suc m → 10 ^ n ≤ k → m < n → ⊥
no_shorter m n k p q l = let up = pow-le-pow_right {n = 10} (omega arith) {i = suc m} {j = n} l in omega arith

same_magnitude : (a b : List ℕ) (k : ℕ) → magnitude a ≡ Some k → magnitude b ≡ Some k → a ≡ b
same_magnitude [] b k p q = absurd (nothing p)
same_magnitude (x ∷ xs) [] k p q = absurd (nothing q)
same_magnitude (x ∷ xs) (y ∷ ys) k p q =
    let u = sized x k xs p in
    let v = sized y k ys q in
    let long : length xs ≡ length ys = ⊎_elim (λ e. e) (⊎_elim (λ l. absurd (no_shorter _ _ k u.1 v.0 l)) (λ l. absurd (no_shorter _ _ k v.1 u.0 l))) (cases_order (length xs) (length ys)) in
    (same_digits (x ∷ xs) (y ∷ ys) 0 0 k (ap suc long) u.2 v.2).0

magnitude_positive : (a : List ℕ) (k : ℕ) → magnitude a ≡ Some k → 0 < k
magnitude_positive [] k p = absurd (nothing p)
magnitude_positive (x ∷ xs) k p =
    let u = sized x k xs p in
    let one = pow-le-pow_right {n = 10} (omega arith) {i = 0} {j = length xs} (omega arith) in
    omega arith

-- what a written number can be
data Says : List ℕ → ℤ → Type 0 where
  nought : {z : ℤ} → pos 0 ≡ z → Says (48 ∷ []) z
  below : {z : ℤ} (a : List ℕ) (k : ℕ) → magnitude a ≡ Some k → 0 < k → minus k ≡ z → Says (45 ∷ a) z
  above : {z : ℤ} (a : List ℕ) (k : ℕ) → magnitude a ≡ Some k → 0 < k → pos k ≡ z → Says a z

of_mapped : {A B : Type 0} (f : A → B) (o : Option A) (y : B) → option_map f o ≡ Some y → (x : A) × (o ≡ Some x) × (f x ≡ y)
of_mapped f None y e = absurd (nothing e)
of_mapped f (Some x) y e = (x, refl, some_same _ _ e)

says_zero : (bs : List ℕ) (z : ℤ) → zero_alone bs ≡ Some z → Says (48 ∷ bs) z
says_zero [] z e = nought (some_same _ _ e)
says_zero (b ∷ bs) z e = absurd (nothing e)

says : (a : List ℕ) (z : ℤ) → written a ≡ Some z → Says a z
says [] z e = absurd (nothing e)
says (b ∷ bs) z e =
    ⊎_elim
    (λ zero. subst (λ t. Says (t ∷ bs) z) (sym (eqb-true b 48 zero)) (says_zero bs z (sym (cond-true _ _ _ zero) ∙ e)))
    (λ other.
    let left = sym (cond-false _ _ _ other) ∙ e in
    ⊎_elim
    (λ sign.
    let m = of_mapped minus (magnitude bs) z (sym (cond-true _ _ _ sign) ∙ left) in
    subst (λ t. Says (t ∷ bs) z) (sym (eqb-true b 45 sign)) (below bs m.0 m.1 (magnitude_positive bs m.0 m.1) m.2))
    (λ plain.
    let m = of_mapped pos (magnitude (b ∷ bs)) z (sym (cond-false _ _ _ plain) ∙ left) in
    above (b ∷ bs) m.0 m.1 (magnitude_positive (b ∷ bs) m.0 m.1) m.2)
    (cases_Bool (eqb b 45)))
    (cases_Bool (eqb b 48))

same_said : (a b : List ℕ) (z : ℤ) → Says a z → Says b z → a ≡ b
same_said _ _ z (nought p) (nought q) = refl
same_said _ _ z (nought p) (below b k m h q) = absurd (omega (arith, ints))
same_said _ _ z (nought p) (above b k m h q) = absurd (omega (arith, ints))
same_said _ _ z (below a j l g p) (nought q) = absurd (omega (arith, ints))
same_said _ _ z (below a j l g p) (below b k m h q) =
    let e : k ≡ j = omega (arith, ints) in
    ap (λ t. 45 ∷ t) (same_magnitude a b j l (m ∙ ap (λ n. Some n) e))
same_said _ _ z (below a j l g p) (above b k m h q) = absurd (omega (arith, ints))
same_said _ _ z (above a j l g p) (nought q) = absurd (omega (arith, ints))
same_said _ _ z (above a j l g p) (below b k m h q) = absurd (omega (arith, ints))
same_said _ _ z (above a j l g p) (above b k m h q) =
    let e : k ≡ j = omega (arith, ints) in
    same_magnitude a b j l (m ∙ ap (λ n. Some n) e)

unblanked_shorter : (a : List ℕ) → length (unblanked a) ≤ length a
unblanked_shorter [] = omega arith
unblanked_shorter (x ∷ xs) =
    let less = unblanked_shorter xs in
    cond_both (eqb x 32) (unblanked xs) (x ∷ xs) (λ l. length l ≤ suc (length xs)) (λ _. omega arith) (λ _. omega arith)

-- fields of one width that are the same without their blanks are the same
same_unblanked : (a b : List ℕ) → length a ≡ length b → unblanked a ≡ unblanked b → a ≡ b
same_unblanked [] [] l e = refl
same_unblanked [] (y ∷ ys) l e = absurd (omega arith)
same_unblanked (x ∷ xs) [] l e = absurd (omega arith)
same_unblanked (x ∷ xs) (y ∷ ys) l e =
    let short = unblanked_shorter xs in
    let brief = unblanked_shorter ys in
    ⊎_elim
    (λ bx.
    ⊎_elim
    (λ by. (λ i. (eqb-true x 32 bx ∙ sym (eqb-true y 32 by)) i ∷ same_unblanked xs ys (omega arith) (sym (cond-true _ _ _ bx) ∙ e ∙ cond-true _ _ _ by) i))
    (λ ny. let long = ap length (sym (cond-true _ _ _ bx) ∙ e ∙ cond-false (eqb y 32) (unblanked ys) (y ∷ ys) ny) in absurd (omega arith))
    (cases_Bool (eqb y 32)))
    (λ nx.
    ⊎_elim
    (λ by. let long = ap length (sym (cond-false (eqb x 32) (unblanked xs) (x ∷ xs) nx) ∙ e ∙ cond-true _ _ _ by) in absurd (omega arith))
    (λ ny. sym (cond-false (eqb x 32) (unblanked xs) (x ∷ xs) nx) ∙ e ∙ cond-false (eqb y 32) (unblanked ys) (y ∷ ys) ny)
    (cases_Bool (eqb y 32)))
    (cases_Bool (eqb x 32))

-- a number of a field tells the field
pub same_field : (a b : List ℕ) (z : ℤ) → length a ≡ length b → number a ≡ Some z → number b ≡ Some z → a ≡ b
same_field a b z l p q = same_unblanked a b l (same_said _ _ z (says (unblanked a) z p) (says (unblanked b) z q))

pub same_blank : (a b : List ℕ) → length a ≡ length b → blank a ≡ true → blank b ≡ true → a ≡ b
same_blank [] [] l p q = refl
same_blank [] (y ∷ ys) l p q = absurd (omega arith)
same_blank (x ∷ xs) [] l p q = absurd (omega arith)
same_blank (x ∷ xs) (y ∷ ys) l p q =
    let u = and_parts _ _ p in
    let v = and_parts _ _ q in
    (λ i. (eqb-true x 32 u.0 ∙ sym (eqb-true y 32 v.0)) i ∷ same_blank xs ys (omega arith) u.1 v.1 i)
