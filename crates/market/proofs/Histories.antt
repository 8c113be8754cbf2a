-- What a history and a register tell when they grow by one event or trade. Assumes nothing.
use Rattle.std.proofs.Common.{◌≡◌, ℕ, suc, ◌+◌, ◌<◌, Bool, true, false, cond, eqb, List, [], ◌∷◌, ◌++◌, ℤ, Some, None, Option, sym, refl, ap, ◌∙◌, append_assoc, append-nil, arith}
use Rattle.std.proofs.lemmas.Bool.{cond-false, ne_eqb}
use Rattle.clearing.specs.declared.side.Side.{Side}
use Rattle.market.specs.Calls.{or_else}
use Rattle.market.specs.Law.{Event, Numbered, deviation_after, entered, lessened, nothing, numbered, off_after, off_by, opened, total}

-- a sum over two lists, one after the other
pub total-append : {X : Type 0} (f : X → ℕ) (xs ys : List X) → total f (xs ++ ys) ≡ total f xs + total f ys
total-append f [] ys = omega arith
total-append f (x ∷ xs) ys = let e = total-append f xs ys in omega arith

-- a sum with one item more
pub total-push : {X : Type 0} (f : X → ℕ) (xs : List X) (x : X) → total f (xs ++ x ∷ []) ≡ total f xs + f x
total-push f xs x = let e = total-append f xs (x ∷ []) in omega arith

or_else_cond : {X : Type 0} (b : Bool) (x : X) (o p : Option X) → or_else (cond b (Some x) o) p ≡ cond b (Some x) (or_else o p)
or_else_cond true x o p = refl
or_else_cond false x o p = refl

pub or_else_none : {X : Type 0} (o : Option X) → or_else o None ≡ o
or_else_none (Some x) = refl
or_else_none None = refl

-- an entry is found in the first of two histories that has it
pub numbered-append : (E F : List Event) (k : ℕ) → numbered (E ++ F) k ≡ or_else (numbered E k) (numbered F k)
numbered-append [] F k = refl
numbered-append (opened d ∷ E) F k = numbered-append E F k
numbered-append (entered e f ∷ E) F k =
    ap (cond (eqb f.number k) _) (numbered-append E F k) ∙ sym (or_else_cond (eqb f.number k) _ (numbered E k) (numbered F k))
numbered-append (lessened f ∷ E) F k = numbered-append E F k
numbered-append (nothing ∷ E) F k = numbered-append E F k

-- the deviation after two histories, one after the other
pub deviation-append : (d : ℕ) (E F : List Event) → deviation_after d (E ++ F) ≡ deviation_after (deviation_after d E) F
deviation-append d [] F = refl
deviation-append d (opened d' ∷ E) F = deviation-append d' E F
deviation-append d (entered e f ∷ E) F = deviation-append d E F
deviation-append d (lessened f ∷ E) F = deviation-append d E F
deviation-append d (nothing ∷ E) F = deviation-append d E F

-- lots taken off, with one event more
pub off-push : (a : ℤ) (s : Side) (p E : List Event) (x : Event) → off_after a s p (E ++ x ∷ []) ≡ off_after a s p E + off_by a s (p ++ E) x
off-push a s p [] x = let e = ap (λ l. off_by a s l x) (append-nil p) in omega arith
off-push a s p (y ∷ E) x =
    let e = off-push a s (p ++ y ∷ []) E x in
    let f = ap (λ l. off_by a s l x) (append_assoc p (y ∷ []) E) in
    omega arith

-- how many entries a history has
abbrev pub entries : List Event → ℕ
entries [] = 0
entries (opened d ∷ E) = entries E
entries (entered e f ∷ E) = suc (entries E)
entries (lessened f ∷ E) = entries E
entries (nothing ∷ E) = entries E

pub entries_append : (E F : List Event) → entries (E ++ F) ≡ entries E + entries F
entries_append [] F = omega arith
entries_append (opened d ∷ E) F = entries_append E F
entries_append (entered e f ∷ E) F = let i = entries_append E F in omega arith
entries_append (lessened f ∷ E) F = entries_append E F
entries_append (nothing ∷ E) F = entries_append E F

-- entries stay numbered one after another with events whose entries go on so
pub numbered_on : (n m : ℕ) (E F : List Event) → m ≡ n + entries E → Numbered n E → Numbered m F → Numbered n (E ++ F)
numbered_on n m [] F same e f = let i : m ≡ n = omega arith in rw i at f
numbered_on n m (opened d ∷ E) F same e f = numbered_on n m E F same e f
numbered_on n m (entered y g ∷ E) F same e f = (e.0, numbered_on (suc n) m E F (omega arith) e.1 f)
numbered_on n m (lessened g ∷ E) F same e f = numbered_on n m E F same e f
numbered_on n m (nothing ∷ E) F same e f = numbered_on n m E F same e f

-- no entry has a number that was not given yet
pub not_numbered : (n k : ℕ) (E : List Event) → Numbered n E → n + entries E < k → numbered E k ≡ None
not_numbered n k [] e h = refl
not_numbered n k (opened d ∷ E) e h = not_numbered n k E e h
not_numbered n k (entered y f ∷ E) e h =
    let i = e.0 in
    cond-false (eqb f.number k) _ _ (ne_eqb f.number k (λ j. omega arith)) ∙ not_numbered (suc n) k E e.1 (omega arith)
not_numbered n k (lessened f ∷ E) e h = not_numbered n k E e h
not_numbered n k (nothing ∷ E) e h = not_numbered n k E e h
