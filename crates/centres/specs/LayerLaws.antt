-- Layers of caps say what caps one over the other say, and say no as a centre may. Assumes nothing.
use Rattle.std.specs.Prelude.{◌≡◌, ℕ, ◌+◌, ◌≤◌, Bool, true, false, cond, List, [], ◌∷◌, ◌++◌, ℤ, Some, None, Option, refl}
use Rattle.std.proofs.Common.{sym, ap, subst, ◌∙◌, rules}
use Rattle.std.proofs.Math.Nat.{min-le_right}
use Rattle.std.proofs.Math.Path.{fun_ext}
use Rattle.clearing.specs.Cause.{denied}
use Rattle.clearing.specs.Centre.{Denies, Lines, Own}
use Rattle.clearing.specs.declared.centre.Centre.{Ghosts as CentreOf}
use Rattle.clearing.specs.declared.cause.Cause.TheVariants.{OverFirmCap}
use Rattle.clearing.specs.declared.cause.Denial.{Denial}
use Rattle.centres.specs.Firms.{cap_no, cap_own, first_no, layer_over}
use Rattle.centres.specs.Layers.{caps_no, depth_over, layers_own}
use Rattle.centres.specs.declared.firm_cap.FirmCap.{FirmCap}
use Rattle.centres.specs.declared.firm_table.FirmTable.{FirmTable}
use Rattle.centres.specs.declared.layers.Layers.{Layers}

first_no_none : (x : Option Denial) → first_no x None ≡ x
first_no_none None = refl
first_no_none (Some d) = refl

first_no_first : (x y z : Option Denial) → first_no x (first_no y z) ≡ first_no (first_no x y) z
first_no_first None y z = refl
first_no_first (Some d) y z = refl

-- a state x of one centre and a state y of another have the same lines, the same own rule and the same depth
abbrev pub SameCentre : {X Y : Type 0} → CentreOf X → X → CentreOf Y → Y → Type 0
SameCentre p x q y = (p.lines x ≡ q.lines y) × (p.own x ≡ q.own y) × (p.depth x ≡ q.depth y)

-- with the table t over all its layers, s becomes u
abbrev pub OneMore : {C : Type 0} → Layers C → FirmTable → Layers C → Type 0
OneMore s t u = (u.tables.items ≡ s.tables.items ++ t ∷ []) × (u.below ≡ s.below)

-- a firm cap over those layers
abbrev pub capped : {C : Type 0} → Layers C → FirmTable → FirmCap (Layers C)
capped s t = record { below = s; firms = t }

-- a cap more is the last that is asked, one deeper than the others
pub caps_no-more : (ts : List FirmTable) (t : FirmTable) (d : ℕ) (L : Lines) (a : ℤ) (n : ℕ) → caps_no (ts ++ t ∷ []) d L a n ≡ first_no (caps_no ts d L a n) (cap_no L t.members t.caps (layer_over (depth_over ts d)) a n)
caps_no-more [] t d L a n = first_no_none (cap_no L t.members t.caps (layer_over d) a n)
caps_no-more (x ∷ ts) t d L a n =
    ap (first_no (cap_no L x.members x.caps (layer_over d) a n)) (caps_no-more ts t (layer_over d) L a n) ∙ first_no_first (cap_no L x.members x.caps (layer_over d) a n) _ _

pub depth_over-more : (ts : List FirmTable) (t : FirmTable) (d : ℕ) → depth_over (ts ++ t ∷ []) d ≡ layer_over (depth_over ts d)
depth_over-more [] t d = refl
depth_over-more (x ∷ ts) t d = depth_over-more ts t (layer_over d)

-- with no layer, an own rule alone is asked
pub layers_own-none : (own : Own) (d : ℕ) → layers_own own d [] ≡ own
layers_own-none own d = fun_ext (λ L. fun_ext (λ a. fun_ext (λ s. fun_ext (λ n. first_no_none (own L a s n)))))

-- layers with one more say what a firm cap over them says
pub layers_own-more : (own : Own) (ts : List FirmTable) (t : FirmTable) (d : ℕ) → layers_own own d (ts ++ t ∷ []) ≡ cap_own (layers_own own d ts) t.members t.caps (layer_over (depth_over ts d))
layers_own-more own ts t d =
    fun_ext (λ L. fun_ext (λ a. fun_ext (λ s. fun_ext (λ n. ap (first_no (own L a s n)) (caps_no-more ts t d L a n) ∙ first_no_first (own L a s n) _ _))))

-- no depth is above 99
pub shallow_over : (ts : List FirmTable) (d : ℕ) → d ≤ 99 → depth_over ts d ≤ 99
shallow_over [] d e = e
shallow_over (t ∷ ts) d e = shallow_over ts (layer_over d) (min-le_right (d + 1) 99)

denies_cap : (b : Bool) (d : ℕ) (x : Option Denial) → d ≤ 99 → Denies d x → Denies (layer_over d) (first_no x (cond b (Some (denied OverFirmCap (layer_over d))) None))
denies_cap true d None e denies = search rules
denies_cap true d (Some y) e denies = search rules
denies_cap false d None e denies = search rules
denies_cap false d (Some y) e denies = search rules

-- over an own rule that says no by cause 3 or 4 as it may, the caps do too
pub denies_over : (ts : List FirmTable) (d : ℕ) (L : Lines) (a : ℤ) (n : ℕ) (x : Option Denial) → d ≤ 99 → Denies d x → Denies (depth_over ts d) (first_no x (caps_no ts d L a n))
denies_over [] d L a n x e denies = subst (Denies d) (sym (first_no_none x)) denies
denies_over (t ∷ ts) d L a n x e denies =
    subst (Denies (depth_over ts (layer_over d))) (sym (first_no_first x (cap_no L t.members t.caps (layer_over d) a n) _)) (denies_over ts (layer_over d) L a n _ (min-le_right (d + 1) 99) (denies_cap _ d x e denies))
