-- What entries set, one after another, is what they say of each number. Assumes nothing.
use Rattle.std.proofs.Common.{◌≡◌, ℕ, Bool, true, false, cond, List, [], ◌∷◌, ℤ, Some, None, Option, option_map, refl, ◌∙◌}
use Rattle.clearing.specs.Centre.{Lines}
use Rattle.clearing.specs.Line.{empty}
use Rattle.clearing.specs.Table.{with_entry}
use Rattle.clearing.specs.declared.line.Line.{Line}
use Rattle.house.specs.Built.{or_else, value_at, with_lines, with_values}
use Rattle.house.specs.House.{amount}
use Rattle.house.specs.declared.settings.Entry.{Entry}
use Rattle.ordered.specs.Key.{eq_z}

over : (x : Option ℕ) (b : Bool) (v : ℕ) (o : Option ℕ) → or_else x (cond b (Some v) o) ≡ or_else (or_else x (cond b (Some v) None)) o
over None true v o = refl
over None false v o = refl
over (Some y) b v o = refl

with_values_at : (es : List Entry) (f : ℤ → Option ℕ) (a : ℤ) → with_values es f a ≡ or_else (value_at es a) (f a)
with_values_at [] f a = refl
with_values_at (e ∷ es) f a =
    with_values_at es (with_entry f e.number (amount e.value)) a ∙ over (value_at es a) (eq_z e.number a) (amount e.value) (f a)

or_none : {A : Type 0} (x : Option A) → or_else x None ≡ x
or_none None = refl
or_none (Some y) = refl

pub values_said : (es : List Entry) (a : ℤ) → with_values es (λ b. None) a ≡ value_at es a
values_said es a = with_values_at es (λ b. None) a ∙ or_none (value_at es a)

abbrev opened : Option ℕ → Option Line
opened o = option_map (λ n. empty) o

line_over : (x : Option ℕ) (b : Bool) (v : ℕ) (o : Option Line) → or_else (opened x) (cond b (Some empty) o) ≡ or_else (opened (or_else x (cond b (Some v) None))) o
line_over None true v o = refl
line_over None false v o = refl
line_over (Some y) b v o = refl

with_lines_at : (es : List Entry) (L : Lines) (a : ℤ) → with_lines es L a ≡ or_else (opened (value_at es a)) (L a)
with_lines_at [] L a = refl
with_lines_at (e ∷ es) L a =
    with_lines_at es (with_entry L e.number empty) a ∙ line_over (value_at es a) (eq_z e.number a) (amount e.value) (L a)

pub lines_said : (es : List Entry) (a : ℤ) → with_lines es (λ b. None) a ≡ option_map (λ n. empty) (value_at es a)
lines_said es a = with_lines_at es (λ b. None) a ∙ or_none (opened (value_at es a))
