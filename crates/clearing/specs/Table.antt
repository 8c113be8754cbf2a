-- Tables of at most 32 rows, one for an account. Assumes nothing.
use Rattle.std.specs.Prelude.{Bool, cond, not, ◌&&◌, List, length, ℤ, is_some, Some, Option, nat_lt}
use Rattle.std.specs.Option.{option_map}
use Rattle.ordered.specs.Key.{eq_z}
use Rattle.ordered.specs.Row.{at_key}

-- what a table shows of each account that has a row: f of the row
abbrev pub seen : {X Y : Type 0} → (X → ℤ) → (X → Y) → List X → ℤ → Option Y
seen key f xs = λ a. option_map f (at_key key xs a)

-- a place is free, and the account has no row yet
abbrev pub has_place : {X Y : Type 0} → List X → Option Y → Bool
has_place xs o = nat_lt (length xs) 32 && not (is_some o)

-- x for one account, and what f says for the others
abbrev pub with_entry : {X : Type 0} → (ℤ → Option X) → ℤ → X → ℤ → Option X
with_entry f a x = λ b. cond (eq_z a b) (Some x) (f b)
