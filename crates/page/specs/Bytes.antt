-- What a page's bytes spell. Assumes nothing.
use Rattle.std.specs.Prelude.{ℕ, ◌+◌, ◌-◌, ◌*◌, Bool, true, cond, ◌&&◌, List, [], ◌∷◌, ℤ, pos, neg_ℤ, Some, None, Option, ◌==◌}
use Rattle.std.specs.Option.{option_map}
use Rattle.std.specs.Char.{is_ascii_digit}

-- nothing but blanks
abbrev pub blank : List ℕ → Bool
blank [] = true
blank (b ∷ bs) = b == 32 && blank bs

-- the bytes from the first that is no blank on
abbrev pub unblanked : List ℕ → List ℕ
unblanked [] = []
unblanked (b ∷ bs) = cond (b == 32) (unblanked bs) (b ∷ bs)

-- digits up to the end, after those that make n
abbrev pub digits : ℕ → List ℕ → Option ℕ
digits n [] = Some n
digits n (b ∷ bs) = cond (is_ascii_digit b) (digits (10 * n + (b - 48)) bs) None

-- digits of which the first is not 0
abbrev pub magnitude : List ℕ → Option ℕ
magnitude [] = None
magnitude (b ∷ bs) = cond (b == 48) None (digits 0 (b ∷ bs))

abbrev pub minus : ℕ → ℤ
minus n = neg_ℤ (pos n)

-- a 0 alone
abbrev pub zero_alone : List ℕ → Option ℤ
zero_alone [] = Some (pos 0)
zero_alone (b ∷ bs) = None

-- a number as it is written: 0, or digits, or a minus sign and then digits
abbrev pub written : List ℕ → Option ℤ
written [] = None
written (b ∷ bs) = cond (b == 48) (zero_alone bs) (cond (b == 45) (option_map minus (magnitude bs)) (option_map pos (magnitude (b ∷ bs))))

-- the number in a field: blanks, none or more, and then the number up to its end
abbrev pub number : List ℕ → Option ℤ
number bs = written (unblanked bs)
