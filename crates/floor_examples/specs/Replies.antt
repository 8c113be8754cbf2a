-- A reply in numbers, to be held beside the one expected. Assumes nothing.
use Rattle.std.specs.Prelude.{ℕ, Bool, true, false, ◌&&◌, List, [], ◌∷◌, ◌++◌, Some, None, Ok, Err, Option, ◌==◌}
use Rattle.clearing.specs.Cause.{cause_number}
use Rattle.clearing.specs.declared.cause.Denial.{Denial}
use Rattle.dealing.specs.Replies.{Reply, denial, figures, reply_number}
use Rattle.dealing.specs.declared.outcome.Figures.{Figures}

-- cause and depth, both 0 where the centre said nothing
abbrev pub with_denial : Option Denial → List ℕ
with_denial None = 0 ∷ 0 ∷ []
with_denial (Some d) = cause_number d.cause ∷ d.depth ∷ []

-- the order number and its lots
abbrev pub with_figures : Figures → List ℕ
with_figures f = f.number ∷ f.traded ∷ f.resting ∷ f.taken_off ∷ []

-- a reply as seven numbers: reply, cause, depth, order number, traded, resting, taken off
abbrev pub seven : Reply → List ℕ
seven (Ok o) = reply_number (Ok o) ∷ 0 ∷ 0 ∷ with_figures (figures o)
seven (Err e) = reply_number (Err e) ∷ with_denial (denial e) ++ (0 ∷ 0 ∷ 0 ∷ 0 ∷ [])

-- an outcome with its order number, lots traded, resting and taken off
abbrev pub ok : ℕ → ℕ → ℕ → ℕ → ℕ → List ℕ
ok outcome number traded resting off = outcome ∷ 0 ∷ 0 ∷ number ∷ traded ∷ resting ∷ off ∷ []

-- an outcome without them
abbrev pub just : ℕ → List ℕ
just outcome = ok outcome 0 0 0 0

-- a refusal from 1 to 13
abbrev pub refusal : ℕ → List ℕ
refusal number = ok number 0 0 0 0

-- refusal 14, with its cause and depth
abbrev pub centre_says : ℕ → ℕ → List ℕ
centre_says cause depth = 14 ∷ cause ∷ depth ∷ 0 ∷ 0 ∷ 0 ∷ 0 ∷ []

-- two lists of numbers are equal
abbrev pub same : List ℕ → List ℕ → Bool
same [] [] = true
same [] (y ∷ ys) = false
same (x ∷ xs) [] = false
same (x ∷ xs) (y ∷ ys) = x == y && same xs ys
