-- What a service shows of lines, one after another, and what it is after them.
use Rattle.std.specs.Prelude.{◌≡◌, ℕ, ◌+◌, ◌≤◌, List, [], ◌∷◌, ◌++◌, length}
use Rattle.std.specs.declared.option.Option.{Option}
use Rattle.std.specs.Io.KnownBytes.{Appends}

module _ {State : Type 0} (shown : State → ℕ → List ℕ → List ℕ) (next : State → List ℕ → State) where
  -- the answers to lines under the numbers from this one on
  abbrev pub page : State → ℕ → List (List ℕ) → List ℕ
  page state number [] = []
  page state number (line ∷ lines) = shown state number line ++ page (next state line) (number + 1) lines

  -- the state after lines
  abbrev pub state_after : State → List (List ℕ) → State
  state_after state [] = state
  state_after state (line ∷ lines) = state_after (next state line) lines

  -- a line was answered under a number, and its answer is not yet written
  pub record Answers (before after : State) (number : ℕ) (line printed : List ℕ) : Type 0 where
    pub state : after ≡ next before line
    pub answer : printed ≡ shown before number line

  -- lines were answered under the numbers from this one on, and their page is written
  pub record Serves (before after : State) (number : ℕ) (lines : List (List ℕ)) (contents written : Option (List ℕ)) : Type 0 where
    pub state : after ≡ state_after before lines
    pub pages : Appends contents written (page before number lines)

  -- so were lines, and then perhaps one more, of whose answer a front is written and the rest is lost
  pub record ServesInPart (before after : State) (number : ℕ) (lines broken : List (List ℕ)) (contents written : Option (List ℕ)) : Type 0 where
    pub one : length broken ≤ 1
    pub state : after ≡ state_after before (lines ++ broken)
    pub front : List ℕ
    pub lost : List ℕ
    pub answer : page (state_after before lines) (number + length lines) broken ≡ front ++ lost
    pub pages : Appends contents written (page before number lines ++ front)
