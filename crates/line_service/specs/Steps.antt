-- What each step comes to: a line begun, answered, and written.
use Rattle.std.specs.Prelude.{◌≡◌, ℕ, ◌<◌, ◌≤◌, List, [], ◌∷◌, OnSome, length}
use Rattle.std.specs.declared.option.Option.{Option}
use Rattle.std.specs.Io.KnownBytes.{Consumes, IsAtEnd, Keeps}
use Rattle.line_service.specs.Lines.{ConsumesLines}
use Rattle.line_service.specs.Page.{Answers, Serves}
use Rattle.line_service.specs.Pieces.{Holds, IsWithinLine}
use Rattle.line_service.specs.declared.serve.Begun.{Begun}
use Rattle.line_service.specs.declared.serve.Begun.TheVariants.{Whole, Part, Nothing}
use Rattle.line_service.specs.declared.serve.Next.{Next}
use Rattle.line_service.specs.declared.serve.Next.TheVariants.{Line, LastLine, NoLine}
use Rattle.line_service.specs.declared.serve.Step.{Step}
use Rattle.line_service.specs.declared.serve.Step.TheVariants.{More, Done}

-- no known byte was left, and the state stays
pub record Ends {State : Type 0} (before after : State) (known rest : Option (List ℕ)) : Type 0 where
  pub same : Keeps known rest
  pub end : OnSome known (IsAtEnd rest)
  pub state : after ≡ before

-- a front of a line was read, and is kept; the state stays
pub record Begins {State : Type 0} (before after : State) (known rest : Option (List ℕ)) (kept : List ℕ) (n : ℕ) : Type 0 where
  pub fits : n ≤ length kept
  pub bytes : List ℕ
  pub within : IsWithinLine bytes
  pub some : 0 < length bytes
  pub read : Consumes known rest bytes
  pub held : Holds kept n bytes
  pub state : after ≡ before

module _ {State : Type 0} (shown : State → ℕ → List ℕ → List ℕ) (next : State → List ℕ → State) where
  -- a line was read whole, and answered
  pub record AnswersLine (before after : State) (number : ℕ) (known rest : Option (List ℕ)) (printed : List ℕ) : Type 0 where
    pub line : List ℕ
    pub read : ConsumesLines known rest (line ∷ [])
    pub answers : Answers shown next before after number line printed

  -- what a look at the reader's buffer comes to
  abbrev pub LooksAt : State → State → ℕ → Option (List ℕ) → Option (List ℕ) → List ℕ → List ℕ → Begun → Type 0
  LooksAt before after number known rest printed kept (Whole _) = AnswersLine before after number known rest printed
  LooksAt before after number known rest printed kept (Part n) = Begins before after known rest kept n
  LooksAt before after number known rest printed kept Nothing = Ends before after known rest

  -- what the next line comes to, before its answer is written
  abbrev pub AnswersNext : State → State → ℕ → Option (List ℕ) → Option (List ℕ) → List ℕ → Next → Type 0
  AnswersNext before after number known rest printed (Line _) = AnswersLine before after number known rest printed
  AnswersNext before after number known rest printed LastLine = AnswersLine before after number known rest printed × OnSome known (IsAtEnd rest)
  AnswersNext before after number known rest printed NoLine = Ends before after known rest

  -- lines were read, answered under the numbers from this one on, and written
  pub record ServesLines (before after : State) (number : ℕ) (known rest contents written : Option (List ℕ)) (lines : List (List ℕ)) : Type 0 where
    pub read : ConsumesLines known rest lines
    pub serves : Serves shown next before after number lines contents written

  -- what the next line comes to: it is answered, or it is the last, if there is one
  abbrev pub ServesNext : State → State → ℕ → Option (List ℕ) → Option (List ℕ) → Option (List ℕ) → Option (List ℕ) → Step → Type 0
  ServesNext before after number known rest contents written (More _) =
      (line : List ℕ) × ServesLines before after number known rest contents written (line ∷ [])
  ServesNext before after number known rest contents written Done =
      (lines : List (List ℕ)) × (length lines ≤ 1) × OnSome known (IsAtEnd rest) × ServesLines before after number known rest contents written lines
