-- A line that comes in pieces, and what is kept of it.
use Rattle.std.specs.Prelude.{◌≡◌, ◌≢◌, ℕ, ◌≤◌, Bool, true, false, List, [], ◌∷◌, ◌++◌, All, length, take}
use Rattle.std.specs.declared.option.Option.{Option}
use Rattle.std.specs.Io.KnownBytes.{Appends, Consumes}
use Rattle.line_service.specs.declared.error.ServeError.{ServeError}
use Rattle.line_service.specs.declared.error.ServeError.TheVariants.{Reading, Writing, TooManyLines}
use Rattle.line_service.specs.declared.line.Piece.{Piece}

-- no byte of these ends a line
abbrev pub IsWithinLine : List ℕ → Type 0
IsWithinLine bytes = All (λ byte. byte ≢ 10) bytes

-- the byte 10 of a line, if it has come
abbrev pub end_of : Bool → List ℕ
end_of true = 10 ∷ []
end_of false = []

-- the first n bytes that are kept are those of the line, as far as there is room
pub record Holds (kept : List ℕ) (n : ℕ) (line : List ℕ) : Type 0 where
  pub within : n ≤ length kept
  pub bytes : take n kept ≡ take (length kept) line

-- whatever line was kept, it is kept with these bytes behind it
abbrev pub HoldsMore : List ℕ → ℕ → List ℕ → ℕ → List ℕ → Type 0
HoldsMore kept n new m bytes = (line : List ℕ) → Holds kept n line → Holds new m (line ++ bytes)

-- a piece of a line was read, with the byte 10 if it came, and is kept
pub record TakesPiece (known rest : Option (List ℕ)) (kept : List ℕ) (n : ℕ) (new : List ℕ) (piece : Piece) : Type 0 where
  pub fits : piece.len ≤ length new
  pub bytes : List ℕ
  pub within : IsWithinLine bytes
  pub read : Consumes known rest (bytes ++ end_of piece.ended)
  pub held : HoldsMore kept n new piece.len bytes

-- what an error of writing leaves: a front of the bytes is written, and the rest is lost
abbrev pub WritesFront : Option (List ℕ) → Option (List ℕ) → List ℕ → ServeError → Type 0
WritesFront contents written bytes (Reading _) = ⊥
WritesFront contents written bytes (Writing _) = (front : List ℕ) × (lost : List ℕ) × (bytes ≡ front ++ lost) × Appends contents written front
WritesFront contents written bytes TooManyLines = ⊥
