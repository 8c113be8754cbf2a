-- What is done where a service over lines stops before its input ends.
use Rattle.std.specs.Prelude.{◌≡◌, ℕ, List, ◌++◌, length}
use Rattle.std.specs.declared.option.Option.{Option}
use Rattle.line_service.specs.Lines.{AreFirstLines, ConsumesLines, HasMoreLines}
use Rattle.line_service.specs.Page.{Serves, ServesInPart}
use Rattle.line_service.specs.declared.error.ServeError.{ServeError}
use Rattle.line_service.specs.declared.error.ServeError.TheVariants.{Reading, Writing, TooManyLines}

module _ {State : Type 0} (shown : State → ℕ → List ℕ → List ℕ) (next : State → List ℕ → State) where
  -- what an error of reading or of writing leaves
  abbrev pub StopsEarly : State → State → ℕ → Option (List ℕ) → Option (List ℕ) → Option (List ℕ) → ServeError → Type 0
  StopsEarly before after number known contents written (Reading _) =
      (lines : List (List ℕ)) × AreFirstLines known lines × Serves shown next before after number lines contents written
  StopsEarly before after number known contents written (Writing _) =
      (lines : List (List ℕ)) × (broken : List (List ℕ)) × AreFirstLines known (lines ++ broken)
      × ServesInPart shown next before after number lines broken contents written
  StopsEarly before after number known contents written TooManyLines = ⊥

  -- what an error of the whole service leaves; after the last number, what stands behind its line is not read
  abbrev pub Stops : ℕ → State → State → Option (List ℕ) → Option (List ℕ) → Option (List ℕ) → Option (List ℕ) → ServeError → Type 0
  Stops last before after known rest contents written (Reading e) = StopsEarly before after 1 known contents written (Reading e)
  Stops last before after known rest contents written (Writing e) = StopsEarly before after 1 known contents written (Writing e)
  Stops last before after known rest contents written TooManyLines =
      (lines : List (List ℕ)) × (length lines ≡ last) × HasMoreLines known last × ConsumesLines known rest lines
      × Serves shown next before after 1 lines contents written
