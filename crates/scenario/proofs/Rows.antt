-- One account more among the rows. Assumes nothing.
use Rattle.std.proofs.Common.{◌≡◌, ℕ, ◌+◌, List, [], ◌∷◌, ◌++◌, take, ℤ, Some, Option, ap, ap₂, sym, ◌∙◌}
use Rattle.std.specs.List.{slice_get}
use Rattle.std.proofs.lemmas.Grind.{flat_map-append}
use Rattle.std.proofs.lemmas.List.{append-nil, take_more}
use Rattle.std.proofs.lemmas.Option.{get_or_from_slice_get, slice_get_within}
use Rattle.clearing.specs.Centre.{Lines}
use Rattle.clearing.specs.declared.line.Line.{Line}
use Rattle.scenario.specs.Lines.{row_of, rows_of}
use Rattle.scenario.specs.declared.state.Row.{Row}

module _ (L : Lines) (accounts : List ℤ) (i : ℕ) (a : ℤ) where
  more : slice_get accounts i ≡ Some a → rows_of L (take (i + 1) accounts) ≡ rows_of L (take i accounts) ++ row_of a (L a)
  more there =
      ap (rows_of L) (take_more accounts i a (slice_get_within accounts i a there) ∙ ap (λ x. take i accounts ++ x ∷ []) (get_or_from_slice_get accounts i a a there))
      ∙ flat_map-append _ (take i accounts) (a ∷ [])
      ∙ ap (λ rows. rows_of L (take i accounts) ++ rows) (append-nil (row_of a (L a)))

  -- the rows so far with that of the next account
  pub rows_more : (o : Option Line) (rows : List Row) → rows ≡ rows_of L (take i accounts) → o ≡ L a → slice_get accounts i ≡ Some a → rows ++ row_of a o ≡ rows_of L (take (i + 1) accounts)
  rows_more o rows so_far line there = ap₂ (λ xs p. xs ++ row_of a p) so_far line ∙ sym (more there)
