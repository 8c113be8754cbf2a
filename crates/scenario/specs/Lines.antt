-- The centre's lines as a scenario shows them. Assumes nothing.
use Rattle.std.specs.Prelude.{ℕ, List, [], ◌∷◌, ℤ, Some, None, Option}
use Rattle.std.specs.List.{flat_map}
use Rattle.clearing.specs.Centre.{Lines}
use Rattle.clearing.specs.declared.line.Line.{Line}
use Rattle.scenario.specs.Items.{row_text}
use Rattle.scenario.specs.Shown.{listed}
use Rattle.scenario.specs.declared.state.Row.{Row}

abbrev pub row : ℤ → Line → Row
row a l = record { account = a; line = l }

-- the row of an account, where it has a line
abbrev pub row_of : ℤ → Option Line → List Row
row_of a None = []
row_of a (Some l) = row a l ∷ []

-- the rows of the accounts that have a line
abbrev pub rows_of : Lines → List ℤ → List Row
rows_of L accounts = flat_map (λ a. row_of a (L a)) accounts

abbrev pub lines_text : Lines → List ℤ → List ℕ
lines_text L accounts = listed row_text (rows_of L accounts)
