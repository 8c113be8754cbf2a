-- The rows written, and what the rest of the text gives, are what the text gives.
use Rattle.std.proofs.Common.{◌≡◌, ◌+◌, ◌-◌, length, take}
use Rattle.page.specs.PhraseText.{all_lines, lines}
use Rattle.page.specs.Phrases.{AllWide, phrases}
use Rattle.page.proofs.TextLines.{prepended}
use Rattle.page.proofs.table.text.rows_of.Given as goal

abbrev pub invariant-loop-place : goal.invariant-loop-place
invariant-loop-place l = (all_lines l.text ≡ prepended (phrases (take l.place l.row-items)) (lines (28 - l.place) (l.place + 1) l.rest)) × AllWide l.row-items × (length l.row-items ≡ 28)
