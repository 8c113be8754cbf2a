-- Nothing but blanks was left out.
use Rattle.std.proofs.Common.{◌≡◌, length}
use Rattle.page.specs.Phrases.{trimmed}
use Rattle.page.proofs.table.PhraseTable.phrase.Given as goal

abbrev pub invariant-loop-phrase : goal.invariant-loop-phrase
invariant-loop-phrase l = trimmed l.phrase ≡ trimmed l.initial.phrase

abbrev pub decreases-loop-phrase : goal.decreases-loop-phrase
decreases-loop-phrase l = length l.phrase
