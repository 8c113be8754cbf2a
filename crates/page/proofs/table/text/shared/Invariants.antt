-- No row passed stands again.
use Rattle.std.proofs.Common.{◌≡◌, drop}
use Rattle.page.specs.PhraseText.{shared_pair}
use Rattle.page.specs.Phrases.{phrases}
use Rattle.page.proofs.table.text.shared.Given as goal

abbrev pub invariant-loop-place : goal.invariant-loop-place
invariant-loop-place l = shared_pair l.place (drop l.place (phrases l.rows)) ≡ shared_pair 0 (phrases l.rows)
