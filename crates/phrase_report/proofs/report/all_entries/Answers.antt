use Rattle.std.proofs.Common.{add-one}
use Rattle.std.proofs.KnownBytes.{Appends-trans}
use Rattle.phrase_report.specs.Report.{first_entries}
use Rattle.phrase_report.proofs.report.all_entries.Goals as goal

pub loop-place-preserved : goal.loop-place-preserved
unfolding first_entries
loop-place-preserved g c = rw add-one (Appends-trans _ _ _ _ _ c.loop-place.invariant c.in_ok-entry.ensures)
