use Rattle.phrase_report.proofs.Written.{appends_then}
use Rattle.phrase_report.proofs.report.explain.Goals as goal

pub returns-in_ok-entry-in-Shared : goal.returns-in_ok-entry-in-Shared
returns-in_ok-entry-in-Shared g c =
    let one = rw c.english-table.ensures at c.in_ok-entry-in-Shared.ensures in
    let other = rw c.english-table.ensures at c.entry-in-Shared-2.ensures in
    rw c.in-Shared.is (appends_then _ _ _ _ _ _ c.in_ok-write_all-in-Shared.ensures.bytes (appends_then _ _ _ _ _ _ one other))
