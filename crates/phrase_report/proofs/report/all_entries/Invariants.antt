use Rattle.std.specs.Io.KnownBytes.{Appends}
use Rattle.page.specs.Phrases.{phrases}
use Rattle.phrase_report.specs.Report.{first_entries}
use Rattle.phrase_report.proofs.report.all_entries.Given as goal

-- the lines of the places so far
abbrev pub invariant-loop-place : goal.invariant-loop-place
invariant-loop-place g l = Appends (g.W.Write.contents l.initial.out) (g.W.Write.contents l.out) (first_entries (phrases l.table.rows) l.place)
