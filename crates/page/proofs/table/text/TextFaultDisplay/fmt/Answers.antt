use Rattle.std.proofs.Common.{◌++◌, codes, sym, ap, ◌∙◌, subst}
use Rattle.std.specs.Fmt.{HasWritten, decimal}
use Rattle.page.specs.Messages.{fault_text}
use Rattle.page.proofs.table.text.TextFaultDisplay.fmt.Goals as goal

pub returns-in-Shared-clause-writes : goal.returns-in-Shared-clause-writes
returns-in-Shared-clause-writes g c = λ plain ok.
    subst (λ bs. HasWritten g.W.Write.write_str_gives c.args.f.now bs c.write-in-Shared.new.self)
    ((λ i. codes "outcomes " ++ (decimal (c.owner_at-one.ensures i) ++ (codes " and " ++ (decimal (c.owner_at-other.ensures i) ++ codes " share one phrase")))) ∙ sym (ap fault_text c.in-Shared.is))
    (c.write-in-Shared.ensures.writes plain ok)
