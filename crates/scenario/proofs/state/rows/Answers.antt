use Rattle.std.proofs.Common.{◌≡◌, ◌++◌, rules, sym, ◌∙◌}
use Rattle.scenario.specs.Lines.{row_of}
use Rattle.scenario.proofs.Rows.{rows_more}
use Rattle.scenario.proofs.state.rows.Goals as goal

pub loop-at-preserved : goal.loop-at-preserved
loop-at-preserved g c =
    let centre = c.args.centre.now in
    let line : c.line.result ≡ g.C.Centre.lines centre c.in-Some.account = search rules in
    let added : c.add_row.new.rows.items ≡ c.loop-at.rows.items ++ row_of c.in-Some.account c.line.result = search rules in
    added ∙ rows_more (g.C.Centre.lines centre) (g.C.HouseFloor.accounts centre) c.loop-at.at c.in-Some.account c.line.result c.loop-at.rows.items c.loop-at.invariant line (sym c.account_at.ensures ∙ c.in-Some.is)
