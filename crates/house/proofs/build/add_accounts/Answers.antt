-- Each turn adds one account.
use Rattle.std.proofs.Common.{◌+◌, drop, get_or, sym, ◌∙◌, rules}
use Rattle.std.proofs.lemmas.List.{drop_more}
use Rattle.house.proofs.AccountSteps.{added_one, no_entry, not_added}
use Rattle.house.proofs.build.add_accounts.Goals as goal

pub returns-then-is_err : goal.returns-then-is_err
returns-then-is_err c = λ refusal.
    let es = c.args.entries.now in
    let i = c.loop-entry.entry-index in
    let inv = c.loop-entry.invariant in
    let cut = drop_more es i no_entry c.loop-entry-test.true in
    let not' = not_added c.loop-entry.base (get_or es i no_entry) (drop (i + 1) es) c.add.new.base c.add.result c.add.ensures (search rules) in
    sym inv.0 ∙ rw (cut, ← inv.3) not'

pub loop-entry-preserved : goal.loop-entry-preserved
loop-entry-preserved c =
    let es = c.args.entries.now in
    let i = c.loop-entry.entry-index in
    let inv = c.loop-entry.invariant in
    let cut = drop_more es i no_entry c.loop-entry-test.true in
    let on = added_one c.loop-entry.base (get_or es i no_entry) (drop (i + 1) es) c.add.new.base c.add.result c.add.ensures (search rules) in
    (rw (← inv.3) on.fit ∙ rw cut at inv.0, on.lines ∙ rw cut at inv.1, on.values ∙ rw cut at inv.2, on.margin ∙ inv.3)
