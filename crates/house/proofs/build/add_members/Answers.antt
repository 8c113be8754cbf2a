-- Each turn places one member.
use Rattle.std.proofs.Common.{◌+◌, drop, get_or, sym, ◌∙◌, rules}
use Rattle.std.proofs.lemmas.List.{drop_more}
use Rattle.house.proofs.AccountSteps.{no_entry}
use Rattle.house.proofs.LayerSteps.{not_placed, placed_one}
use Rattle.house.proofs.build.add_members.Goals as goal

pub returns-then-is_err : goal.returns-then-is_err
returns-then-is_err c = λ refusal.
    let es = c.args.entries.now in
    let i = c.loop-entry.entry-index in
    let inv = c.loop-entry.invariant in
    let cut = drop_more es i no_entry c.loop-entry-test.true in
    let not' = not_placed c.loop-entry.centre (get_or es i no_entry) (drop (i + 1) es) c.place.new.centre c.place.result inv.0 c.place.ensures (search rules) in
    sym inv.1 ∙ rw cut not'

pub loop-entry-preserved : goal.loop-entry-preserved
loop-entry-preserved c =
    let es = c.args.entries.now in
    let i = c.loop-entry.entry-index in
    let inv = c.loop-entry.invariant in
    let cut = drop_more es i no_entry c.loop-entry-test.true in
    let on = placed_one c.loop-entry.centre (get_or es i no_entry) (drop (i + 1) es) c.place.new.centre c.place.result c.place.ensures (search rules) in
    (on.there, on.fit ∙ rw cut at inv.1, on.firms ∙ rw cut at inv.2, on.caps ∙ inv.3, on.under ∙ inv.4, on.below ∙ inv.5)
