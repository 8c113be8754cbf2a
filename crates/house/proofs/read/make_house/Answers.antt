-- The centre is made of its parts, each of which may be refused.
use Rattle.std.proofs.Common.{refl, rules}
use Rattle.house.proofs.Houses.{made, no_accounts}
use Rattle.house.specs.Settings.{settings_view}
use Rattle.house.proofs.read.make_house.Goals as goal

pub returns-in_err-add_accounts : goal.returns-in_err-add_accounts
returns-in_err-add_accounts c =
    let w = settings_view c.args.settings.now in
    let base = c.in_ok-base.ensures in
    let refused = rw c.as_slice.ensures.value at c.in_err-add_accounts.ensures in
    let none = no_accounts w c.in_ok-base.base base.0 base.1 c.add_accounts.new.base c.in_err-add_accounts.field-0.0 refused in
    search (rules, none)

pub returns : goal.returns
returns c =
    let w = settings_view c.args.settings.now in
    let base = c.in_ok-base.ensures in
    let accounts = rw c.as_slice.ensures.value at c.in_ok-add_accounts.ensures in
    let layers = rw c.as_slice-2.ensures.value at c.in_ok-add_layers.ensures in
    made w c.in_ok-base.base base.0 base.1 c.add_accounts.new.base c.new-centre.result (record { rule = w.rule; centre = c.add_layers.new.centre }) accounts c.new-centre.ensures.below layers refl
