-- The house that is made is the one that the text says.
use Rattle.std.proofs.Common.{◌≡◌, Some, rules}
use Rattle.house.specs.Read.{said}
use Rattle.house.specs.Settings.{settings_view}
use Rattle.house.proofs.read.read.Goals as goal

pub returns-in-Ok-make_house-clause-house : goal.returns-in-Ok-make_house-clause-house
returns-in-Ok-make_house-clause-house c =
    let w = settings_view c.in-Ok-settings.settings in
    let is : said c.args.text.now ≡ Some w = search rules in
    let made = c.in-Ok-make_house.ensures in
    (w, is, made.0, made.1)
