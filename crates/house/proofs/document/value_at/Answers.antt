-- What the map of a table finds.
use Rattle.toml.proofs.Views.{table_get}
use Rattle.house.proofs.document.value_at.Goals as goal

pub returns : goal.returns
returns c = table_get c.get.result c.args.key.now c.args.table.now.entries c.get.ensures.value
