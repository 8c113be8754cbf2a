-- The row keeps its account, so the rows keep their order.
use Rattle.std.proofs.Common.{rules}
use Rattle.clearing.specs.Line.{hold}
use Rattle.clearing.proofs.Ledgers.{adjusted_row, still_in_order}
use Rattle.clearing.proofs.ledger.Ledger.hold.Goals as goal

pub invariant_of-self : goal.invariant_of-self
invariant_of-self c =
    let l = c.args.self.now in
    record { ordered = still_in_order l.rows c.args.at c.unwrap.result.now (hold c.args.side c.args.lots) (search rules) c.hold.new.self c.hold.ensures c.requires.within l.ordered }

pub returns : goal.returns
returns c =
    record { held = adjusted_row c.args.self.now.rows c.args.at c.unwrap.result.now (hold c.args.side c.args.lots) (search rules) c.hold.new.self c.hold.ensures }
