-- The row is the one that was there, with the lots let go.
use Rattle.std.proofs.Common.{Ok, rules}
use Rattle.clearing.specs.Ledger.{Holder}
use Rattle.clearing.specs.Line.{release}
use Rattle.clearing.proofs.Ledgers.{adjusted_row, still_in_order}
use Rattle.clearing.proofs.Passed.{passed}
use Rattle.clearing.proofs.ledger.Ledger.release.Goals as goal

pub invariant_of-self : goal.invariant_of-self
invariant_of-self c =
    let l = c.args.self.now in
    record { ordered = still_in_order l.rows c.in_ok-at.at c.unwrap.result.now (release c.args.side c.args.lots) (search rules) c.release.new.self c.release.ensures c.in_ok-at.ensures.0.0 l.ordered }

pub returns : goal.returns
returns c =
    let rows = c.args.self.now.rows in
    let h = passed (λ a. Holder rows a c.args.side c.args.lots (Ok c.in_ok-at.at)) c.args.account c.ranges.account c.in_ok-at.ensures in
    (h.1, adjusted_row rows c.in_ok-at.at c.unwrap.result.now (release c.args.side c.args.lots) (search rules) c.release.new.self c.release.ensures c.args.account h.0)
