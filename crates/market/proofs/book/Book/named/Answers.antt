-- The buys are searched first, and then the sells.
use Rattle.std.proofs.Common.{length, pos, Some, sym, subst}
use Rattle.ordered.specs.Row.{Found, Lacks}
use Rattle.clearing.proofs.Passed.{passed}
use Rattle.market.proofs.Namings.{named_buy, named_none, named_sell}
use Rattle.market.specs.BookState.{state_of}
use Rattle.market.specs.Naming.{Named}
use Rattle.market.specs.declared.order.Order.{Order}
use Rattle.market.proofs.book.Book.named.Goals as goal

pub returns-in-Some : goal.returns-in-Some
returns-in-Some g c =
    let b = c.args.self.now in
    let i = c.in-Some.at in
    named_buy (state_of b) c.args.number i b.bought
    (passed (λ z. Found (λ (o : Order). pos o.number) b.buys.orders z (Some i)) _ c.ranges.number c.in-Some.ensures)

pub returns-in_err-at : goal.returns-in_err-at
returns-in_err-at g c =
    let b = c.args.self.now in
    let S = state_of b in
    let k = c.args.number in
    subst (Named S k) (sym c.from_residual.ensures) (named_none S k
    (passed (λ z. Lacks (λ (o : Order). pos o.number) S.buys z (length S.buys)) k c.ranges.number c.in_default.ensures)
    (passed (λ z. Lacks (λ (o : Order). pos o.number) S.sells z (length S.sells)) k c.ranges.number c.in_err-at.ensures))

pub returns : goal.returns
returns g c =
    let b = c.args.self.now in
    let S = state_of b in
    let k = c.args.number in
    let i = c.in_ok-at.at in
    named_sell S k
    (passed (λ z. Lacks (λ (o : Order). pos o.number) S.buys z (length S.buys)) k c.ranges.number c.in_default.ensures) i b.sold
    (passed (λ z. Found (λ (o : Order). pos o.number) S.sells z (Some i)) k c.ranges.number c.in_ok-at.ensures)
