-- The centre holds the lots of the order, so it takes them back.
use Rattle.std.proofs.Common.{◌≡◌, ◌-◌, true, sym, ap, ◌∙◌, subst, arith}
use Rattle.clearing.specs.Centre.{adjusted, holds}
use Rattle.clearing.specs.Line.{release}
use Rattle.clearing.specs.declared.grant.Grant.{Grant}
use Rattle.market.proofs.Namings.{held_there, taken_there}
use Rattle.market.proofs.QueueTables.{any_order}
use Rattle.market.specs.BookState.{state_of}
use Rattle.market.specs.Calls.{figures_of}
use Rattle.market.specs.Order.{lots_of}
use Rattle.market.specs.declared.order.Order.{Order}
use Rattle.market.proofs.book.Book.take_off.Goals as goal

pub overflow_sub-figures : goal.overflow_sub-figures
overflow_sub-figures g c =
    let all = c.lots.ensures ∙ ap lots_of (c.order-order.ensures any_order) in
    let enough = c.requires.enough any_order in
    omega arith

pub lower-grant-requires-clause-within : goal.lower-grant-requires-clause-within
lower-grant-requires-clause-within g c = (c.requires.placed.found any_order).0

pub give_back-requires : goal.give_back-requires
give_back-requires g c =
    let L = g.C.Centre.lines c.args.centre.now in
    subst (λ (x : Grant). holds (L x.account) x.side x.lots ≡ true) (sym (c.lower-grant.ensures.grant any_order))
    (held_there (state_of c.args.self.now) L c.args.place c.args.lots c.requires.placed any_order (c.requires.enough any_order) (c.requires.in_step any_order))

pub returns-clause-taken : goal.returns-clause-taken
returns-clause-taken g c d =
    let L = g.C.Centre.lines c.args.centre.now in
    let n = c.args.lots in (
      ap (λ m. figures_of c.order-order.result.now.number 0 (m - n) n) c.lots.ensures
          ∙ ap (λ (o : Order). figures_of o.number 0 (lots_of o - n) n) (c.order-order.ensures d),
      taken_there (state_of c.args.self.now) L c.args.place n c.requires.placed d (state_of c.lower-grant.new.self) (g.C.Centre.lines c.give_back.new.centre) c.lower-grant.ensures.state
          (c.give_back.ensures.lines ∙ ap (λ (x : Grant). adjusted L x.account (release x.side x.lots)) (c.lower-grant.ensures.grant d)),
    )
