-- The place is within the queue, which is short.
use Rattle.std.proofs.Common.{length, get_or, ap, ◌∙◌, arith}
use Rattle.std.proofs.lemmas.List.{get_or_default}
use Rattle.market.proofs.QueueTables.{any_order}
use Rattle.market.specs.BookState.{state_of}
use Rattle.market.specs.State.{queue_of}
use Rattle.market.proofs.book.Book.order.Goals as goal

pub offset_bounds-as_slice-place : goal.offset_bounds-as_slice-place
offset_bounds-as_slice-place g c =
    let few = c.as_slice.ensures.few in
    let long = ap length c.queue.ensures in
    let within = (c.requires.found any_order).0 in
    omega arith

pub bounds-as_slice-place : goal.bounds-as_slice-place
bounds-as_slice-place g c =
    let long = ap length (c.as_slice.ensures.orders ∙ c.queue.ensures) in
    let within = (c.requires.found any_order).0 in
    omega arith

pub returns : goal.returns
returns g c d =
    let i = c.args.place.at in
    let q = queue_of c.args.place.side (state_of c.args.self.now) in
    ap (λ l. get_or l i any_order) (c.as_slice.ensures.orders ∙ c.queue.ensures) ∙ get_or_default q i any_order d (c.requires.found d).0
