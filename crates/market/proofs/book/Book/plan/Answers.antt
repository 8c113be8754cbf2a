-- The taker's own test is that of the walk, since it has the price of the first order.
use Rattle.std.proofs.Common.{◌≡◌, length, refl, ap, ◌∙◌, ap₂, arith}
use Rattle.clearing.specs.Side.{other}
use Rattle.market.proofs.PlanTables.{walk_same}
use Rattle.market.proofs.Refusals.{plan_few}
use Rattle.market.specs.BookState.{Plans, state_of, taker_of}
use Rattle.market.specs.Calls.{entry_lots, walk_of}
use Rattle.market.specs.PlanTable.{walk_by}
use Rattle.market.specs.State.{queue_of}
use Rattle.market.specs.Walk.{Walked}
use Rattle.market.proofs.book.Book.plan.Goals as goal

pub returns : goal.returns
returns g c =
    let b = c.args.self.now in
    let R = g.R.QueueRule.rule b.rule.rule in
    let S = state_of b in
    let e = c.args.entry in
    let q = queue_of (other e.side) S in
    let theirs = c.as_slice.ensures.orders ∙ c.queue-theirs.ensures ∙ ap (λ s. queue_of s S) c.other.ensures in
    let same : walk_by R c.taker-taker.result c.entry_lots-lots.result c.as_slice.result.now ≡ walk_of R S e =
    ap (λ t. walk_by R t c.entry_lots-lots.result c.as_slice.result.now) c.taker-taker.ensures
    ∙ ap₂ (walk_by R (taker_of S e)) c.entry_lots-lots.ensures theirs
    ∙ walk_same R (taker_of S e) q refl (entry_lots e) q in
    let w = c.plan_walk.ensures in
    let plans : Plans c.plan_walk.result (walk_of R S e) = record {
      ending = w.ending ∙ ap (λ (x : Walked). x.ending) same;
      left = w.left ∙ ap (λ (x : Walked). x.left) same;
      trades = w.trades ∙ ap (λ (x : Walked). length x.trades) same;
    } in
    let long = ap length (c.queue-theirs.ensures ∙ ap (λ s. queue_of s S) c.other.ensures) in
    let few = c.as_slice.ensures.few in
    let within = plan_few R S e c.plan_walk.result plans in
    record { plans = plans; few = omega arith }
