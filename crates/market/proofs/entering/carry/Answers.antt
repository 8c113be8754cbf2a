-- What is reserved, traded and left makes up the entry.
use Rattle.std.proofs.Common.{◌≡◌, cond, ◌++◌, length, sym, ap, ◌∙◌, ap₂}
use Rattle.clearing.specs.Centre.{adjusted}
use Rattle.clearing.specs.Line.{hold, release}
use Rattle.clearing.specs.declared.grant.Grant.{Grant}
use Rattle.market.specs.Calls.{entry_lots, rest_joins, settle_trades}
use Rattle.market.specs.Order.{joined, order_of}
use Rattle.market.specs.Walk.{Walked, walk}
use Rattle.market.proofs.entering.carry.Goals as goal

pub returns-clause-entered : goal.returns-clause-entered
returns-clause-entered g c el count =
    let e = c.args.numbered.now.entry in
    let k = c.args.numbered.now.number in
    let n = c.entry_lots-lots.ensures in
    let L = g.C.Centre.lines c.args.centre.now in
    let b = c.args.rule.now in
    let R = g.R.QueueRule.rule b.rule in
    let mine = c.args.mine.now.orders in
    let theirs = c.args.theirs.now.orders in
    let G = c.args.register.now in
    let j = rest_joins e c.args.plan.ending in
    let lines = c.reserve-grant.ensures.lines ∙ ap (λ x. adjusted L e.account (hold e.side x)) n in
    let left = c.leave_rest.ensures in
    let w = walk el e k (entry_lots e) theirs in
    let same : walk el e k c.entry_lots-lots.result theirs ≡ w = ap (λ x. walk el e k x theirs) n in
    let all = c.trade_on-rest.ensures.carried el (count ∙ sym (ap (λ (x : Walked). length x.trades) same)) in
    let lots : c.trade_on-rest.result.lots ≡ w.left = ap (λ (x : Grant). x.lots) all.1 ∙ ap (λ (x : Walked). x.left) same in
    let settled : g.C.Centre.lines c.trade_on-rest.new.centre ≡ settle_trades (adjusted L e.account (hold e.side (entry_lots e))) w.trades = all.0.lines ∙ ap₂ settle_trades lines (ap (λ (x : Walked). x.trades) same) in
    record {
      own_queue = left.queue ∙ ap (λ x. cond j (joined R (order_of e.account e.side k e.price x) mine) mine) lots;
      other_queue = all.0.queue ∙ ap (λ (x : Walked). x.queue) same;
      register = all.0.register ∙ ap (λ (x : Walked). G ++ x.trades) same;
      lines = left.lines ∙ ap₂ (λ M x. cond j M (adjusted M e.account (release e.side x))) settled lots;
    }
