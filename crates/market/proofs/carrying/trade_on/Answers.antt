-- Each turn makes the next trade of the plan.
use Rattle.std.proofs.Common.{◌-◌, sym, ap, ◌∙◌, subst, arith}
use Rattle.clearing.specs.Grant.{grant_of}
use Rattle.clearing.specs.declared.grant.Grant.{Grant}
use Rattle.market.proofs.Carried.{way_can, way_ends, way_on}
use Rattle.market.specs.Carry.{CanTrade, TradedFirst}
use Rattle.market.specs.declared.trade.Party.{Party}
use Rattle.market.proofs.carrying.trade_on.Goals as goal

pub trade_first-rest-requires-clause-lots : goal.trade_first-rest-requires-clause-lots
trade_first-rest-requires-clause-lots g c = (way_can _ _ _ _ _ _ _ _ _ _ _ _ _ c.loop-i.invariant.0 c.loop-i-test.true c.first_lots-n.result c.first_lots-n.ensures).1

pub trade_first-rest-requires-clause-can : goal.trade_first-rest-requires-clause-can
trade_first-rest-requires-clause-can g c =
    subst (λ (p : Party). CanTrade (g.C.Centre.lines c.loop-i.centre) c.loop-i.theirs.orders c.args.numbered.now.entry.side p c.first_lots-n.result) (sym c.party-me.ensures)
    (way_can _ _ _ _ _ _ _ _ _ _ _ _ _ c.loop-i.invariant.0 c.loop-i-test.true c.first_lots-n.result c.first_lots-n.ensures).0

pub overflow_sub-left : goal.overflow_sub-left
overflow_sub-left g c =
    let way = c.loop-i.invariant.0 in
    let can = (way_can _ _ _ _ _ _ _ _ _ _ _ _ _ way c.loop-i-test.true c.first_lots-n.result c.first_lots-n.ensures).1 in
    let lots = ap (λ (x : Grant). x.lots) way.grant in
    omega arith

pub loop-i-preserved : goal.loop-i-preserved
loop-i-preserved g c =
    let me = c.party-me.ensures in
    let t = c.trade_first-rest.ensures in
    let last = c.trade_first-rest.new in (
      way_on _ _ _ _ _ _ _ _ _ _ _ _ _ c.loop-i.invariant.0 c.loop-i-test.true c.first_lots-n.result (g.C.Centre.lines last.centre) last.theirs.orders last.register c.trade_first-rest.result c.first_lots-n.ensures
          (subst (λ (p : Party). TradedFirst c.args.numbered.now.entry.side p c.first_lots-n.result (g.C.Centre.lines c.loop-i.centre) c.loop-i.theirs.orders c.loop-i.register (g.C.Centre.lines last.centre) last.theirs.orders last.register) me t.traded)
          (t.grant ∙ ap (λ (p : Party). grant_of p.account c.args.numbered.now.entry.side (c.loop-i.rest.lots - c.first_lots-n.result)) me),
      g.met.C.Centre.same_on _ _ _ c.loop-i.invariant.1 t.settings,
    )

pub returns-clause-carried : goal.returns-clause-carried
returns-clause-carried g c = way_ends _ _ _ _ _ _ _ _ _ _ _ _ _ c.loop-i.invariant.0 c.loop-i-test.false
