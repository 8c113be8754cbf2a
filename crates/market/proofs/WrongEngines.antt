-- What four wrong engines would answer breaks the law. Assumes nothing.
use Rattle.std.proofs.Common.{[], ◌∷◌, pos, sym, refl, subst, arith, lit≤}
use Rattle.std.proofs.lemmas.Bool.{true≢false}
use Rattle.clearing.specs.declared.side.Side.TheVariants.{Buy, Sell}
use Rattle.market.proofs.Counts.{queued_at_least}
use Rattle.market.specs.Law.{InSequence, Rests, events_of}
use Rattle.market.specs.Order.{order_of}
use Rattle.market.specs.Wrong.{ExchangedTradesAreRefused, HeadOnlyIsRefused, InventedLotsAreRefused, first_trade, head_only, inventing}
use Rattle.market.specs.declared.order.Order.{Order}

-- the buy that was put to rest, and the sell that it meets
bought : Rests (events_of head_only) (first_trade ∷ []) (order_of (pos 103) Buy 3 (pos 7001) 5)
bought = record { came = _; entry = refl; account = refl; side = refl; price = refl; lots = refl; left = lit≤ tt }

sold : Rests (events_of head_only) (first_trade ∷ []) (order_of (pos 102) Sell 2 (pos 7001) 10)
sold = record { came = _; entry = refl; account = refl; side = refl; price = refl; lots = refl; left = lit≤ tt }

pub head_only_is_refused : HeadOnlyIsRefused
head_only_is_refused S L same tt law =
    let at : (o : Order) → Rests (events_of head_only) (first_trade ∷ []) o → Rests (events_of head_only) S.register o = λ o r. subst (λ G. Rests (events_of head_only) G o) (sym same) r in
    true≢false (law.uncrossed _ _ ((law.queues Buy).all _ (at _ bought) refl) ((law.queues Sell).all _ (at _ sold) refl))

-- the order of which lots are said to be taken off
offered : Rests (events_of inventing) [] (order_of (pos 101) Sell 1 (pos 7000) 10)
offered = record { came = _; entry = refl; account = refl; side = refl; price = refl; lots = refl; left = lit≤ tt }

pub invented_lots_are_refused : InventedLotsAreRefused
invented_lots_are_refused S L same tt law =
    let o = order_of (pos 101) Sell 1 (pos 7000) 10 in
    let there = (law.queues Sell).all o (subst (λ G. Rests (events_of inventing) G o) (sym same) offered) refl in
    let x = (law.balanced (pos 101) Sell).sums in
    let y = queued_at_least (pos 101) Sell S.sells o there in
    omega arith

pub exchanged_trades_are_refused : ExchangedTradesAreRefused
exchanged_trades_are_refused S L same tt law =
    let falls = (subst (InSequence 0) same law.sequence).1.0 in
    omega arith
