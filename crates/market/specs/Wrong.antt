-- Four wrong engines, by what they would answer, and that the law refuses them. Assumes nothing.
use Rattle.std.specs.Prelude.{◌≡◌, ℕ, List, [], ◌∷◌, ℤ, pos, Ok}
use Rattle.clearing.specs.Centre.{Lines}
use Rattle.clearing.specs.declared.side.Side.{Side}
use Rattle.clearing.specs.declared.side.Side.TheVariants.{Buy, Sell}
use Rattle.dealing.specs.declared.call.Call.{Call}
use Rattle.dealing.specs.declared.call.Call.TheVariants.{Open, Enter}
use Rattle.dealing.specs.declared.call.Kind.TheVariants.{Limited}
use Rattle.dealing.specs.declared.call.Rest.TheVariants.{Queue}
use Rattle.dealing.specs.declared.outcome.Outcome.TheVariants.{Filled, Opened, PartResting, Resting}
use Rattle.market.specs.Calls.{figures_of}
use Rattle.market.specs.Law.{Keeps, events_of, held_on}
use Rattle.market.specs.Order.{party}
use Rattle.market.specs.QueueRules.{by_rate}
use Rattle.market.specs.Run.{Step, step}
use Rattle.market.specs.State.{State}
use Rattle.market.specs.declared.trade.Trade.{Trade}

-- a limited entry that queues its rest
abbrev enters : Side → ℤ → ℤ → ℕ → Call
enters s account price lots = Enter (record { account = account; side = s; kind = Limited; rest = Queue; price = price; lots = pos lots })

abbrev opening : Step
opening = step (Open (pos 1) (pos 100000) (pos 50)) (Ok Opened)

-- no market over a centre keeps the law by rate with these steps and these trades
abbrev Breaks : List Step → List Trade → (Lines → Type 0) → Type 0
Breaks H G lines = (S : State) (L : Lines) → S.register ≡ G → lines L → Keeps by_rate (events_of H) S L → ⊥

-- An engine that matches only the first order, and puts the rest to rest: 15 lots are bought at 7001, where sells of 10 lots
-- stand at 7000 and at 7001, and 5 rest
abbrev pub head_only : List Step
head_only =
    opening
    ∷ step (enters Sell (pos 101) (pos 7000) 10) (Ok (Resting (figures_of 1 0 10 0)))
    ∷ step (enters Sell (pos 102) (pos 7001) 10) (Ok (Resting (figures_of 2 0 10 0)))
    ∷ step (enters Buy (pos 103) (pos 7001) 15) (Ok (PartResting (figures_of 3 10 5 0)))
    ∷ []

abbrev pub first_trade : Trade
first_trade = record { buy = party 3 (pos 103); sell = party 1 (pos 101); price = pos 7000; lots = 10 }

abbrev pub HeadOnlyIsRefused : Type 0
HeadOnlyIsRefused = Breaks head_only (first_trade ∷ []) (λ _. Unit {0})

-- An engine that never calls the centre: 10 lots rest, and the account's line shows none held
abbrev resting_sell : List Step
resting_sell = opening ∷ step (enters Sell (pos 101) (pos 7000) 10) (Ok (Resting (figures_of 1 0 10 0))) ∷ []

abbrev pub IdleCentreIsRefused : Type 0
IdleCentreIsRefused = Breaks resting_sell [] (λ L. held_on (L (pos 101)) Sell ≡ 0)

-- An engine that invents lots taken off: 10 lots rest of 10, and 3 are said to be taken off
abbrev pub inventing : List Step
inventing = opening ∷ step (enters Sell (pos 101) (pos 7000) 10) (Ok (Resting (figures_of 1 0 10 3))) ∷ []

abbrev pub InventedLotsAreRefused : Type 0
InventedLotsAreRefused = Breaks inventing [] (λ _. Unit {0})

-- An engine that breaks the sequence of the register, and nothing else: of 20 lots that rest, entry 2 buys 10 and then entry 3
-- the other 10, and the trade of entry 3 stands in front of that of entry 2
abbrev pub exchanging : List Step
exchanging =
    opening
    ∷ step (enters Sell (pos 101) (pos 7000) 20) (Ok (Resting (figures_of 1 0 20 0)))
    ∷ step (enters Buy (pos 102) (pos 7000) 10) (Ok (Filled (figures_of 2 10 0 0)))
    ∷ step (enters Buy (pos 103) (pos 7000) 10) (Ok (Filled (figures_of 3 10 0 0)))
    ∷ []

-- 10 lots of the resting sell, bought by the account a with the entry numbered k
abbrev pub bought_by : ℕ → ℤ → Trade
bought_by k a = record { buy = party k a; sell = party 1 (pos 101); price = pos 7000; lots = 10 }

abbrev pub exchanged : List Trade
exchanged = bought_by 3 (pos 103) ∷ bought_by 2 (pos 102) ∷ []

abbrev pub ExchangedTradesAreRefused : Type 0
ExchangedTradesAreRefused = Breaks exchanging exchanged (λ _. Unit {0})
