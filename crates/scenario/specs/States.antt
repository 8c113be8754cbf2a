-- A market as a scenario shows it. Assumes nothing.
use Rattle.std.specs.Prelude.{ℕ, List, ◌++◌, codes, length}
use Rattle.std.specs.Fmt.{decimal, signed_decimal}
use Rattle.market.specs.State.{State}
use Rattle.market.specs.declared.period.Period.{Period}
use Rattle.market.specs.declared.period.Period.TheVariants.{Unopened, Trading, Suspended}
use Rattle.scenario.specs.Items.{order_text}
use Rattle.scenario.specs.Trades.{trade_text}
use Rattle.scenario.specs.Shown.{each, listed}

-- the buys and the sells, from first to last
abbrev pub book_text : State → List ℕ
book_text S = codes "B" ++ each (codes " ") order_text S.buys ++ codes " | S" ++ each (codes " ") order_text S.sells

-- the trades in the order made
abbrev pub trades_text : State → List ℕ
trades_text S = listed trade_text S.register

abbrev pub period_text : Period → List ℕ
period_text Unopened = codes "unopened"
period_text Trading = codes "trading"
period_text Suspended = codes "suspended"

-- the period with its terms, the last number given, and how many trades there are
abbrev pub market_text : State → List ℕ
market_text S =
    (period_text S.period ++ codes " ")
    ++ (codes "low=" ++ signed_decimal S.low ++ codes " high=" ++ signed_decimal S.high ++ codes " ")
    ++ (codes "deviation=" ++ decimal S.deviation ++ codes " ")
    ++ (codes "given=" ++ decimal S.last ++ codes " trades=" ++ decimal (length S.register))
