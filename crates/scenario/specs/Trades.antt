-- A trade as a scenario shows it. Assumes nothing.
use Rattle.std.specs.Prelude.{ℕ, List, ◌++◌, codes}
use Rattle.std.specs.Fmt.{decimal, signed_decimal}
use Rattle.market.specs.declared.trade.Party.{Party}
use Rattle.market.specs.declared.trade.Trade.{Trade}

-- NUMBER:ACCOUNT
abbrev pub party_text : Party → List ℕ
party_text p = decimal p.number ++ codes ":" ++ signed_decimal p.account

-- the buy, the sell, the price and the lots
abbrev pub trade_text : Trade → List ℕ
trade_text t = party_text t.buy ++ codes " " ++ party_text t.sell ++ codes " @" ++ signed_decimal t.price ++ codes " x" ++ decimal t.lots
