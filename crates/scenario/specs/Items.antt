-- An order and a line as a scenario shows them. Assumes nothing.
use Rattle.std.specs.Prelude.{ℕ, List, ◌++◌, codes}
use Rattle.std.specs.Fmt.{decimal, signed_decimal}
use Rattle.clearing.specs.declared.line.Counts.{Counts}
use Rattle.market.specs.Order.{account_of, lots_of}
use Rattle.market.specs.declared.order.Order.{Order}
use Rattle.scenario.specs.declared.state.Row.{Row}

-- NUMBER:ACCOUNT@PRICExLOTS
abbrev pub order_text : Order → List ℕ
order_text o = decimal o.number ++ codes ":" ++ signed_decimal (account_of o) ++ codes "@" ++ signed_decimal o.price ++ codes "x" ++ decimal (lots_of o)

-- held and settled
abbrev pub counts_text : Counts → List ℕ
counts_text c = decimal c.held ++ codes " " ++ decimal c.settled

-- the account, the counts of its buys, and those of its sells
abbrev pub row_text : Row → List ℕ
row_text r = (signed_decimal r.account ++ codes " " ++ counts_text r.line.buy ++ codes " ") ++ counts_text r.line.sell
