-- What the period decides of a call, before any order is looked at. Assumes nothing.
use Rattle.std.specs.Prelude.{◌≡◌, Bool, true, false, Some, None, Option}
use Rattle.clearing.specs.Centre.{Lines, Own}
use Rattle.dealing.specs.Replies.{Reply}
use Rattle.dealing.specs.declared.call.Call.{Call}
use Rattle.dealing.specs.declared.call.Call.TheVariants.{Open, Enter, Withdraw, Reduce, Suspend, Resume}
use Rattle.market.specs.Calls.{answer, done}
use Rattle.market.specs.Rule.{Rule}
use Rattle.market.specs.State.{State, is_trading, is_unopened}
use Rattle.market.specs.declared.sitting.Sitting.{Sitting}
use Rattle.market.specs.declared.period.Period.{Period}

-- a state with this period and these terms
abbrev pub at_sitting : Sitting → State → State
at_sitting s S = record { period = s.period; low = s.low; high = s.high; deviation = s.deviation; last = S.last; buys = S.buys; sells = S.sells; register = S.register }

-- the period lets a call go on to the orders
abbrev pub goes_on : Period → Call → Bool
goes_on p (Open low high deviation) = false
goes_on p (Enter e) = is_trading p
goes_on p (Withdraw a k) = mathlib.Core.Bool.not (is_unopened p)
goes_on p (Reduce a k n) = mathlib.Core.Bool.not (is_unopened p)
goes_on p Suspend = false
goes_on p Resume = false

-- the whole answer to the call, or none, with nothing changed, where the call goes on
abbrev pub Turned : Rule → Own → State → Lines → Call → State → Option Reply → Type 0
Turned R C S L c S' (Some reply) = answer R C S L c ≡ done S' L reply
Turned R C S L c S' None = (S' ≡ S) × (goes_on S.period c ≡ true)
