-- A run: calls given one after another to a new market over a centre. Assumes nothing.
use Rattle.std.specs.Prelude.{◌≡◌, List, [], ◌∷◌, ◌++◌, ℤ, Some, None, Option}
use Rattle.clearing.specs.Centre.{Lines, Own}
use Rattle.clearing.specs.Line.{empty}
use Rattle.clearing.specs.declared.line.Line.{Line}
use Rattle.dealing.specs.Replies.{Reply}
use Rattle.dealing.specs.declared.call.Call.{Call}
use Rattle.market.specs.Calls.{answer}
use Rattle.market.specs.Rule.{Rule}
use Rattle.market.specs.State.{State, new_market}

-- a call with its reply
pub record Step : Type 0 where
  pub call : Call
  pub reply : Reply

abbrev pub step : Call → Reply → Step
step c r = record { call = c; reply = r }

-- a market with its centre's lines, and the calls that led to it with their replies, from the first on
pub record Day : Type 0 where
  pub state : State
  pub lines : Lines
  pub history : List Step

abbrev pub new_day : Lines → Day
new_day L = record { state = new_market; lines = L; history = [] }

-- one call more
abbrev pub next_day : Rule → Own → Day → Call → Day
next_day R C d c =
    let r = answer R C d.state d.lines c in
    record { state = r.state; lines = r.lines; history = d.history ++ step c r.reply ∷ [] }

abbrev pub run : Rule → Own → Day → List Call → Day
run R C d [] = d
run R C d (c ∷ cs) = run R C (next_day R C d c) cs

-- nothing held, nothing settled
abbrev pub EmptyLine : Option Line → Type 0
EmptyLine None = Unit {0}
EmptyLine (Some l) = l ≡ empty

abbrev pub Clear : Lines → Type 0
Clear L = (a : ℤ) → EmptyLine (L a)
