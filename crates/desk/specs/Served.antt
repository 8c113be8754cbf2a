-- A market at a desk, and what it answers to command lines, one after another. Assumes nothing.
use Rattle.std.specs.Prelude.{ℕ, List, [], ◌∷◌, ◌++◌, Ok, Err, Result, unwrap_or}
use Rattle.clearing.specs.Centre.{Lines, Own}
use Rattle.dealing.specs.declared.call.Call.{Call}
use Rattle.dealing.specs.declared.refusal.Refusal.{Refusal}
use Rattle.desk.specs.Desk.{page_line}
use Rattle.line_service.specs.Page.{state_after}
use Rattle.market.specs.BookState.{state_of}
use Rattle.market.specs.Calls.{Done, answer, done}
use Rattle.market.specs.Law.{Keeps, LedTo, events_of}
use Rattle.market.specs.Rule.{Rule}
use Rattle.market.specs.Run.{new_day, run}
use Rattle.market.specs.State.{State}
use Rattle.market.specs.declared.market.Market.{Market}
use Rattle.page.specs.Command.{read_command}
use Rattle.page.specs.Printed.{printed}

-- what answers depend on: the queue rule, the centre's own rule, the market's state, the centre's lines and the phrases
pub record DeskState : Type 0 where
  pub rule : Rule
  pub own : Own
  pub state : State
  pub lines : Lines
  pub phrases : List (List ℕ)

-- a line that was read comes to the answer of its call, or to its refusal, which leaves all as it was
abbrev pub dealt : DeskState → Result Call Refusal → Done
dealt d (Ok call) = answer d.rule d.own d.state d.lines call
dealt d (Err e) = done d.state d.lines (Err e)

-- the printed line that answers a line under a number, with a byte 10 behind it
abbrev pub shown : DeskState → ℕ → List ℕ → List ℕ
shown d number line = unwrap_or (printed d.phrases (page_line number (dealt d (read_command line)).reply)) [] ++ 10 ∷ []

-- the desk with what a line left
abbrev pub left_by : DeskState → Done → DeskState
left_by d e = record { rule = d.rule; own = d.own; state = e.state; lines = e.lines; phrases = d.phrases }

-- the desk after a line
abbrev pub after : DeskState → List ℕ → DeskState
after d line = left_by d (dealt d (read_command line))

-- the desk after lines
abbrev pub after_all : DeskState → List (List ℕ) → DeskState
after_all d lines = state_after shown after d lines

-- the calls of lines, without the lines that cannot be read
abbrev pub with_call : Result Call Refusal → List Call → List Call
with_call (Ok call) calls = call ∷ calls
with_call (Err e) calls = calls

abbrev pub calls_of : List (List ℕ) → List Call
calls_of [] = []
calls_of (line ∷ lines) = with_call (read_command line) (calls_of lines)

-- these calls, given to a new market over the lines L₀ with nothing held or settled, led to the desk, and the law holds there
abbrev pub IsLed : Lines → List Call → DeskState → Type 0
IsLed L₀ calls d = LedTo d.rule d.own L₀ calls d.state d.lines × Keeps d.rule (events_of (run d.rule d.own (new_day L₀) calls).history) d.state d.lines

-- whatever calls led to the desk, they and those of any lines lead to the desk after these lines, and the law holds there
abbrev pub LinesKeepTheLaw : DeskState → Type 0
LinesKeepTheLaw d = (L₀ : Lines) (calls : List Call) → LedTo d.rule d.own L₀ calls d.state d.lines → (lines : List (List ℕ)) → IsLed L₀ (calls ++ calls_of lines) (after_all d lines)

-- the desk of a market, the rule and the centre being seen through these
abbrev pub desk_of : {R C : Type 0} → (R → Rule) → (C → Own) → (C → Lines) → List (List ℕ) → Market R C → DeskState
desk_of rule own lines ps m = record { rule = rule m.book.rule.rule; own = own m.centre; state = state_of m.book; lines = lines m.centre; phrases = ps }
