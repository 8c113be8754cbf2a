-- The lines at a desk are calls of one run. Assumes nothing.
use Rattle.std.proofs.Common.{◌≡◌, ℕ, List, [], ◌∷◌, ◌++◌, length, take, Ok, Err, Result, refl, sym, subst, arith, append-nil, append_assoc}
use Rattle.std.proofs.lemmas.List.{take_all}
use Rattle.clearing.specs.Centre.{Lines}
use Rattle.dealing.specs.declared.call.Call.{Call}
use Rattle.dealing.specs.declared.refusal.Refusal.{Refusal}
use Rattle.market.proofs.Runs.{call_keeps_the_law, runs_keep_the_law}
use Rattle.market.specs.Calls.{answer}
use Rattle.market.specs.Law.{Keeps, LedTo, events_of}
use Rattle.market.specs.Rule.{Lawful}
use Rattle.market.specs.Run.{new_day, run}
use Rattle.page.specs.Command.{read_command}
use Rattle.desk.specs.Served.{DeskState, IsLed, after, after_all, calls_of, dealt, with_call}

-- where calls led to the desk, the law holds there
kept_here : (d : DeskState) → Lawful d.rule → (L₀ : Lines) (calls : List Call) → LedTo d.rule d.own L₀ calls d.state d.lines → IsLed L₀ calls d
kept_here d lawful L₀ calls led =
    let whole : take (length calls) calls ≡ calls = take_all (length calls) calls (omega arith) in
    let day = run d.rule d.own (new_day L₀) calls in
    let law = (runs_keep_the_law d.rule lawful d.own L₀ calls led.0 (length calls) (omega arith)).1 in
    let there : Keeps d.rule (events_of day.history) day.state day.lines = subst (λ cs. Keeps d.rule (events_of (run d.rule d.own (new_day L₀) cs).history) (run d.rule d.own (new_day L₀) cs).state (run d.rule d.own (new_day L₀) cs).lines) whole law in
    (led, subst (λ S. Keeps d.rule (events_of day.history) S d.lines) led.1 (subst (λ L. Keeps d.rule (events_of day.history) day.state L) led.2 there))

-- a call more, where a line is one
led_on : (d : DeskState) → Lawful d.rule → (L₀ : Lines) (calls more : List Call) → LedTo d.rule d.own L₀ calls d.state d.lines → (r : Result Call Refusal) → (others : List Call) × (LedTo d.rule d.own L₀ others (dealt d r).state (dealt d r).lines × (others ++ more ≡ calls ++ with_call r more))
led_on d lawful L₀ calls more led (Ok call) =
    let e = answer d.rule d.own d.state d.lines call in
    (calls ++ call ∷ [], ((call_keeps_the_law d.rule lawful d.own d.state d.lines call e.reply e.state e.lines refl L₀ calls led).0, append_assoc calls (call ∷ []) more))
led_on d lawful L₀ calls more led (Err e) = (calls, (led, refl))

pub lines_keep_the_law : (lines : List (List ℕ)) (d : DeskState) → Lawful d.rule → (L₀ : Lines) (calls : List Call) → LedTo d.rule d.own L₀ calls d.state d.lines → IsLed L₀ (calls ++ calls_of lines) (after_all d lines)
lines_keep_the_law [] d lawful L₀ calls led = subst (λ cs. IsLed L₀ cs d) (sym (append-nil calls)) (kept_here d lawful L₀ calls led)
lines_keep_the_law (line ∷ lines) d lawful L₀ calls led =
    let on = led_on d lawful L₀ calls (calls_of lines) led (read_command line) in
    subst (λ cs. IsLed L₀ cs (after_all (after d line) lines)) on.1.1 (lines_keep_the_law lines (after d line) lawful L₀ on.0 on.1.0)
