-- A call that is made several times. Assumes nothing.
use Rattle.std.specs.Prelude.{ℕ, zero, suc, List, ◌++◌}
use Rattle.clearing.specs.Centre.{Lines, Own}
use Rattle.dealing.specs.declared.call.Call.{Call}
use Rattle.market.specs.Calls.{Done, answer}
use Rattle.market.specs.Law.{Keeps, LedTo, events_of}
use Rattle.market.specs.Rule.{Rule}
use Rattle.market.specs.Run.{new_day, run}
use Rattle.market.specs.State.{State}

-- what n more of a call leave, and the last reply
unfoldable pub again : Rule → Own → Call → ℕ → Done → Done
again R C c zero d = d
again R C c (suc n) d = answer R C (again R C c n d).state (again R C c n d).lines c

-- some more calls lead from the first state over its lines to the second: whatever calls led to the first, they and these
-- lead to the second, and the law holds there
abbrev pub StillLawful : Rule → Own → State → Lines → State → Lines → Type 0
StillLawful R C S L S' L' =
    (L₀ : Lines) (calls : List Call) → LedTo R C L₀ calls S L →
    (more : List Call) × LedTo R C L₀ (calls ++ more) S' L'
    × Keeps R (events_of (run R C (new_day L₀) (calls ++ more)).history) S' L'
