-- Replies and denials as a scenario shows them. Assumes nothing.
use Rattle.std.specs.Prelude.{ℕ, List, [], ◌++◌, codes, Some, None, Option}
use Rattle.std.specs.Fmt.{decimal}
use Rattle.clearing.specs.Cause.{cause_number}
use Rattle.clearing.specs.declared.cause.Denial.{Denial}
use Rattle.dealing.specs.Replies.{denial, outcome_number, refusal_number}
use Rattle.dealing.specs.declared.outcome.Figures.{Figures}
use Rattle.dealing.specs.declared.outcome.Outcome.{Outcome}
use Rattle.dealing.specs.declared.outcome.Outcome.TheVariants.{Filled, Resting, PartResting, TakenOff, PartOffAtLimit, PartOffAtOwn, Withdrawn, Reduced, Suspended, Resumed, Opened}
use Rattle.dealing.specs.declared.refusal.Refusal.{Refusal}

abbrev pub denial_text : Denial → List ℕ
denial_text d = codes "cause " ++ decimal (cause_number d.cause) ++ codes " depth " ++ decimal d.depth

abbrev pub behind : Option Denial → List ℕ
behind None = []
behind (Some d) = codes " " ++ denial_text d

-- the number, and behind the centre's what it said
abbrev pub refusal_text : Refusal → List ℕ
refusal_text r = decimal (refusal_number r) ++ behind (denial r)

abbrev pub figures_text : Figures → List ℕ
figures_text f = codes " no=" ++ decimal f.number ++ codes " traded=" ++ decimal f.traded ++ codes " resting=" ++ decimal f.resting ++ codes " off=" ++ decimal f.taken_off

abbrev pub figures_behind : Outcome → List ℕ
figures_behind (Filled f) = figures_text f
figures_behind (Resting f) = figures_text f
figures_behind (PartResting f) = figures_text f
figures_behind (TakenOff f) = figures_text f
figures_behind (PartOffAtLimit f) = figures_text f
figures_behind (PartOffAtOwn f) = figures_text f
figures_behind (Withdrawn f) = figures_text f
figures_behind (Reduced f) = figures_text f
figures_behind Suspended = []
figures_behind Resumed = []
figures_behind Opened = []

-- the number, and the figures of an outcome that has some
abbrev pub outcome_text : Outcome → List ℕ
outcome_text o = decimal (outcome_number o) ++ figures_behind o
