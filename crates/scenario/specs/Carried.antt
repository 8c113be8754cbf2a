-- What an action makes of a market and its centre, and what is answered. Assumes nothing.
use Rattle.std.specs.Prelude.{◌≡◌, ⊤, ℤ, Result}
use Rattle.clearing.specs.Centre.{Lines, Own}
use Rattle.clearing.specs.declared.cause.Denial.{Denial}
use Rattle.market.specs.BookState.{state_of}
use Rattle.market.specs.Calls.{answer, done}
use Rattle.market.specs.Rule.{Rule}
use Rattle.market.specs.declared.market.Market.{Market}
use Rattle.scenario.specs.Again.{again}
use Rattle.scenario.specs.declared.answer.Answer.{Answer}
use Rattle.scenario.specs.declared.answer.Answer.TheVariants.{Reply, Set}
use Rattle.scenario.specs.declared.words.Action.{Action}
use Rattle.scenario.specs.declared.words.Action.TheVariants.{Call, Account, Firm}

-- a centre changed by two numbers becomes another, or says no
abbrev pub Change : Type 0 → Type 1
Change C = C → ℤ → ℤ → C → Result (Unit {0}) Denial → Type 0

module _ {R C : Type 0} (rule : R → Rule) (own : C → Own) (lines : C → Lines) (account cap' : Change C) (m m' : Market R C) where
  -- the centre changes, and the book stays
  abbrev pub CentreChanged : Change C → ℤ → ℤ → Answer → Type 0
  CentreChanged change a z (Reply r) = ⊥
  CentreChanged change a z (Set r) = change m.centre a z m'.centre r × (m'.book ≡ m.book)

  abbrev pub CarriedOut : Action → Answer → Type 0
  CarriedOut (Call c n) (Reply r) =
      again (rule m.book.rule.rule) (own m.centre) c n (answer (rule m.book.rule.rule) (own m.centre) (state_of m.book) (lines m.centre) c)
      ≡ done (state_of m'.book) (lines m'.centre) r
  CarriedOut (Call c n) (Set r) = ⊥
  CarriedOut (Account a z) r = CentreChanged account a z r
  CarriedOut (Firm f z) r = CentreChanged cap' f z r

-- what holds where the action is a call
abbrev pub OnCalls : Action → Type 0 → Type 0
OnCalls (Call c n) P = P
OnCalls (Account a z) P = ⊤
OnCalls (Firm f z) P = ⊤
