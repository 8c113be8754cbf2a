-- The replies to a call, each with its number, and the 28 of them that own a phrase. Assumes nothing.
use Rattle.std.specs.Prelude.{ℕ, suc, cond, List, [], ◌∷◌, length, Some, None, Ok, Err, Option, Result, ◌==◌, nat_lt, slice_index}
use Rattle.clearing.specs.declared.cause.Denial.{Denial}
use Rattle.dealing.specs.declared.outcome.Figures.{Figures}
use Rattle.dealing.specs.declared.outcome.Outcome.{Outcome}
use Rattle.dealing.specs.declared.outcome.Outcome.TheVariants.{Filled, Resting, PartResting, TakenOff, PartOffAtLimit, PartOffAtOwn, Withdrawn, Reduced, Suspended, Resumed, Opened}
use Rattle.dealing.specs.declared.refusal.Refusal.{Refusal}
use Rattle.dealing.specs.declared.refusal.Refusal.TheVariants.{WrongPeriod, LotsOutOfRange, MarketTerms, PriceOutOfBand, NumbersUsedUp, OwnOrderFirst, NotInFull, RegisterFull, QueueFull, NoSuchOrder, NotYourOrder, ReductionOutOfRange, OutOfStep, CentreDenies, UnsoundText, SharedPhrase, LineTooShort, CommandLength, CommandLetter, CommandNumber, NotPrintable}

abbrev pub Reply : Type 0
Reply = Result Outcome Refusal

abbrev pub refusal_number : Refusal → ℕ
refusal_number WrongPeriod = 1
refusal_number LotsOutOfRange = 2
refusal_number MarketTerms = 3
refusal_number PriceOutOfBand = 4
refusal_number NumbersUsedUp = 5
refusal_number OwnOrderFirst = 6
refusal_number NotInFull = 7
refusal_number RegisterFull = 8
refusal_number QueueFull = 9
refusal_number NoSuchOrder = 10
refusal_number NotYourOrder = 11
refusal_number ReductionOutOfRange = 12
refusal_number OutOfStep = 13
refusal_number (CentreDenies d) = 14
refusal_number UnsoundText = 15
refusal_number SharedPhrase = 16
refusal_number LineTooShort = 17
refusal_number CommandLength = 18
refusal_number CommandLetter = 19
refusal_number CommandNumber = 20
refusal_number NotPrintable = 21

-- the cause and the depth: they go with the centre's refusal alone
abbrev pub denial : Refusal → Option Denial
denial WrongPeriod = None
denial LotsOutOfRange = None
denial MarketTerms = None
denial PriceOutOfBand = None
denial NumbersUsedUp = None
denial OwnOrderFirst = None
denial NotInFull = None
denial RegisterFull = None
denial QueueFull = None
denial NoSuchOrder = None
denial NotYourOrder = None
denial ReductionOutOfRange = None
denial OutOfStep = None
denial (CentreDenies d) = Some d
denial UnsoundText = None
denial SharedPhrase = None
denial LineTooShort = None
denial CommandLength = None
denial CommandLetter = None
denial CommandNumber = None
denial NotPrintable = None

abbrev pub outcome_number : Outcome → ℕ
outcome_number (Filled f) = 50
outcome_number (Resting f) = 51
outcome_number (PartResting f) = 52
outcome_number (TakenOff f) = 53
outcome_number (PartOffAtLimit f) = 54
outcome_number (PartOffAtOwn f) = 55
outcome_number (Withdrawn f) = 56
outcome_number (Reduced f) = 57
outcome_number Suspended = 58
outcome_number Resumed = 59
outcome_number Opened = 60

abbrev pub reply_number : Reply → ℕ
reply_number (Ok o) = outcome_number o
reply_number (Err e) = refusal_number e

abbrev pub no_figures : Figures
no_figures = record { number = 0; traded = 0; resting = 0; taken_off = 0 }

-- the order's number and lots: they go with 50 to 57 alone
abbrev pub figures : Outcome → Figures
figures (Filled f) = f
figures (Resting f) = f
figures (PartResting f) = f
figures (TakenOff f) = f
figures (PartOffAtLimit f) = f
figures (PartOffAtOwn f) = f
figures (Withdrawn f) = f
figures (Reduced f) = f
figures Suspended = no_figures
figures Resumed = no_figures
figures Opened = no_figures

-- the numbers of those that own a phrase, in the sequence of their phrases
abbrev pub owners : List ℕ
owners = 1 ∷ 2 ∷ 3 ∷ 4 ∷ 5 ∷ 6 ∷ 7 ∷ 8 ∷ 9 ∷ 10 ∷ 11 ∷ 12 ∷ 13 ∷ 14 ∷ 18 ∷ 19 ∷ 20 ∷ 50 ∷ 51 ∷ 52 ∷ 53 ∷ 54 ∷ 55 ∷ 56 ∷ 57 ∷ 58 ∷ 59 ∷ 60 ∷ []

-- where a number stands in a list, counted from k
abbrev pub found_from : ℕ → ℕ → List ℕ → Option ℕ
found_from k n [] = None
found_from k n (m ∷ ms) = cond (n == m) (Some k) (found_from (suc k) n ms)

-- the place of a number's phrase
abbrev pub place : ℕ → Option ℕ
place n = found_from 0 n owners

-- the number that owns the phrase at a place
abbrev pub owner : ℕ → Option ℕ
owner i = cond (nat_lt i (length owners)) (Some (slice_index owners i)) None
