-- What a log or a message says of a refusal and of an outcome. Assumes nothing.
use Rattle.std.specs.Prelude.{ℕ, List, [], ◌++◌, codes, Some, None, Option}
use Rattle.std.specs.Fmt.{decimal}
use Rattle.clearing.specs.declared.cause.Denial.{Denial}
use Rattle.clearing.specs.Words.{denial_text}
use Rattle.dealing.specs.Replies.{denial, outcome_number, refusal_number}
use Rattle.dealing.specs.declared.outcome.Figures.{Figures}
use Rattle.dealing.specs.declared.outcome.Outcome.{Outcome}
use Rattle.dealing.specs.declared.outcome.Outcome.TheVariants.{Filled, Resting, PartResting, TakenOff, PartOffAtLimit, PartOffAtOwn, Withdrawn, Reduced, Suspended, Resumed, Opened}
use Rattle.dealing.specs.declared.refusal.Refusal.{Refusal}
use Rattle.dealing.specs.declared.refusal.Refusal.TheVariants.{WrongPeriod, LotsOutOfRange, MarketTerms, PriceOutOfBand, NumbersUsedUp, OwnOrderFirst, NotInFull, RegisterFull, QueueFull, NoSuchOrder, NotYourOrder, ReductionOutOfRange, OutOfStep, CentreDenies, UnsoundText, SharedPhrase, LineTooShort, CommandLength, CommandLetter, CommandNumber, NotPrintable}

-- words, and the number that the page has for them
abbrev pub numbered : List ℕ → ℕ → List ℕ
numbered words n = words ++ codes " (" ++ decimal n ++ codes ")"

-- each refusal has words that no other has
abbrev pub refusal_words : Refusal → List ℕ
refusal_words WrongPeriod = codes "the market's period does not allow the call"
refusal_words LotsOutOfRange = codes "the entry's lots are out of range"
refusal_words MarketTerms = codes "a market entry has price 0 and queues nothing"
refusal_words PriceOutOfBand = codes "the price or the opening's terms are out of range"
refusal_words NumbersUsedUp = codes "no order number is left"
refusal_words OwnOrderFirst = codes "refused before any trade, the account's own order is next"
refusal_words NotInFull = codes "the entry would not trade in full"
refusal_words RegisterFull = codes "the trade register is full"
refusal_words QueueFull = codes "the queue is full"
refusal_words NoSuchOrder = codes "no resting order has this number"
refusal_words NotYourOrder = codes "the order belongs to another account"
refusal_words ReductionOutOfRange = codes "the lots to reduce by are out of range"
refusal_words OutOfStep = codes "the centre holds fewer lots than the account has resting"
refusal_words (CentreDenies d) = codes "the centre says no"
refusal_words UnsoundText = codes "the phrase text is unsound"
refusal_words SharedPhrase = codes "two phrases are equal"
refusal_words LineTooShort = codes "the line has under 86 bytes"
refusal_words CommandLength = codes "the command does not have 37 bytes"
refusal_words CommandLetter = codes "a letter of the command is not known"
refusal_words CommandNumber = codes "a number of the command is malformed"
refusal_words NotPrintable = codes "the line cannot be printed or read back"

-- what the centre said, with its cause and depth
abbrev pub centre_text : Option Denial → List ℕ
centre_text None = []
centre_text (Some d) = codes ": " ++ denial_text d

-- a refusal, with what the centre said where the refusal is the centre's
abbrev pub refusal_text : Refusal → List ℕ
refusal_text r = numbered (refusal_words r) (refusal_number r) ++ centre_text (denial r)

-- each outcome has words that no other has, and no refusal
abbrev pub outcome_words : Outcome → List ℕ
outcome_words (Filled f) = codes "all lots traded"
outcome_words (Resting f) = codes "no lot traded, all lots rest"
outcome_words (PartResting f) = codes "some lots traded, the others rest"
outcome_words (TakenOff f) = codes "no lot traded, all lots taken off"
outcome_words (PartOffAtLimit f) = codes "some lots traded, the others taken off, no further order meets"
outcome_words (PartOffAtOwn f) = codes "some lots traded, the others taken off, the account's own order is next"
outcome_words (Withdrawn f) = codes "the order is withdrawn"
outcome_words (Reduced f) = codes "the order is reduced"
outcome_words Suspended = codes "the market is suspended"
outcome_words Resumed = codes "the market is resumed"
outcome_words Opened = codes "the market is opened"

abbrev pub figures_text : Figures → List ℕ
figures_text f = codes "order " ++ decimal f.number ++ codes ", " ++ decimal f.traded ++ codes " traded, " ++ decimal f.resting ++ codes " resting, " ++ decimal f.taken_off ++ codes " taken off"

-- the order that an outcome is about, and its lots
abbrev pub order_text : Outcome → List ℕ
order_text (Filled f) = codes ": " ++ figures_text f
order_text (Resting f) = codes ": " ++ figures_text f
order_text (PartResting f) = codes ": " ++ figures_text f
order_text (TakenOff f) = codes ": " ++ figures_text f
order_text (PartOffAtLimit f) = codes ": " ++ figures_text f
order_text (PartOffAtOwn f) = codes ": " ++ figures_text f
order_text (Withdrawn f) = codes ": " ++ figures_text f
order_text (Reduced f) = codes ": " ++ figures_text f
order_text Suspended = []
order_text Resumed = []
order_text Opened = []

-- an outcome, with its figures where it is about an order
abbrev pub outcome_text : Outcome → List ℕ
outcome_text o = numbered (outcome_words o) (outcome_number o) ++ order_text o
