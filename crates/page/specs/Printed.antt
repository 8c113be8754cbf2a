-- The printed line of a reply, and the reply of a printed line. Assumes nothing.
use Rattle.std.specs.Prelude.{◌≡◌, ℕ, Bool, false, cond, List, [], ◌∷◌, ◌++◌, length, take, drop, Some, None, Ok, Err, Option, Result, ◌==◌, nat_lt, slice_index_or}
use Rattle.std.specs.Option.{option_map, ok_or}
use Rattle.std.specs.Str.{bytes_eq}
use Rattle.clearing.specs.Cause.{cause_number}
use Rattle.clearing.specs.declared.cause.Cause.{Cause}
use Rattle.clearing.specs.declared.cause.Cause.TheVariants.{NoLine, OutOfRange, CentreRule, OverFirmCap, NotHeld, BadSetting}
use Rattle.clearing.specs.declared.cause.Denial.{Denial}
use Rattle.dealing.specs.Replies.{Reply, denial, figures, no_figures, place, reply_number}
use Rattle.dealing.specs.declared.outcome.Figures.{Figures}
use Rattle.dealing.specs.declared.outcome.Outcome.TheVariants.{Filled, Resting, PartResting, TakenOff, PartOffAtLimit, PartOffAtOwn, Withdrawn, Reduced, Suspended, Resumed, Opened}
use Rattle.dealing.specs.declared.refusal.Refusal.{Refusal}
use Rattle.dealing.specs.declared.refusal.Refusal.TheVariants.{WrongPeriod, LotsOutOfRange, MarketTerms, PriceOutOfBand, NumbersUsedUp, OwnOrderFirst, NotInFull, RegisterFull, QueueFull, NoSuchOrder, NotYourOrder, ReductionOutOfRange, OutOfStep, CentreDenies, LineTooShort, CommandLength, CommandLetter, CommandNumber, NotPrintable}
use Rattle.page.specs.declared.printed.Column.{Column}
use Rattle.page.specs.declared.printed.PageLine.{PageLine}
use Rattle.page.specs.Columns.{across, all_fit, numeral}
use Rattle.page.specs.Phrases.{Table, filled, found_from}

abbrev pub figures_of : Reply → Figures
figures_of (Ok o) = figures o
figures_of (Err e) = no_figures

abbrev pub denial_of : Reply → Option Denial
denial_of (Ok o) = None
denial_of (Err e) = denial e

abbrev pub cause_of : Option Denial → ℕ
cause_of None = 0
cause_of (Some d) = cause_number d.cause

abbrev pub depth_of : Option Denial → ℕ
depth_of None = 0
depth_of (Some d) = d.depth

abbrev pub col : ℕ → ℕ → Column
col w n = record { width = w; value = n }

-- columns 1 to 45: the line's number, the outcome, cause and depth, the order's number, lots traded, resting and taken off
abbrev pub layout : PageLine → List Column
layout l =
    col 7 l.number ∷ col 3 (reply_number l.reply)
    ∷ col 2 (cause_of (denial_of l.reply)) ∷ col 2 (depth_of (denial_of l.reply))
    ∷ col 7 (figures_of l.reply).number ∷ col 8 (figures_of l.reply).traded ∷ col 8 (figures_of l.reply).resting ∷ col 8 (figures_of l.reply).taken_off ∷ []

-- the 86 bytes of a line whose phrase stands at a place, where every number has room
abbrev pub placed_line : List (List ℕ) → PageLine → Option ℕ → Option (List ℕ)
placed_line ps l None = None
placed_line ps l (Some i) = cond (all_fit (layout l)) (Some (across (layout l) ++ 32 ∷ filled (slice_index_or ps i []))) None

-- the 86 bytes of a line, with these phrases: none for a reply that owns no phrase, or that has a number wider than its column
abbrev pub printed : List (List ℕ) → PageLine → Option (List ℕ)
printed ps l = placed_line ps l (place (reply_number l.reply))

-- what printing into so many bytes gives: first the room is judged
abbrev pub print_result : List (List ℕ) → PageLine → ℕ → Result (List ℕ) Refusal
print_result ps l n = cond (nat_lt n 86) (Err LineTooShort) (ok_or (printed ps l) NotPrintable)

-- whether it was printed
abbrev pub said : Result (List ℕ) Refusal → Result (Unit {0}) Refusal
said (Ok bytes) = Ok tt
said (Err e) = Err e

-- the caller's bytes after it: the line over the first 86, or all as they were
abbrev pub over : Result (List ℕ) Refusal → List ℕ → List ℕ
over (Ok bytes) out = bytes ++ drop 86 out
over (Err e) out = out

-- the number of columns k + 1 to k + w
abbrev pub number_at : ℕ → ℕ → List ℕ → ℕ
number_at k w bs = numeral 0 (take w (drop k bs))

-- a cause by its number, 6 where it has no other
abbrev pub cause_numbered : ℕ → Cause
cause_numbered n = cond (n == 1) NoLine (cond (n == 2) OutOfRange (cond (n == 3) CentreRule (cond (n == 4) OverFirmCap (cond (n == 5) NotHeld BadSetting))))

abbrev pub figures_at : List ℕ → Figures
figures_at bs = record { number = number_at 14 7 bs; traded = number_at 21 8 bs; resting = number_at 29 8 bs; taken_off = number_at 37 8 bs }

abbrev pub denial_at : List ℕ → Denial
denial_at bs = record { cause = cause_numbered (number_at 10 2 bs); depth = number_at 12 2 bs }

-- the replies that own a phrase, in the sequence of their phrases
abbrev pub replies : Figures → Denial → List Reply
replies f d = Err WrongPeriod ∷ Err LotsOutOfRange ∷ Err MarketTerms ∷ Err PriceOutOfBand ∷ Err NumbersUsedUp ∷ Err OwnOrderFirst ∷ Err NotInFull ∷ Err RegisterFull ∷ Err QueueFull ∷ Err NoSuchOrder ∷ Err NotYourOrder ∷ Err ReductionOutOfRange ∷ Err OutOfStep ∷ Err (CentreDenies d) ∷ Err CommandLength ∷ Err CommandLetter ∷ Err CommandNumber ∷ Ok (Filled f) ∷ Ok (Resting f) ∷ Ok (PartResting f) ∷ Ok (TakenOff f) ∷ Ok (PartOffAtLimit f) ∷ Ok (PartOffAtOwn f) ∷ Ok (Withdrawn f) ∷ Ok (Reduced f) ∷ Ok Suspended ∷ Ok Resumed ∷ Ok Opened ∷ []

-- the only line that these bytes can be, if the phrase at a place is theirs
abbrev pub guess : List ℕ → ℕ → PageLine
guess bs i = record { number = number_at 0 7 bs; reply = slice_index_or (replies (figures_at bs) (denial_at bs)) i (Ok Opened) }

abbrev pub candidate : List (List ℕ) → List ℕ → Option PageLine
candidate ps bs = option_map (guess bs) (found_from 0 (take 40 (drop 46 bs)) ps)

abbrev pub same_line : Option (List ℕ) → List ℕ → Bool
same_line None bs = false
same_line (Some line) bs = bytes_eq line (take 86 bs)

-- a line is taken for what it can be only where printing that gives the same 86 bytes
abbrev pub confirmed : List (List ℕ) → List ℕ → Option PageLine → Result PageLine Refusal
confirmed ps bs None = Err NotPrintable
confirmed ps bs (Some l) = cond (same_line (printed ps l) bs) (Ok l) (Err NotPrintable)

-- what a line reads back as: first its length is judged
abbrev pub read_back : List (List ℕ) → List ℕ → Result PageLine Refusal
read_back ps bs = cond (nat_lt (length bs) 86) (Err LineTooShort) (confirmed ps bs (candidate ps bs))

-- every line that is printed, with any bytes after it, reads back as what it was printed for
abbrev pub PrintedReadsBack : Type 0
PrintedReadsBack = (ps : List (List ℕ)) → Table ps → (l : PageLine) (bytes more : List ℕ) → printed ps l ≡ Some bytes → read_back ps (bytes ++ more) ≡ Ok l

-- every line that reads back is what printing that gives
abbrev pub ReadBackPrints : Type 0
ReadBackPrints = (ps : List (List ℕ)) (bs : List ℕ) (l : PageLine) → read_back ps bs ≡ Ok l → printed ps l ≡ Some (take 86 bs)

-- two printed lines with the same phrase columns have the same outcome
abbrev pub PhraseTells : Type 0
PhraseTells = (ps : List (List ℕ)) → Table ps → (l m : PageLine) (a b : List ℕ) → printed ps l ≡ Some a → printed ps m ≡ Some b → drop 46 a ≡ drop 46 b → reply_number l.reply ≡ reply_number m.reply
