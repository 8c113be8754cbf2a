-- A reply that the page has room for is printed. Assumes nothing.
use Rattle.std.proofs.Common.{◌≡◌, ℕ, ◌^◌, ◌<◌, ◌≤◌, true, false, cond, eqb, List, length, is_some, Some, None, Ok, Err, Option, IfSome, refl, ap, ◌∙◌, subst, arith, lit<, lit≤}
use Rattle.std.specs.Option.{ok_or}
use Rattle.std.proofs.lemmas.Bool.{and_from, cond-false, cond-true, false≢true, le-ltb, lt-ltb}
use Rattle.clearing.specs.Cause.{cause_number}
use Rattle.clearing.specs.declared.cause.Cause.TheVariants.{NoLine, OutOfRange, CentreRule, OverFirmCap, NotHeld, BadSetting}
use Rattle.clearing.specs.declared.cause.Denial.{Denial}
use Rattle.dealing.specs.Replies.{Reply, denial, figures, outcome_number, place, refusal_number, reply_number}
use Rattle.dealing.specs.declared.call.Call.{Call}
use Rattle.dealing.specs.declared.outcome.Outcome.{Outcome}
use Rattle.dealing.specs.declared.outcome.Outcome.TheVariants as outcome
use Rattle.dealing.specs.declared.refusal.Refusal.{Refusal}
use Rattle.dealing.specs.declared.refusal.Refusal.TheVariants as refusal
use Rattle.market.specs.Fits.{FiguresFit, IsMarketReply, is_market_number}
use Rattle.page.specs.Columns.{all_fit}
use Rattle.page.specs.Command.{call_of, call_or_refusal, head_of, read_command}
use Rattle.page.specs.Printed.{cause_of, denial_of, depth_of, figures_of, layout, placed_line, print_result, printed}
use Rattle.desk.specs.Desk.{FitsPage, RefusalFits, page_line}

small_cause : (d : Option Denial) → cause_of d < 100
small_cause None = lit< tt
small_cause (Some d) =
    elim d.cause as (λ c. cause_number c < 100) [ NoLine ↦ lit< tt | OutOfRange ↦ lit< tt | CentreRule ↦ lit< tt | OverFirmCap ↦ lit< tt | NotHeld ↦ lit< tt | BadSetting ↦ lit< tt ]

small_outcome : (o : Outcome) → outcome_number o < 1000
small_outcome (outcome.Filled f) = lit< tt
small_outcome (outcome.Resting f) = lit< tt
small_outcome (outcome.PartResting f) = lit< tt
small_outcome (outcome.TakenOff f) = lit< tt
small_outcome (outcome.PartOffAtLimit f) = lit< tt
small_outcome (outcome.PartOffAtOwn f) = lit< tt
small_outcome (outcome.Withdrawn f) = lit< tt
small_outcome (outcome.Reduced f) = lit< tt
small_outcome outcome.Suspended = lit< tt
small_outcome outcome.Resumed = lit< tt
small_outcome outcome.Opened = lit< tt

small_refusal : (e : Refusal) → refusal_number e < 1000
small_refusal refusal.WrongPeriod = lit< tt
small_refusal refusal.LotsOutOfRange = lit< tt
small_refusal refusal.MarketTerms = lit< tt
small_refusal refusal.PriceOutOfBand = lit< tt
small_refusal refusal.NumbersUsedUp = lit< tt
small_refusal refusal.OwnOrderFirst = lit< tt
small_refusal refusal.NotInFull = lit< tt
small_refusal refusal.RegisterFull = lit< tt
small_refusal refusal.QueueFull = lit< tt
small_refusal refusal.NoSuchOrder = lit< tt
small_refusal refusal.NotYourOrder = lit< tt
small_refusal refusal.ReductionOutOfRange = lit< tt
small_refusal refusal.OutOfStep = lit< tt
small_refusal (refusal.CentreDenies d) = lit< tt
small_refusal refusal.UnsoundText = lit< tt
small_refusal refusal.SharedPhrase = lit< tt
small_refusal refusal.LineTooShort = lit< tt
small_refusal refusal.CommandLength = lit< tt
small_refusal refusal.CommandLetter = lit< tt
small_refusal refusal.CommandNumber = lit< tt
small_refusal refusal.NotPrintable = lit< tt

small_number : (reply : Reply) → reply_number reply < 1000
small_number (Ok o) = small_outcome o
small_number (Err e) = small_refusal e

-- each number is narrower than its column
fits : (number : ℕ) (reply : Reply) → number ≤ 9999999 → FitsPage reply → all_fit (layout (page_line number reply)) ≡ true
fits number reply low room =
    and_from _ _ (lt-ltb number (10 ^ 7) (omega arith))
    (and_from _ _ (lt-ltb _ (10 ^ 3) (small_number reply))
    (and_from _ _ (lt-ltb _ (10 ^ 2) (small_cause (denial_of reply)))
    (and_from _ _ (lt-ltb (depth_of (denial_of reply)) (10 ^ 2) (omega arith))
    (and_from _ _ (lt-ltb (figures_of reply).number (10 ^ 7) (omega arith))
    (and_from _ _ (lt-ltb (figures_of reply).traded (10 ^ 8) (omega arith))
    (and_from _ _ (lt-ltb (figures_of reply).resting (10 ^ 8) (omega arith))
    (and_from _ _ (lt-ltb (figures_of reply).taken_off (10 ^ 8) (omega arith)) refl)))))))

module _ (ps : List (List ℕ)) (number : ℕ) (reply : Reply) where
  placed : (o : Option ℕ) → is_some o ≡ true → all_fit (layout (page_line number reply)) ≡ true → (line : List ℕ) × (placed_line ps (page_line number reply) o ≡ Some line)
  placed None e f = absurd (false≢true e)
  placed (Some i) e f = (_, cond-true _ _ _ f)

  -- there is a line for it
  pub fitting_has_line : number ≤ 9999999 → FitsPage reply → (line : List ℕ) × (printed ps (page_line number reply) ≡ Some line)
  fitting_has_line low room = placed (place (reply_number reply)) room.phrased (fits number reply low room)

  -- and it is what printing gives
  pub printed_is_result : (n : ℕ) → 86 ≤ n → (line : List ℕ) → printed ps (page_line number reply) ≡ Some line → print_result ps (page_line number reply) n ≡ Ok line
  printed_is_result n long line is = cond-false _ _ _ (le-ltb n 86 long) ∙ ap (λ o. ok_or o refusal.NotPrintable) is

-- the three refusals of reading fit
number_fits : (o : Option Call) → RefusalFits (ok_or o refusal.CommandNumber)
number_fits None = record { phrased = refl; depth = lit≤ tt; number = lit≤ tt; traded = lit≤ tt; resting = lit≤ tt; off = lit≤ tt }
number_fits (Some call) = tt

letter_fits : (bs : List ℕ) → RefusalFits (call_or_refusal bs (head_of bs))
letter_fits bs =
    elim (head_of bs) as (λ o. RefusalFits (call_or_refusal bs o)) [
      | None ↦ record { phrased = refl; depth = lit≤ tt; number = lit≤ tt; traded = lit≤ tt; resting = lit≤ tt; off = lit≤ tt }
      | Some h ↦ number_fits (call_of h bs)
    ]

unread_fits : (bs : List ℕ) → RefusalFits (read_command bs)
unread_fits bs =
    elim (eqb (length bs) 37) as (λ t. RefusalFits (cond t (call_or_refusal bs (head_of bs)) (Err refusal.CommandLength))) [
      | true ↦ letter_fits bs
      | false ↦ record { phrased = refl; depth = lit≤ tt; number = lit≤ tt; traded = lit≤ tt; resting = lit≤ tt; off = lit≤ tt }
    ]

pub refusal_fits : (bs : List ℕ) (e : Refusal) → read_command bs ≡ Err e → FitsPage (Err e)
refusal_fits bs e is = subst RefusalFits is (unread_fits bs)

-- A market's replies

-- the numbers that a market gives own a phrase
owned_outcome : (o : Outcome) → is_some (place (outcome_number o)) ≡ true
owned_outcome (outcome.Filled f) = refl
owned_outcome (outcome.Resting f) = refl
owned_outcome (outcome.PartResting f) = refl
owned_outcome (outcome.TakenOff f) = refl
owned_outcome (outcome.PartOffAtLimit f) = refl
owned_outcome (outcome.PartOffAtOwn f) = refl
owned_outcome (outcome.Withdrawn f) = refl
owned_outcome (outcome.Reduced f) = refl
owned_outcome outcome.Suspended = refl
owned_outcome outcome.Resumed = refl
owned_outcome outcome.Opened = refl

owned_refusal : (e : Refusal) → is_market_number (refusal_number e) ≡ true → is_some (place (refusal_number e)) ≡ true
owned_refusal refusal.WrongPeriod given = refl
owned_refusal refusal.LotsOutOfRange given = refl
owned_refusal refusal.MarketTerms given = refl
owned_refusal refusal.PriceOutOfBand given = refl
owned_refusal refusal.NumbersUsedUp given = refl
owned_refusal refusal.OwnOrderFirst given = refl
owned_refusal refusal.NotInFull given = refl
owned_refusal refusal.RegisterFull given = refl
owned_refusal refusal.QueueFull given = refl
owned_refusal refusal.NoSuchOrder given = refl
owned_refusal refusal.NotYourOrder given = refl
owned_refusal refusal.ReductionOutOfRange given = refl
owned_refusal refusal.OutOfStep given = refl
owned_refusal (refusal.CentreDenies d) given = refl
owned_refusal refusal.UnsoundText given = absurd (false≢true given)
owned_refusal refusal.SharedPhrase given = absurd (false≢true given)
owned_refusal refusal.LineTooShort given = absurd (false≢true given)
owned_refusal refusal.CommandLength given = refl
owned_refusal refusal.CommandLetter given = refl
owned_refusal refusal.CommandNumber given = refl
owned_refusal refusal.NotPrintable given = absurd (false≢true given)

shallow : (d : Option Denial) → IfSome d (λ x. x.depth ≤ 99) → depth_of d ≤ 99
shallow None few = lit≤ tt
shallow (Some d) few = few

-- the page has room for every reply of a market
pub market_reply_fits : (reply : Reply) → IsMarketReply reply → FitsPage reply
market_reply_fits (Ok o) reply =
    let it : FiguresFit (figures o) = reply.figures in
    let number = it.number in
    let traded = it.traded in
    let resting = it.resting in
    let off = it.off in
    record { phrased = owned_outcome o; depth = lit≤ tt; number = omega arith; traded = omega arith; resting = omega arith; off = omega arith }
market_reply_fits (Err e) reply =
    record { phrased = owned_refusal e reply.number; depth = shallow (denial e) reply.depth; number = lit≤ tt; traded = lit≤ tt; resting = lit≤ tt; off = lit≤ tt }
