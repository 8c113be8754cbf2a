-- What each of the six calls answers and leaves, as a function of the state, the centre's lines, the queue rule and the
-- centre's own rule. Assumes nothing.
use Rattle.std.specs.Prelude.{ℕ, suc, ◌+◌, ◌-◌, Bool, true, false, cond, not, ◌&&◌, ◌||◌, List, [], ◌∷◌, ◌++◌, length, ℤ, pos, negsuc, Some, None, Ok, Err, Option, Result, ◌==◌, int_le, nat_le, nat_lt, unsigned_abs}
use Rattle.ordered.specs.Key.{eq_z}
use Rattle.clearing.specs.Centre.{Lines, Own, adjusted, holds, verdict}
use Rattle.clearing.specs.Line.{hold, lots_max, release, settle}
use Rattle.clearing.specs.Side.{other}
use Rattle.clearing.specs.declared.cause.Denial.{Denial}
use Rattle.clearing.specs.declared.side.Side.{Side}
use Rattle.clearing.specs.declared.side.Side.TheVariants.{Buy, Sell}
use Rattle.dealing.specs.Replies.{Reply}
use Rattle.dealing.specs.declared.call.Call.{Call}
use Rattle.dealing.specs.declared.call.Call.TheVariants.{Open, Enter, Withdraw, Reduce, Suspend, Resume}
use Rattle.dealing.specs.declared.call.Entry.{Entry}
use Rattle.dealing.specs.declared.call.Kind.{Kind}
use Rattle.dealing.specs.declared.call.Kind.TheVariants.{Limited, Market}
use Rattle.dealing.specs.declared.call.Rest.{Rest}
use Rattle.dealing.specs.declared.call.Rest.TheVariants.{Queue, TakeOff, InFull}
use Rattle.dealing.specs.declared.outcome.Figures.{Figures}
use Rattle.dealing.specs.declared.outcome.Outcome.{Outcome}
use Rattle.dealing.specs.declared.outcome.Outcome.TheVariants.{Filled, Resting, PartResting, TakenOff, PartOffAtLimit, PartOffAtOwn, Withdrawn, Reduced, Opened}
use Rattle.dealing.specs.declared.outcome.Outcome.TheVariants.{Suspended as SuspendedNow, Resumed as ResumedNow}
use Rattle.dealing.specs.declared.refusal.Refusal.{Refusal}
use Rattle.dealing.specs.declared.refusal.Refusal.TheVariants.{WrongPeriod, LotsOutOfRange, MarketTerms, PriceOutOfBand, NumbersUsedUp, OwnOrderFirst, NotInFull, RegisterFull, QueueFull, NoSuchOrder, NotYourOrder, ReductionOutOfRange, OutOfStep, CentreDenies}
use Rattle.market.specs.Order.{account_of, joined, lots_of, lots_resting, lower, order_of, party_on, side_of}
use Rattle.market.specs.Rule.{Rule}
use Rattle.market.specs.State.{State, is_suspended, is_trading, is_unopened, order_numbered, queue_of, with_book, with_period, with_terms}
use Rattle.market.specs.Walk.{Walked, eligible_for, walk}
use Rattle.market.specs.declared.ending.Ending.{Ending}
use Rattle.market.specs.declared.ending.Ending.TheVariants.{Filled as filled, Own as own, Short as short}
use Rattle.market.specs.declared.order.Order.{Order}
use Rattle.market.specs.declared.period.Period.TheVariants.{Trading, Suspended}
use Rattle.market.specs.declared.trade.Trade.{Trade}

-- what a call leaves, and its reply
pub record Done : Type 0 where
  pub state : State
  pub lines : Lines
  pub reply : Reply

abbrev pub done : State → Lines → Reply → Done
done S L r = record { state = S; lines = L; reply = r }

-- a refusal with its condition
pub record Check : Type 0 where
  pub fails : Bool
  pub refusal : Refusal

abbrev pub check : Bool → Refusal → Check
check b r = record { fails = b; refusal = r }

-- the first refusal whose condition holds
abbrev pub first_of : List Check → Option Refusal
first_of [] = None
first_of (c ∷ cs) = cond c.fails (Some c.refusal) (first_of cs)

-- yes where there is no refusal
abbrev pub allowed : Option Refusal → Result (Unit {0}) Refusal
allowed None = Ok tt
allowed (Some r) = Err r

-- a refused call changes nothing
abbrev pub unless : Option Refusal → State → Lines → Done → Done
unless (Some r) S L d = done S L (Err r)
unless None S L d = d

-- Opening, suspending and resuming

-- a number within 999,999,999 of 0
abbrev pub is_price : ℤ → Bool
is_price p = int_le (negsuc 999999998) p && int_le p (pos 999999999)

abbrev pub opening_fits : ℤ → ℤ → ℤ → Bool
opening_fits low high deviation = int_le low high && is_price low && is_price high && int_le (pos 0) deviation && int_le deviation (pos 999999999)

abbrev pub open_market : State → Lines → ℤ → ℤ → ℤ → Done
open_market S L low high deviation =
    unless (first_of (check (not (is_unopened S.period)) WrongPeriod ∷ check (not (opening_fits low high deviation)) PriceOutOfBand ∷ [])) S L
    (done (with_terms low high (unsigned_abs deviation) S) L (Ok Opened))

abbrev pub suspend : State → Lines → Done
suspend S L = unless (first_of (check (not (is_trading S.period)) WrongPeriod ∷ [])) S L (done (with_period Suspended S) L (Ok SuspendedNow))

abbrev pub resume : State → Lines → Done
resume S L = unless (first_of (check (not (is_suspended S.period)) WrongPeriod ∷ [])) S L (done (with_period Trading S) L (Ok ResumedNow))

-- Withdrawing and reducing

-- the centre has no line for the account, or one that holds fewer lots than the account has resting on that side
abbrev pub out_of_step : State → Lines → ℤ → Side → Bool
out_of_step S L a s = not (holds (L a) s (lots_resting a (queue_of s S)))

abbrev pub figures_of : ℕ → ℕ → ℕ → ℕ → Figures
figures_of number traded resting off = record { number = number; traded = traded; resting = resting; taken_off = off }

-- n lots of a resting order are taken off
abbrev pub off_the_book : State → Lines → Order → ℕ → Outcome → Done
off_the_book S L o n outcome =
    done (with_book (side_of o) (lower o.number n (queue_of (side_of o) S)) (queue_of (other (side_of o)) S) S.last S.register S)
    (adjusted L (account_of o) (release (side_of o) n)) (Ok outcome)

-- the refusals of a withdrawal by the account a of the order o, in their order
abbrev pub withdraw_checks : State → Lines → ℤ → Order → List Check
withdraw_checks S L a o =
    check (not (eq_z (account_of o) a)) NotYourOrder
    ∷ check (out_of_step S L (account_of o) (side_of o)) OutOfStep
    ∷ []

abbrev pub withdraw_order : State → Lines → ℤ → Option Order → Done
withdraw_order S L a None = done S L (Err NoSuchOrder)
withdraw_order S L a (Some o) =
    unless (first_of (withdraw_checks S L a o)) S L
    (off_the_book S L o (lots_of o) (Withdrawn (figures_of o.number 0 0 (lots_of o))))

-- lots of a reduction: at least 1, and fewer than the order has left
abbrev pub reduction_fits : ℤ → Order → Bool
reduction_fits n o = int_le (pos 1) n && not (int_le (pos (lots_of o)) n)

-- the refusals of a reduction by n lots, in their order
abbrev pub reduce_checks : State → Lines → ℤ → ℤ → Order → List Check
reduce_checks S L a n o =
    check (not (eq_z (account_of o) a)) NotYourOrder
    ∷ check (not (reduction_fits n o)) ReductionOutOfRange
    ∷ check (out_of_step S L (account_of o) (side_of o)) OutOfStep
    ∷ []

abbrev pub reduce_order : State → Lines → ℤ → ℤ → Option Order → Done
reduce_order S L a n None = done S L (Err NoSuchOrder)
reduce_order S L a n (Some o) =
    unless (first_of (reduce_checks S L a n o)) S L
    (off_the_book S L o (unsigned_abs n) (Reduced (figures_of o.number 0 (lots_of o - unsigned_abs n) (unsigned_abs n))))

abbrev pub withdraw : State → Lines → ℤ → ℤ → Done
withdraw S L a k =
    unless (first_of (check (is_unopened S.period) WrongPeriod ∷ [])) S L (withdraw_order S L a (order_numbered S k))

abbrev pub reduce : State → Lines → ℤ → ℤ → ℤ → Done
reduce S L a k n =
    unless (first_of (check (is_unopened S.period) WrongPeriod ∷ [])) S L (reduce_order S L a n (order_numbered S k))

-- Entering

-- an entry's lots, as a count
abbrev pub entry_lots : Entry → ℕ
entry_lots e = unsigned_abs e.lots

-- the walk that an entry would make
abbrev pub walk_of : Rule → State → Entry → Walked
walk_of R S e =
    walk (eligible_for e.kind R S.deviation (suc S.last) (queue_of (other e.side) S) e) e (suc S.last) (entry_lots e) (queue_of (other e.side) S)

abbrev pub lots_fit : ℤ → Bool
lots_fit n = int_le (pos 1) n && int_le n (pos lots_max)

abbrev pub queues_rest : Rest → Bool
queues_rest Queue = true
queues_rest TakeOff = false
queues_rest InFull = false

abbrev pub in_full : Rest → Bool
in_full Queue = false
in_full TakeOff = false
in_full InFull = true

-- a market entry that would queue its rest, or that names a price
abbrev pub bad_market_terms : Kind → Entry → Bool
bad_market_terms Limited e = false
bad_market_terms Market e = queues_rest e.rest || not (eq_z e.price (pos 0))

-- a limited entry whose price is outside the band
abbrev pub out_of_band : Kind → Entry → State → Bool
out_of_band Limited e S = not (int_le S.low e.price && int_le e.price S.high)
out_of_band Market e S = false

abbrev pub is_filled : Ending → Bool
is_filled filled = true
is_filled short = false
is_filled own = false

abbrev pub is_short : Ending → Bool
is_short filled = false
is_short short = true
is_short own = false

abbrev pub is_own : Ending → Bool
is_own filled = false
is_own short = false
is_own own = true

-- the rest of an entry joins its queue: after short, where it is to be queued
abbrev pub rest_joins : Entry → Ending → Bool
rest_joins e x = is_short x && queues_rest e.rest

-- the refusals of an entry, in their order. First those that its terms decide
abbrev pub terms_checks : State → Entry → List Check
terms_checks S e =
    check (not (is_trading S.period)) WrongPeriod
    ∷ check (not (lots_fit e.lots)) LotsOutOfRange
    ∷ check (bad_market_terms e.kind e) MarketTerms
    ∷ check (out_of_band e.kind e S) PriceOutOfBand
    ∷ check (nat_le 999999 S.last) NumbersUsedUp
    ∷ []

-- then those that the ending of its walk and the number of trades decide
abbrev pub walk_checks : State → Entry → Ending → ℕ → List Check
walk_checks S e x trades =
    check (is_own x && trades == 0) OwnOrderFirst
    ∷ check (in_full e.rest && not (is_filled x)) NotInFull
    ∷ check (nat_lt 512 (length S.register + trades)) RegisterFull
    ∷ check (rest_joins e x && nat_le 64 (length (queue_of e.side S))) QueueFull
    ∷ []

-- one of the orders that a walk of the side s would trade with is out of step
abbrev pub trades_out_of_step : State → Lines → Side → List Trade → Bool
trades_out_of_step S L s [] = false
trades_out_of_step S L s (t ∷ ts) = out_of_step S L (party_on s t).account s || trades_out_of_step S L s ts

abbrev pub entry_checks : State → Lines → Entry → Walked → List Check
entry_checks S L e w =
    terms_checks S e
    ++ walk_checks S e w.ending (length w.trades)
    ++ check (trades_out_of_step S L (other e.side) w.trades) OutOfStep
    ∷ []

-- and then the centre's, with its cause and depth
abbrev pub centre_denies : Option Denial → Option Refusal
centre_denies None = None
centre_denies (Some d) = Some (CentreDenies d)

abbrev pub or_else : {X : Type 0} → Option X → Option X → Option X
or_else (Some x) o = Some x
or_else None o = o

abbrev pub entry_refusal : Own → State → Lines → Entry → Walked → Option Refusal
entry_refusal C S L e w = or_else (first_of (entry_checks S L e w)) (centre_denies (verdict C L e.account e.side (entry_lots e)))

-- a trade's lots are settled for both orders
abbrev pub settle_trade : Lines → Trade → Lines
settle_trade L t = adjusted (adjusted L t.buy.account (settle Buy t.lots)) t.sell.account (settle Sell t.lots)

abbrev pub settle_trades : Lines → List Trade → Lines
settle_trades L [] = L
settle_trades L (t ∷ ts) = settle_trades (settle_trade L t) ts

-- an outcome by the ending and the type, where no lot was traded and where some were
abbrev pub outcome_of : Ending → Rest → Bool → Figures → Outcome
outcome_of filled rest none f = Filled f
outcome_of short Queue true f = Resting f
outcome_of short Queue false f = PartResting f
outcome_of short TakeOff true f = TakenOff f
outcome_of short TakeOff false f = PartOffAtLimit f
outcome_of short InFull true f = TakenOff f
outcome_of short InFull false f = PartOffAtLimit f
outcome_of own rest none f = PartOffAtOwn f

-- the lots are reserved, the trades are settled, and the rest joins its queue or is given back
abbrev pub entered : Rule → State → Lines → Entry → Walked → Done
entered R S L e w =
    let s = e.side in
    let k = suc S.last in
    let settled = settle_trades (adjusted L e.account (hold s (entry_lots e))) w.trades in
    let traded = entry_lots e - w.left in
    let register = S.register ++ w.trades in
    cond (rest_joins e w.ending)
    (done (with_book s (joined R (order_of e.account s k e.price w.left) (queue_of s S)) w.queue k register S) settled
    (Ok (outcome_of w.ending e.rest (traded == 0) (figures_of k traded w.left 0))))
    (done (with_book s (queue_of s S) w.queue k register S) (adjusted settled e.account (release s w.left))
    (Ok (outcome_of w.ending e.rest (traded == 0) (figures_of k traded 0 w.left))))

abbrev pub enter : Rule → Own → State → Lines → Entry → Done
enter R C S L e = unless (entry_refusal C S L e (walk_of R S e)) S L (entered R S L e (walk_of R S e))

-- Any of the six
abbrev pub answer : Rule → Own → State → Lines → Call → Done
answer R C S L (Open low high deviation) = open_market S L low high deviation
answer R C S L (Enter e) = enter R C S L e
answer R C S L (Withdraw a k) = withdraw S L a k
answer R C S L (Reduce a k n) = reduce S L a k n
answer R C S L Suspend = suspend S L
answer R C S L Resume = resume S L
