-- The law over runs, told from the history and the register: what rests, and what holds of the queues, of each account's
-- lots, of each trade and of their sequence. Neither the walk nor a call is named. Assumes nothing.
use Rattle.std.specs.Prelude.{◌≡◌, ℕ, suc, ◌+◌, ◌-◌, ◌<◌, ◌≤◌, min, max, true, false, cond, ◌⊎◌, List, [], ◌∷◌, ◌++◌, map, length, take, ℤ, ◌-ℤ◌, Some, None, Ok, Err, filter, Option, ◌==◌, nat_lt, unsigned_abs}
use Rattle.ordered.specs.Key.{eq_z}
use Rattle.ordered.specs.Row.{in_order}
use Rattle.clearing.specs.Centre.{Lines, Own}
use Rattle.clearing.specs.Line.{on}
use Rattle.clearing.specs.Side.{other}
use Rattle.clearing.specs.declared.line.Line.{Line}
use Rattle.clearing.specs.declared.side.Side.{Side}
use Rattle.clearing.specs.declared.side.Side.TheVariants.{Buy, Sell}
use Rattle.dealing.specs.Replies.{Reply}
use Rattle.dealing.specs.declared.call.Call.{Call}
use Rattle.dealing.specs.declared.call.Call.TheVariants.{Open, Enter, Withdraw, Reduce, Suspend, Resume}
use Rattle.dealing.specs.declared.call.Entry.{Entry}
use Rattle.dealing.specs.declared.call.Kind.{Kind}
use Rattle.dealing.specs.declared.call.Kind.TheVariants.{Limited, Market}
use Rattle.dealing.specs.declared.outcome.Figures.{Figures}
use Rattle.dealing.specs.declared.outcome.Outcome.{Outcome}
use Rattle.dealing.specs.declared.outcome.Outcome.TheVariants.{Filled, Resting, PartResting, TakenOff, PartOffAtLimit, PartOffAtOwn, Withdrawn, Reduced, Suspended, Resumed, Opened}
use Rattle.market.specs.Order.{account_of, before, lots_of, party, quote_of, quoted, side_of, trade_of}
use Rattle.market.specs.Rule.{Lawful, Rule, meets_across}
use Rattle.market.specs.Run.{Clear, Day, Step, new_day, run, step}
use Rattle.market.specs.State.{State, queue_of}
use Rattle.market.specs.declared.order.Order.{Order}
use Rattle.market.specs.declared.trade.Trade.{Trade}

-- What the history tells

-- what a call with its reply did: it opened the market with a deviation, an entry was accepted with an answer (50 to 55),
-- lots were taken off a resting order (56, 57), or nothing was done to any order
pub data Event : Type 0 where
  opened : ℕ → Event
  entered : Entry → Figures → Event
  lessened : Figures → Event
  nothing : Event

abbrev pub entry_event : Entry → Outcome → Event
entry_event e (Filled f) = entered e f
entry_event e (Resting f) = entered e f
entry_event e (PartResting f) = entered e f
entry_event e (TakenOff f) = entered e f
entry_event e (PartOffAtLimit f) = entered e f
entry_event e (PartOffAtOwn f) = entered e f
entry_event e (Withdrawn f) = nothing
entry_event e (Reduced f) = nothing
entry_event e Suspended = nothing
entry_event e Resumed = nothing
entry_event e Opened = nothing

abbrev pub lessening_event : Outcome → Event
lessening_event (Filled f) = nothing
lessening_event (Resting f) = nothing
lessening_event (PartResting f) = nothing
lessening_event (TakenOff f) = nothing
lessening_event (PartOffAtLimit f) = nothing
lessening_event (PartOffAtOwn f) = nothing
lessening_event (Withdrawn f) = lessened f
lessening_event (Reduced f) = lessened f
lessening_event Suspended = nothing
lessening_event Resumed = nothing
lessening_event Opened = nothing

abbrev pub accepted_event : Call → Outcome → Event
accepted_event (Open low high deviation) o = opened (unsigned_abs deviation)
accepted_event (Enter e) o = entry_event e o
accepted_event (Withdraw a k) o = lessening_event o
accepted_event (Reduce a k n) o = lessening_event o
accepted_event Suspend o = nothing
accepted_event Resume o = nothing

abbrev pub reply_event : Call → Reply → Event
reply_event c (Ok o) = accepted_event c o
reply_event c (Err r) = nothing

abbrev pub event_of : Step → Event
event_of s = reply_event s.call s.reply

abbrev pub events_of : List Step → List Event
events_of H = map event_of H

-- an accepted entry with its answer
pub record Accepted : Type 0 where
  pub entry : Entry
  pub answer : Figures

abbrev pub accepted_as : Entry → Figures → Accepted
accepted_as e f = record { entry = e; answer = f }

-- the accepted entry with the number k
abbrev pub numbered : List Event → ℕ → Option Accepted
numbered [] k = None
numbered (opened d ∷ E) k = numbered E k
numbered (entered e f ∷ E) k = cond (f.number == k) (Some (accepted_as e f)) (numbered E k)
numbered (lessened f ∷ E) k = numbered E k
numbered (nothing ∷ E) k = numbered E k

-- the deviation that the opening set
abbrev pub deviation_after : ℕ → List Event → ℕ
deviation_after d [] = d
deviation_after d (opened d' ∷ E) = deviation_after d' E
deviation_after d (entered e f ∷ E) = deviation_after d E
deviation_after d (lessened f ∷ E) = deviation_after d E
deviation_after d (nothing ∷ E) = deviation_after d E

-- Sums over a list
abbrev pub total : {X : Type 0} → (X → ℕ) → List X → ℕ
total f [] = 0
total f (x ∷ xs) = f x + total f xs

-- What rests

-- the resting order of a trade is the one with the smaller number, and the entry the one with the larger
abbrev pub resting_number : Trade → ℕ
resting_number t = min t.buy.number t.sell.number

abbrev pub entry_number : Trade → ℕ
entry_number t = max t.buy.number t.sell.number

-- lots of the trades in which the order numbered k was the resting one
abbrev pub traded_away : List Trade → ℕ → ℕ
traded_away G k = total (λ t. cond (resting_number t == k) t.lots 0) G

-- lots that a withdrawal or a reduction took off the order numbered k
abbrev pub lessened_by : ℕ → Event → ℕ
lessened_by k (opened d) = 0
lessened_by k (entered e f) = 0
lessened_by k (lessened f) = cond (f.number == k) f.taken_off 0
lessened_by k nothing = 0

abbrev pub lessened_lots : List Event → ℕ → ℕ
lessened_lots E k = total (lessened_by k) E

-- o rests after the events E and the trades G: its lots, with those of its trades, reductions and withdrawal, are the lots
-- that its entry's answer gave as resting, and some are left
pub record Rests (E : List Event) (G : List Trade) (o : Order) : Type 0 where
  pub came : Accepted
  pub entry : numbered E o.number ≡ Some came
  pub account : account_of o ≡ came.entry.account
  pub side : side_of o ≡ came.entry.side
  pub price : o.price ≡ came.entry.price
  pub lots : lots_of o + traded_away G o.number + lessened_lots E o.number ≡ came.answer.resting
  pub left : 1 ≤ lots_of o

-- o is one of the orders of a queue
abbrev pub In : Order → List Order → Type 0
In o [] = ⊥
In o (p ∷ q) = (o ≡ p) ⊎ In o q

-- the queue of the side s is in standing order, and holds exactly the orders that rest on that side
pub record Kept (R : Rule) (E : List Event) (G : List Trade) (s : Side) (q : List Order) : Type 0 where
  pub rest : (o : Order) → In o q → Rests E G o × (side_of o ≡ s)
  pub all : (o : Order) → Rests E G o → side_of o ≡ s → In o q
  pub ordered : in_order (before R) q ≡ true

-- Account sums

-- lots that count for the account a and the side s, of n lots of another or the same
abbrev pub counted : ℤ → Side → ℤ → Side → ℕ → ℕ
counted a Buy b Buy n = cond (eq_z b a) n 0
counted a Buy b Sell n = 0
counted a Sell b Buy n = 0
counted a Sell b Sell n = cond (eq_z b a) n 0

-- lots accepted: those of accepted entries
abbrev pub accepted_by : ℤ → Side → Event → ℕ
accepted_by a s (opened d) = 0
accepted_by a s (entered e f) = counted a s e.account e.side (unsigned_abs e.lots)
accepted_by a s (lessened f) = 0
accepted_by a s nothing = 0

abbrev pub lots_accepted : List Event → ℤ → Side → ℕ
lots_accepted E a s = total (accepted_by a s) E

-- lots taken off, for the account and side of the order: an entry's own, or those of the entry that was given the number
abbrev pub off_entry : ℤ → Side → Option Accepted → ℕ → ℕ
off_entry a s None n = 0
off_entry a s (Some x) n = counted a s x.entry.account x.entry.side n

abbrev pub off_by : ℤ → Side → List Event → Event → ℕ
off_by a s E (opened d) = 0
off_by a s E (entered e f) = counted a s e.account e.side f.taken_off
off_by a s E (lessened f) = off_entry a s (numbered E f.number) f.taken_off
off_by a s E nothing = 0

abbrev pub off_after : ℤ → Side → List Event → List Event → ℕ
off_after a s earlier [] = 0
off_after a s earlier (x ∷ E) = off_by a s earlier x + off_after a s (earlier ++ x ∷ []) E

abbrev pub lots_off : List Event → ℤ → Side → ℕ
lots_off E a s = off_after a s [] E

-- lots in the register: those of a trade count twice, as bought by one account and as sold by the other
abbrev pub lots_registered : List Trade → ℤ → Side → ℕ
lots_registered G a s = total (λ t. counted a s t.buy.account Buy t.lots + counted a s t.sell.account Sell t.lots) G

-- lots resting, in one queue
abbrev pub lots_queued : List Order → ℤ → Side → ℕ
lots_queued q a s = total (λ o. counted a s (account_of o) (side_of o) (lots_of o)) q

-- what the centre's line of an account shows; a missing one counts 0
abbrev pub held_on : Option Line → Side → ℕ
held_on None s = 0
held_on (Some l) s = (on s l).held

abbrev pub settled_on : Option Line → Side → ℕ
settled_on None s = 0
settled_on (Some l) s = (on s l).settled

pub record Balanced (E : List Event) (S : State) (L : Lines) (a : ℤ) (s : Side) : Type 0 where
  pub sums : lots_accepted E a s ≡ (lots_queued S.buys a s + lots_queued S.sells a s) + lots_registered S.register a s + lots_off E a s
  pub held : held_on (L a) s ≡ lots_queued S.buys a s + lots_queued S.sells a s
  pub settled : settled_on (L a) s ≡ lots_registered S.register a s

-- Trade priority

-- o rests, and no order that rests on its side stands before it
pub record First (R : Rule) (E : List Event) (G : List Trade) (o : Order) : Type 0 where
  pub rests : Rests E G o
  pub first : (p : Order) → Rests E G p → side_of p ≡ side_of o → before R p o ≡ false

-- the trades of entries before the one numbered k
abbrev pub trades_before : ℕ → List Trade → List Trade
trades_before k G = filter (λ t. nat_lt (entry_number t) k) G

-- o is priced no further than the deviation from the head that its side had when the entry numbered k came
pub record Near (R : Rule) (E : List Event) (G : List Trade) (k : ℕ) (o : Order) : Type 0 where
  pub head : Order
  pub stood_first : First R E (trades_before k G) head
  pub same_side : side_of head ≡ side_of o
  pub near : unsigned_abs (o.price -ℤ head.price) ≤ deviation_after 0 E

-- o is eligible for the entry numbered k: a limited one meets it, a market one finds its price near
abbrev pub Eligible : Kind → Rule → List Event → List Trade → Entry → ℕ → Order → Type 0
Eligible Limited R E G e k o = meets_across R e.side (quoted e.side e.price k) (quote_of o) ≡ true
Eligible Market R E G e k o = Near R E G k o

-- lots of the trades that the entry numbered k has made
abbrev pub traded_by : List Trade → ℕ → ℕ
traded_by G k = total (λ t. cond (entry_number t == k) t.lots 0) G

-- the trade t joins the entry e, numbered k, with the first order of the other side, after the events E and the trades G, for
-- the smaller of the lots that the two have left
pub record Matched (R : Rule) (E : List Event) (G : List Trade) (e : Entry) (k : ℕ) (t : Trade) : Type 0 where
  pub order : Order
  pub first : First R E G order
  pub across : side_of order ≡ other e.side
  pub apart : account_of order ≡ e.account → ⊥
  pub eligible : Eligible e.kind R E G e k order
  pub recorded : t ≡ trade_of e.side (party k e.account) order t.lots
  pub earlier : order.number < k
  pub lots : t.lots ≡ min (unsigned_abs e.lots - traded_by G k) (lots_of order)
  pub some : 1 ≤ t.lots

-- the trade t, made after the trades G, joined an accepted entry of the history
pub record Joined (R : Rule) (E : List Event) (G : List Trade) (t : Trade) : Type 0 where
  pub entry : Entry
  pub answer : Figures
  pub earlier : List Event
  pub later : List Event
  pub came : E ≡ earlier ++ entered entry answer ∷ later
  pub matched : Matched R earlier G entry answer.number t

-- The sequence of the register

-- trades stand as they were made: the number of the entry never falls from a trade to the next, from n on. Entries are
-- numbered as they come, and within the trades of one entry `priority` settles which came first
abbrev pub InSequence : ℕ → List Trade → Type 0
InSequence n [] = Unit {0}
InSequence n (t ∷ G) = (n ≤ entry_number t) × InSequence (entry_number t) G

-- The law

-- accepted entries are numbered one after another
abbrev pub Numbered : ℕ → List Event → Type 0
Numbered n [] = Unit {0}
Numbered n (opened d ∷ E) = Numbered n E
Numbered n (entered e f ∷ E) = (f.number ≡ suc n) × Numbered (suc n) E
Numbered n (lessened f ∷ E) = Numbered n E
Numbered n (nothing ∷ E) = Numbered n E

pub record Keeps (R : Rule) (E : List Event) (S : State) (L : Lines) : Type 0 where
  pub numbers : Numbered 0 E
  pub queues : (s : Side) → Kept R E S.register s (queue_of s S)
  pub uncrossed : (b s : Order) → In b S.buys → In s S.sells → R.meets (quote_of b) (quote_of s) ≡ false
  pub balanced : (a : ℤ) (s : Side) → Balanced E S L a s
  pub priority : (G : List Trade) (t : Trade) (later : List Trade) → S.register ≡ G ++ t ∷ later → Joined R E G t
  pub sequence : InSequence 0 S.register

-- what every day keeps
abbrev pub LawfulDay : Rule → Day → Type 0
LawfulDay R d = Keeps R (events_of d.history) d.state d.lines

-- at the start of a run and after each of its calls, the history is that of the whole run up to there, and the law holds
abbrev pub RunKeepsTheLaw : Rule → Own → Lines → List Call → Type 0
RunKeepsTheLaw R C L calls =
    Clear L → (k : ℕ) → k ≤ length calls →
    ((run R C (new_day L) (take k calls)).history ≡ take k (run R C (new_day L) calls).history) × LawfulDay R (run R C (new_day L) (take k calls))

-- for every lawful queue rule, every centre's own rule, lines with nothing held or settled, and every list of calls
abbrev pub EveryRunKeepsTheLaw : Type 0
EveryRunKeepsTheLaw = (R : Rule) → Lawful R → (C : Own) (L : Lines) (calls : List Call) → RunKeepsTheLaw R C L calls

-- how far the law settles the register: two markets that keep it over one history, and in which each entry traded as many
-- lots, have the same trades in the same sequence
abbrev pub LawPinsTheRegister : Type 0
LawPinsTheRegister =
    (R : Rule) → Lawful R → (E : List Event) (S T : State) (L M : Lines) → Keeps R E S L → Keeps R E T M →
    ((k : ℕ) → traded_by S.register k ≡ traded_by T.register k) → S.register ≡ T.register

-- A market as it is after some calls

-- calls to a new market over the lines L₀, with nothing held or settled, led to this state and these lines
abbrev pub LedTo : Rule → Own → Lines → List Call → State → Lines → Type 0
LedTo R C L₀ calls S L = Clear L₀ × ((run R C (new_day L₀) calls).state ≡ S) × ((run R C (new_day L₀) calls).lines ≡ L)

-- what a market's call with this reply keeps: whatever calls led to the market, they and this one lead to what it leaves, the
-- history has this reply last, and the law holds
abbrev pub CallKeepsTheLaw : Rule → Own → State → Lines → Call → Reply → State → Lines → Type 0
CallKeepsTheLaw R C S L c r S' L' =
    (L₀ : Lines) (calls : List Call) → LedTo R C L₀ calls S L →
    LedTo R C L₀ (calls ++ c ∷ []) S' L'
    × ((run R C (new_day L₀) (calls ++ c ∷ [])).history ≡ (run R C (new_day L₀) calls).history ++ step c r ∷ [])
    × Keeps R (events_of (run R C (new_day L₀) (calls ++ c ∷ [])).history) S' L'

-- a market in this state over these lines is what a run of the calls came to, and these are the replies to them, in their order
abbrev pub IsRun : Rule → Own → Lines → List Call → State → Lines → List Reply → Type 0
IsRun R C L calls S L' replies =
    ((run R C (new_day L) calls).state ≡ S) × ((run R C (new_day L) calls).lines ≡ L') × (map (λ (s : Step). s.reply) (run R C (new_day L) calls).history ≡ replies)
