-- What a book keeps, seen from one side, and what is known besides of every book that calls have led to. Assumes nothing.
use Rattle.std.proofs.Common.{◌≡◌, ℕ, suc, ◌+◌, ◌<◌, ◌≤◌, false, eqb, ◌⊎◌, List, [], ◌∷◌, ◌++◌, ℤ, None, sym, refl, ap, ◌∙◌, subst, ap₂, inl, inr, append_assoc, append-nil, arith}
use Rattle.std.specs.List.{AllByRecursion}
use Rattle.std.proofs.lemmas.Bool.{cond-false, ne_eqb}
use Rattle.clearing.specs.Centre.{Lines}
use Rattle.clearing.specs.Side.{other}
use Rattle.clearing.specs.declared.side.Side.{Side}
use Rattle.clearing.specs.declared.side.Side.TheVariants.{Buy, Sell}
use Rattle.market.proofs.Histories.{entries, not_numbered}
use Rattle.market.proofs.Walking.{Prefixed}
use Rattle.market.specs.Law.{Event, In, InSequence, Joined, Keeps, Kept, Numbered, deviation_after, entered, entry_number, held_on, lessened_lots, lots_accepted, lots_off, lots_queued, lots_registered, numbered, resting_number, settled_on, traded_away, traded_by}
use Rattle.market.specs.Order.{quote_of}
use Rattle.market.specs.Rule.{Rule, meets_across}
use Rattle.market.specs.State.{State, queue_of, with_book}
use Rattle.market.specs.declared.order.Order.{Order}
use Rattle.market.specs.declared.trade.Trade.{Trade}

-- the law, with the queue of the side s first
pub record Book (R : Rule) (E : List Event) (s : Side) (mine theirs : List Order) (G : List Trade) (L : Lines) : Type 0 where
  pub numbers : Numbered 0 E
  pub mine_kept : Kept R E G s mine
  pub theirs_kept : Kept R E G (other s) theirs
  pub apart : (m t : Order) → In m mine → In t theirs → meets_across R s (quote_of m) (quote_of t) ≡ false
  pub sums : (a : ℤ) (z : Side) → lots_accepted E a z ≡ (lots_queued mine a z + lots_queued theirs a z) + lots_registered G a z + lots_off E a z
  pub held : (a : ℤ) (z : Side) → held_on (L a) z ≡ lots_queued mine a z + lots_queued theirs a z
  pub settled : (a : ℤ) (z : Side) → settled_on (L a) z ≡ lots_registered G a z
  pub priority : (before : List Trade) (t : Trade) (later : List Trade) → G ≡ before ++ t ∷ later → Joined R E before t
  pub sequence : InSequence 0 G

module _ (R : Rule) (E : List Event) (L : Lines) where
  -- the law from either side
  pub book_of : (S : State) (s : Side) → Keeps R E S L → Book R E s (queue_of s S) (queue_of (other s) S) S.register L
  book_of S Buy k = record {
    numbers = k.numbers;
    mine_kept = k.queues Buy;
    theirs_kept = k.queues Sell;
    apart = λ m t. k.uncrossed m t;
    sums = λ a z. (k.balanced a z).sums;
    held = λ a z. (k.balanced a z).held;
    settled = λ a z. (k.balanced a z).settled;
    priority = k.priority;
    sequence = k.sequence;
  }
  book_of S Sell k = record {
    numbers = k.numbers;
    mine_kept = k.queues Sell;
    theirs_kept = k.queues Buy;
    apart = λ m t i j. k.uncrossed t m j i;
    sums = λ a z. let x = (k.balanced a z).sums in omega arith;
    held = λ a z. let x = (k.balanced a z).held in omega arith;
    settled = λ a z. (k.balanced a z).settled;
    priority = k.priority;
    sequence = k.sequence;
  }

  both_queues : (S : State) → Kept R E S.register Buy S.buys → Kept R E S.register Sell S.sells → (s : Side) → Kept R E S.register s (queue_of s S)
  both_queues S b s Buy = b
  both_queues S b s Sell = s

  -- and back
  pub keeps_of : (S : State) → Book R E Buy S.buys S.sells S.register L → Keeps R E S L
  keeps_of S b = record {
    numbers = b.numbers;
    queues = both_queues S b.mine_kept b.theirs_kept;
    uncrossed = λ x y. b.apart x y;
    balanced = λ a z. record { sums = b.sums a z; held = b.held a z; settled = b.settled a z };
    priority = b.priority;
    sequence = b.sequence;
  }

  pub book_keeps : (s : Side) (mine theirs : List Order) (k : ℕ) (G : List Trade) (S : State) → Book R E s mine theirs G L → Keeps R E (with_book s mine theirs k G S) L
  book_keeps Buy mine theirs k G S b = keeps_of (with_book Buy mine theirs k G S) b
  book_keeps Sell mine theirs k G S b =
      keeps_of (with_book Sell mine theirs k G S) (record {
        numbers = b.numbers;
        mine_kept = b.theirs_kept;
        theirs_kept = b.mine_kept;
        apart = λ m t i j. b.apart t m j i;
        sums = λ a z. let x = b.sums a z in omega arith;
        held = λ a z. let x = b.held a z in omega arith;
        settled = b.settled;
        priority = b.priority;
        sequence = b.sequence;
      })

-- Trades and the history that they joined

-- a trade that joined an entry did so by every longer history
pub joined_later : (R : Rule) (E F : List Event) (G : List Trade) (t : Trade) → Joined R E G t → Joined R (E ++ F) G t
joined_later R E F G t j = record {
  entry = j.entry;
  answer = j.answer;
  earlier = j.earlier;
  later = j.later ++ F;
  came = ap (λ l. l ++ F) j.came ∙ append_assoc j.earlier (entered j.entry j.answer ∷ j.later) F;
  matched = j.matched;
}

-- each trade of a list passes with those before it
pub prefixed_at : (P : List Trade → Trade → Type 0) (G before : List Trade) (t : Trade) (later : List Trade) → Prefixed P G (before ++ t ∷ later) → P (G ++ before) t
prefixed_at P G [] t later p = subst (λ l. P l t) (sym (append-nil G)) p.0
prefixed_at P G (x ∷ before) t later p =
    subst (λ l. P l t) (append_assoc G (x ∷ []) before) (prefixed_at P (G ++ x ∷ []) before t later p.1)

-- a trade of two lists, one after the other, is in the first or in the second
pub split_at : (xs ys before : List Trade) (t : Trade) (later : List Trade) → xs ++ ys ≡ before ++ t ∷ later → ((rest : List Trade) × (xs ≡ before ++ t ∷ rest)) ⊎ ((mid : List Trade) × (ys ≡ mid ++ t ∷ later) × (before ≡ xs ++ mid))
split_at [] ys before t later e = inr (before, e, refl)
split_at (x ∷ xs) ys [] t later e = inl (xs, let h : x ≡ t = cc in ap (λ y. y ∷ xs) h)
split_at (x ∷ xs) ys (b ∷ before) t later e =
    let h : x ≡ b = cc in
    let tail : xs ++ ys ≡ before ++ t ∷ later = cc in
    elim (split_at xs ys before t later tail) [
      | inl found ↦ inl (found.0, ap₂ (λ y l. y ∷ l) h found.1)
      | inr found ↦ inr (found.0, found.1, ap₂ (λ y l. y ∷ l) (sym h) found.2)
    ]

-- trades of one entry stand in sequence
one_entry : (n k : ℕ) (T : List Trade) → n ≤ k → AllByRecursion (λ t. entry_number t ≡ k) T → InSequence n T
one_entry n k [] h all = tt
one_entry n k (t ∷ T) h all = let e = all.0 in (omega arith, one_entry (entry_number t) k T (omega arith) all.1)

-- trades stay in sequence with those of an entry that came after all of theirs
pub sequence_on : (n k : ℕ) (G T : List Trade) → n ≤ k → InSequence n G → AllByRecursion (λ t. entry_number t ≤ k) G → AllByRecursion (λ t. entry_number t ≡ k) T → InSequence n (G ++ T)
sequence_on n k [] T h s up new = one_entry n k T h new
sequence_on n k (t ∷ G) T h s up new = (s.0, sequence_on (entry_number t) k G T up.0 s.1 up.1 new)

-- What is known besides

-- the law; the last number is that of the last entry; trades and lots taken off are of orders up to it; the deviation is the
-- opening's
pub record Reached (R : Rule) (E : List Event) (S : State) (L : Lines) : Type 0 where
  pub law : Keeps R E S L
  pub count : S.last ≡ entries E
  pub trades : AllByRecursion (λ t. entry_number t ≤ S.last) S.register
  pub lessened : (k : ℕ) → S.last < k → lessened_lots E k ≡ 0
  pub deviation : deviation_after 0 E ≡ S.deviation

-- a book of either side with what is known besides
pub reached_of : (R : Rule) (E : List Event) (L : Lines) (s : Side) (mine theirs : List Order) (k : ℕ) (G : List Trade) (S : State) → Book R E s mine theirs G L → k ≡ entries E → AllByRecursion (λ t. entry_number t ≤ k) G → ((j : ℕ) → k < j → lessened_lots E j ≡ 0) → deviation_after 0 E ≡ S.deviation → Reached R E (with_book s mine theirs k G S) L
reached_of R E L Buy mine theirs k G S b c t l d =
    record { law = book_keeps R E L Buy mine theirs k G S b; count = c; trades = t; lessened = l; deviation = d }
reached_of R E L Sell mine theirs k G S b c t l d =
    record { law = book_keeps R E L Sell mine theirs k G S b; count = c; trades = t; lessened = l; deviation = d }

-- numbers above the last are of no entry
pub fresh_numbers : (R : Rule) (E : List Event) (S : State) (L : Lines) → Reached R E S L → (j : ℕ) → suc S.last ≤ j → numbered E j ≡ None
fresh_numbers R E S L r j h = let c = r.count in not_numbered 0 j E r.law.numbers (omega arith)

-- no lots were traded away from a number that is above those of all resting orders that traded
pub none_traded : (k : ℕ) (G : List Trade) → AllByRecursion (λ t. resting_number t < k) G → traded_away G k ≡ 0
none_traded k [] all = refl
none_traded k (t ∷ G) all =
    let x = none_traded k G all.1 in
    let h = all.0 in
    let y = cond-false (eqb (resting_number t) k) t.lots 0 (ne_eqb _ _ (λ e. omega arith)) in
    omega arith

-- an entry whose number is above those of all entries that traded has made no trade
pub none_made : (k : ℕ) (G : List Trade) → AllByRecursion (λ t. entry_number t < k) G → traded_by G k ≡ 0
none_made k [] all = refl
none_made k (t ∷ G) all =
    let x = none_made k G all.1 in
    let h = all.0 in
    let y = cond-false (eqb (entry_number t) k) t.lots 0 (ne_eqb _ _ (λ e. omega arith)) in
    omega arith
