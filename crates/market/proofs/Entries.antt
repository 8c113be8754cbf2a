-- An accepted entry: it is walked, and its rest joins its queue or is taken off. Assumes nothing.
use Rattle.std.proofs.Common.{◌≡◌, ℕ, suc, ◌<◌, ◌≤◌, Bool, true, false, ltb, List, [], ◌∷◌, ◌++◌, Some, None, sym, refl, ap, ◌∙◌, subst, inl, inr, arith}
use Rattle.std.specs.List.{list_all, AllByRecursion}
use Rattle.std.proofs.ByRecursion.{All-append, All-weaker}
use Rattle.std.proofs.lemmas.Bool.{and_parts, both_ways, cases_Bool, cond-true, false≢true, leb-true, lt-ltb}
use Rattle.ordered.specs.Row.{place}
use Rattle.clearing.specs.Centre.{Lines, adjusted}
use Rattle.clearing.specs.Line.{hold, release}
use Rattle.clearing.specs.Side.{other}
use Rattle.clearing.specs.declared.line.Line.{Line}
use Rattle.clearing.specs.declared.side.Side.{Side}
use Rattle.clearing.specs.declared.side.Side.TheVariants.{Buy, Sell}
use Rattle.dealing.specs.declared.call.Entry.{Entry}
use Rattle.dealing.specs.declared.call.Kind.{Kind}
use Rattle.dealing.specs.declared.call.Kind.TheVariants.{Limited, Market}
use Rattle.dealing.specs.declared.outcome.Figures.{Figures}
use Rattle.market.proofs.Books.{Book, Reached, book_of, fresh_numbers, joined_later, none_made, none_traded, prefixed_at, reached_of, sequence_on, split_at}
use Rattle.market.proofs.Counts.{counted_none, counted_self, held_held, held_released, settled_released, total_inserted}
use Rattle.market.proofs.Histories.{deviation-append, entries_append, numbered_on, off-push, total-push}
use Rattle.market.proofs.Joining.{in_inserted, kept_joined, kept_without}
use Rattle.market.proofs.Resting.{gone, pass_in}
use Rattle.market.proofs.Walking.{Prefixed, Stopped, WalkedOn, walk_goes}
use Rattle.market.proofs.Walks.{Midway, head_first, other_differs}
use Rattle.market.specs.Calls.{entry_lots, figures_of, is_short, settle_trades, walk_of}
use Rattle.market.specs.Law.{Eligible, Event, First, In, InSequence, Joined, Kept, Matched, Numbered, accepted_by, counted, deviation_after, entered, entry_number, held_on, lessened_by, numbered, resting_number, trades_before}
use Rattle.market.specs.Order.{account_of, before, joined, lots_of, order_of, quote_of, side_of, sided}
use Rattle.market.specs.Rule.{Lawful, Rule, meets_across}
use Rattle.market.specs.State.{State, queue_of, with_book}
use Rattle.market.specs.Walk.{Walked, eligible_for, entry_quote}
use Rattle.market.specs.declared.order.Order.{Order}
use Rattle.market.specs.declared.trade.Trade.{Trade}

-- the other side of the other side
other_other : (s : Side) → other (other s) ≡ s
other_other Buy = refl
other_other Sell = refl

-- trades up to a number are all before a larger one
all_before : (k : ℕ) (G : List Trade) → AllByRecursion (λ t. entry_number t < k) G → trades_before k G ≡ G
all_before k [] all = refl
all_before k (t ∷ G) all =
    cond-true (ltb (entry_number t) k) _ _ (lt-ltb _ _ all.0) ∙ ap (λ l. t ∷ l) (all_before k G all.1)

-- what the test of eligibility means, by the kind of the entry
eligible_means : (kind : Kind) (R : Rule) → Lawful R → (E : List Event) (G₀ : List Trade) (e : Entry) (k d : ℕ) (q : List Order) → Kept R E G₀ (other e.side) q → deviation_after 0 E ≡ d → (G : List Trade) → trades_before k G ≡ G₀ → (o : Order) → side_of o ≡ other e.side → eligible_for kind R d k q e o ≡ true → Eligible kind R E G e k o
eligible_means Limited R lawful E G₀ e k d q kept dev G same o side t = t
eligible_means Market R lawful E G₀ e k d [] kept dev G same o side t = absurd (false≢true t)
eligible_means Market R lawful E G₀ e k d (h ∷ q) kept dev G same o side t = record {
  head = h;
  stood_first = subst (λ l. First R E l h) (sym same) (head_first R lawful E G₀ (other e.side) h q kept);
  same_side = (kept.rest h (inl refl)).1 ∙ sym side;
  near = let i = leb-true _ _ t in rw dev i;
}

-- by the meeting law, a limited entry that does not meet the first order of a queue meets none behind it
meets_none : (R : Rule) → Lawful R → (E : List Event) (G : List Trade) (e : Entry) (k : ℕ) (q : List Order) → Kept R E G (other e.side) q → Stopped (λ o. meets_across R e.side (entry_quote e k) (quote_of o)) q → (p : Order) → In p q → meets_across R e.side (entry_quote e k) (quote_of p) ≡ false
meets_none R lawful E G e k [] kept stop p i = absurd i
meets_none R lawful E G e k (o ∷ q) kept stop p (inl same) = ap (λ x. meets_across R e.side (entry_quote e k) (quote_of x)) same ∙ stop
meets_none R lawful E G e k (o ∷ q) kept stop p (inr i) =
    let so = (kept.rest o (inl refl)).1 in
    let sp = (kept.rest p (inr i)).1 in
    elim (cases_Bool (meets_across R e.side (entry_quote e k) (quote_of p))) [
      | inl meets ↦ absurd (both_ways _ stop (lawful.meeting (entry_quote e k) (quote_of o) (quote_of p) (so ∙ sym sp) (sym (other_other e.side) ∙ ap other (sym so)) (pass_in R o q (and_parts (list_all (before R o) q) _ kept.ordered).0 p i) meets))
      | inr f ↦ f
    ]

module _ (R : Rule) (lawful : Lawful R) (E : List Event) (S : State) (L : Lines) (r : Reached R E S L) (e : Entry) (l : Line) (has : L e.account ≡ Some l) where
  abbrev s : Side
  s = e.side

  abbrev k : ℕ
  k = suc S.last

  abbrev mine : List Order
  mine = queue_of s S

  abbrev theirs : List Order
  theirs = queue_of (other s) S

  abbrev G : List Trade
  G = S.register

  abbrev eligible : Order → Bool
  eligible = eligible_for e.kind R S.deviation k theirs e

  abbrev reserved : Lines
  reserved = adjusted L e.account (hold s (entry_lots e))

  abbrev w : Walked
  w = walk_of R S e

  book : Book R E s mine theirs G L
  book = book_of R E L S s r.law

  -- the walk begins with all lots of the entry held
  begins : Midway R E e k mine G G (entry_lots e) theirs reserved
  begins = record {
    mine_kept = book.mine_kept;
    theirs_kept = book.theirs_kept;
    apart = book.apart;
    sums = λ a z. let i = book.sums a z in omega arith;
    held = λ a z. let i = book.held a z in let h = (held_held L e.account s (entry_lots e) l has a z).0 in omega arith;
    settled = λ a z. (held_held L e.account s (entry_lots e) l has a z).1 ∙ book.settled a z;
    earlier = all_before k G (All-weaker _ _ (λ t h. omega arith) G r.trades);
    left = let i = none_made k G (All-weaker _ _ (λ t h. omega arith) G r.trades) in omega arith;
  }

  goes : WalkedOn R E e k mine G eligible G (entry_lots e) reserved w
  goes = walk_goes R lawful E e k mine G (fresh_numbers R E S L r) eligible (eligible_means e.kind R lawful E G e k S.deviation theirs book.theirs_kept r.deviation) (entry_lots e) theirs G reserved begins

  abbrev G' : List Trade
  G' = G ++ w.trades

  abbrev settled_lines : Lines
  settled_lines = settle_trades reserved w.trades

  mid : Midway R E e k mine G G' w.left w.queue settled_lines
  mid = goes.after

  untouched : gone E G' k ≡ 0
  untouched =
      let old = All-weaker _ (λ t. resting_number t < k) (λ t h. omega arith) G r.trades in
      let new = All-weaker _ (λ t. resting_number t < k) (λ t h. h.1) w.trades goes.numbers in
      let x = none_traded k G' (All-append (λ t. resting_number t < k) G w.trades old new) in
      let y = r.lessened k (omega arith) in
      omega arith

  -- the entry's trades come after those of all earlier entries
  sequence : InSequence 0 G'
  sequence =
      sequence_on 0 k G w.trades (omega arith) book.sequence (All-weaker _ _ (λ t h. omega arith) G r.trades) (All-weaker _ _ (λ t h. h.0) w.trades goes.numbers)

  module _ (f : Figures) (its : f.number ≡ k) where
    abbrev E' : List Event
    E' = E ++ entered e f ∷ []

    fresh : numbered E f.number ≡ None
    fresh = fresh_numbers R E S L r f.number (let i = its in omega arith)

    untouched_its : gone E G' f.number ≡ 0
    untouched_its = ap (gone E G') its ∙ untouched

    numbers : Numbered 0 E'
    numbers = numbered_on 0 S.last E (entered e f ∷ []) (r.count ∙ omega arith) book.numbers (its, tt)

    -- every trade joined an accepted entry
    priority : (earlier : List Trade) (t : Trade) (later : List Trade) → G' ≡ earlier ++ t ∷ later → Joined R E' earlier t
    priority earlier t later z =
        elim (split_at G w.trades earlier t later z) [
          | inl old ↦ joined_later R E (entered e f ∷ []) earlier t (book.priority earlier t old.0 old.1)
          | inr new ↦ record {
            entry = e;
            answer = f;
            earlier = E;
            later = [];
            came = refl;
            matched = subst (λ b. Matched R E b e f.number t) (sym new.2) (subst (λ n. Matched R E (G ++ new.0) e n t) (sym its) (prefixed_at (λ b x. Matched R E b e k x) G new.0 t later (subst (Prefixed (λ b x. Matched R E b e k x) G) new.1 goes.matched)));
          }
        ]

    -- what is known besides the book
    reached : (mine' : List Order) (lines : Lines) → Book R E' s mine' w.queue G' lines → Reached R E' (with_book s mine' w.queue k G' S) lines
    reached mine' lines b =
        reached_of R E' lines s mine' w.queue k G' S b
        (let i = r.count in let j = entries_append E (entered e f ∷ []) in omega arith)
        (All-append (λ t. entry_number t ≤ k) G w.trades (All-weaker _ _ (λ t h. omega arith) G r.trades) (All-weaker _ _ (λ t h. let i = h.0 in omega arith) w.trades goes.numbers))
        (λ j h. let i = r.lessened j (omega arith) in let p = total-push (lessened_by j) E (entered e f) in omega arith)
        (deviation-append 0 E (entered e f ∷ []) ∙ r.deviation)

  -- the rest joins its queue: it was short, and a limited entry
  pub reached_joined : is_short w.ending ≡ true → e.kind ≡ Limited → (traded : ℕ) → let f = figures_of k traded w.left 0 in Reached R (E ++ entered e f ∷ []) (with_book s (joined R (order_of e.account s k e.price w.left) mine) w.queue k G' S) settled_lines
  reached_joined short limited traded =
      let f = figures_of k traded w.left 0 in
      let x = order_of e.account s k e.price w.left in
      let at = goes.stopped short in
      let kind : eligible ≡ (λ o. meets_across R s (entry_quote e k) (quote_of o)) = ap (λ y. eligible_for y R S.deviation k theirs e) limited in
      let none = meets_none R lawful E G' e k w.queue mid.theirs_kept (subst (λ p. Stopped p w.queue) kind at.1) in
      reached f refl (joined R x mine) settled_lines (record {
        numbers = numbers f refl;
        mine_kept = kept_joined R lawful E G' e f (fresh f refl) (untouched_its f refl) mine at.0 mid.mine_kept;
        theirs_kept = kept_without R lawful E G' e f (fresh f refl) (untouched_its f refl) (other s) w.queue (λ _ z. other_differs s z) mid.theirs_kept;
        apart = λ m t i j. elim (in_inserted mine _ x m i) [
          | inl same ↦ ap (λ y. meets_across R s (quote_of y) (quote_of t)) same ∙ none t j
          | inr there ↦ mid.apart m t there j
        ];
        sums = λ a z. let i = mid.sums a z in let p = total-push (accepted_by a z) E (entered e f) in let u = off-push a z [] E (entered e f) in let v = counted_none a z e.account s in let y = total_inserted (λ o. counted a z (account_of o) (side_of o) (lots_of o)) mine (place (sided R) mine x) x in omega arith;
        held = λ a z. let i = mid.held a z in let y = total_inserted (λ o. counted a z (account_of o) (side_of o) (lots_of o)) mine (place (sided R) mine x) x in omega arith;
        settled = mid.settled;
        priority = priority f refl;
        sequence = sequence;
      })

  -- the rest is taken off, where there is any
  pub reached_off : (traded : ℕ) → let f = figures_of k traded 0 w.left in Reached R (E ++ entered e f ∷ []) (with_book s mine w.queue k G' S) (adjusted settled_lines e.account (release s w.left))
  reached_off traded =
      let f = figures_of k traded 0 w.left in
      let enough : w.left ≤ held_on (settled_lines e.account) s = let h = mid.held e.account s in let c = counted_self e.account s w.left in omega arith in
      reached f refl mine (adjusted settled_lines e.account (release s w.left)) (record {
        numbers = numbers f refl;
        mine_kept = kept_without R lawful E G' e f (fresh f refl) (untouched_its f refl) s mine (λ h _. absurd (omega arith)) mid.mine_kept;
        theirs_kept = kept_without R lawful E G' e f (fresh f refl) (untouched_its f refl) (other s) w.queue (λ h _. absurd (omega arith)) mid.theirs_kept;
        apart = mid.apart;
        sums = λ a z. let i = mid.sums a z in let p = total-push (accepted_by a z) E (entered e f) in let u = off-push a z [] E (entered e f) in omega arith;
        held = λ a z. let i = mid.held a z in let h = held_released settled_lines e.account s w.left enough a z in omega arith;
        settled = λ a z. settled_released settled_lines e.account s w.left enough a z ∙ mid.settled a z;
        priority = priority f refl;
        sequence = sequence;
      })
