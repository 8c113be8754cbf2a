-- Calls that bring no entry: those after which every order rests as before, and those that take lots off one order.
-- Assumes nothing.
use Rattle.std.proofs.Common.{◌≡◌, ℕ, ◌<◌, ◌≤◌, eqb, ◌⊎◌, List, [], ◌∷◌, ◌++◌, ℤ, pos, Some, None, sym, refl, ap, ◌∙◌, subst, inl, inr, arith}
use Rattle.std.proofs.lemmas.Bool.{cases_Bool, cond-false, cond-true, eq-eqb, ne_eqb}
use Rattle.ordered.specs.Key.{eq_z}
use Rattle.ordered.specs.Row.{at_key}
use Rattle.clearing.specs.Centre.{Lines, adjusted}
use Rattle.clearing.specs.Line.{release}
use Rattle.clearing.specs.Side.{other}
use Rattle.clearing.specs.declared.side.Side.{Side}
use Rattle.clearing.specs.declared.side.Side.TheVariants.{Buy, Sell}
use Rattle.dealing.specs.declared.outcome.Figures.{Figures}
use Rattle.market.proofs.Books.{Book, Reached, book_of, fresh_numbers, joined_later, keeps_of, reached_of}
use Rattle.market.proofs.Counts.{counted_self, held_released, queued_at_least, queued_lower, settled_released}
use Rattle.market.proofs.Histories.{deviation-append, entries, entries_append, numbered-append, numbered_on, off-push, or_else_none, total-push}
use Rattle.market.proofs.Lowering.{Shift, in_lower, kept_apart, kept_lower}
use Rattle.market.proofs.Resting.{distinct, gone, rests_once, rests_with}
use Rattle.market.proofs.Walks.{other_differs}
use Rattle.market.specs.Calls.{or_else}
use Rattle.market.specs.Law.{Event, In, Keeps, Kept, Numbered, Rests, accepted_by, counted, deviation_after, held_on, lessened, lessened_by, nothing, numbered, off_by, off_entry, opened}
use Rattle.market.specs.Order.{account_of, lots_of, lower, quote_of, side_of}
use Rattle.market.specs.Rule.{Lawful, Rule, meets_across}
use Rattle.market.specs.State.{State, order_numbered, queue_of, with_book}
use Rattle.market.specs.declared.order.Order.{Order}
use Rattle.market.specs.declared.trade.Trade.{Trade}

-- Events after which every order rests as before

-- such an event brings no entry and no lots
pub record Quiet (x : Event) : Type 0 where
  pub entry : (j : ℕ) → numbered (x ∷ []) j ≡ None
  pub less : (j : ℕ) → lessened_by j x ≡ 0
  pub lots : (a : ℤ) (s : Side) → accepted_by a s x ≡ 0
  pub off : (a : ℤ) (s : Side) (E : List Event) → off_by a s E x ≡ 0
  pub count : entries (x ∷ []) ≡ 0
  pub number : (n : ℕ) → Numbered n (x ∷ [])

pub quiet_nothing : Quiet nothing
quiet_nothing = record { entry = λ j. refl; less = λ j. refl; lots = λ a s. refl; off = λ a s E. refl; count = refl; number = λ n. tt }

pub quiet_opened : (d : ℕ) → Quiet (opened d)
quiet_opened d = record { entry = λ j. refl; less = λ j. refl; lots = λ a s. refl; off = λ a s E. refl; count = refl; number = λ n. tt }

module _ (R : Rule) (E : List Event) (x : Event) (quiet : Quiet x) where
  same_entries : (j : ℕ) → numbered (E ++ x ∷ []) j ≡ numbered E j
  same_entries j = numbered-append E (x ∷ []) j ∙ ap (or_else (numbered E j)) (quiet.entry j) ∙ or_else_none _

  same_gone : (G : List Trade) (j : ℕ) → gone (E ++ x ∷ []) G j ≡ gone E G j
  same_gone G j = let p = total-push (lessened_by j) E x in let q = quiet.less j in omega arith

  kept_quiet : (G : List Trade) (s : Side) (q : List Order) → Kept R E G s q → Kept R (E ++ x ∷ []) G s q
  kept_quiet G s q kept = record {
    rest = λ o i. let r = kept.rest o i in let g = same_gone G o.number in (rests_with E (E ++ x ∷ []) G G o (lots_of o) (same_entries _) (omega arith) r.0.left r.0, r.1);
    all = λ o r e. let g = same_gone G o.number in kept.all o (rests_with (E ++ x ∷ []) E G G o (lots_of o) (sym (same_entries _)) (omega arith) r.left r) e;
    ordered = kept.ordered;
  }

  book_quiet : (s : Side) (mine theirs : List Order) (G : List Trade) (L : Lines) → Book R E s mine theirs G L → Book R (E ++ x ∷ []) s mine theirs G L
  book_quiet s mine theirs G L b = record {
    numbers = numbered_on 0 (entries E) E (x ∷ []) (omega arith) b.numbers (quiet.number (entries E));
    mine_kept = kept_quiet G s mine b.mine_kept;
    theirs_kept = kept_quiet G (other s) theirs b.theirs_kept;
    apart = b.apart;
    sums = λ a z. let i = b.sums a z in let p = total-push (accepted_by a z) E x in let q = quiet.lots a z in let u = off-push a z [] E x in let v = quiet.off a z E in omega arith;
    held = b.held;
    settled = b.settled;
    priority = λ before t later e. joined_later R E (x ∷ []) before t (b.priority before t later e);
    sequence = b.sequence;
  }

  -- a state with the same book, under the deviation that is then told
  pub reached_quiet : (S S' : State) (L : Lines) → Reached R E S L → S'.buys ≡ S.buys → S'.sells ≡ S.sells → S'.register ≡ S.register → S'.last ≡ S.last → deviation_after S.deviation (x ∷ []) ≡ S'.deviation → Reached R (E ++ x ∷ []) S' L
  reached_quiet S S' L r b s g l d =
      let book = book_quiet Buy S.buys S.sells S.register L (book_of R E L S Buy r.law) in
      let moved : Book R (E ++ x ∷ []) Buy S'.buys S'.sells S'.register L =
      rw (b, s, g) book in
      record {
        law = keeps_of R (E ++ x ∷ []) L S' moved;
        count = let i = r.count in let j = entries_append E (x ∷ []) in let k = quiet.count in omega arith;
        trades = rw (g, l) r.trades;
        lessened = λ k h. let i = r.lessened k (omega arith) in let p = total-push (lessened_by k) E x in let q = quiet.less k in omega arith;
        deviation = deviation-append 0 E (x ∷ []) ∙ ap (λ n. deviation_after n (x ∷ [])) r.deviation ∙ d;
      }

-- Lots taken off one resting order

-- an order found by its number is in one of the queues
at_key_in : (q : List Order) (k : ℤ) (o : Order) → at_key (λ (p : Order). pos p.number) q k ≡ Some o → In o q
at_key_in [] k o e = absurd (let z : ◌≡◌ {A = ℕ} 0 1 = cc in omega arith)
at_key_in (p ∷ q) k o e =
    elim (cases_Bool (eq_z (pos p.number) k)) [
      | inl t ↦ (let x = cond-true (eq_z (pos p.number) k) (Some p) (at_key (λ (y : Order). pos y.number) q k) t in let same : o ≡ p = cc in inl same)
      | inr f ↦ inr (at_key_in q k o (sym (cond-false (eq_z (pos p.number) k) (Some p) _ f) ∙ e))
    ]

in_either : (xs ys : List Order) (o : Order) → In o (xs ++ ys) → In o xs ⊎ In o ys
in_either [] ys o i = inr i
in_either (x ∷ xs) ys o (inl e) = inl (inl e)
in_either (x ∷ xs) ys o (inr i) = elim (in_either xs ys o i) [ inl j ↦ inl (inr j) | inr j ↦ inr j ]

-- the order with a number is in the queue of its side
pub order_in : (R : Rule) (E : List Event) (S : State) (L : Lines) → Keeps R E S L → (k : ℤ) (o : Order) → order_numbered S k ≡ Some o → In o (queue_of (side_of o) S)
order_in R E S L law k o e =
    elim (in_either S.buys S.sells o (at_key_in (S.buys ++ S.sells) k o e)) [
      | inl i ↦ subst (λ s. In o (queue_of s S)) (sym ((law.queues Buy).rest o i).1) i
      | inr i ↦ subst (λ s. In o (queue_of s S)) (sym ((law.queues Sell).rest o i).1) i
    ]

module _ (R : Rule) (lawful : Lawful R) (E : List Event) (S : State) (L : Lines) (r : Reached R E S L) (o : Order) (there : In o (queue_of (side_of o) S)) (f : Figures) (its : f.number ≡ o.number) (fits : f.taken_off ≤ lots_of o) where
  abbrev n : ℕ
  n = f.taken_off

  abbrev E' : List Event
  E' = E ++ lessened f ∷ []

  abbrev s : Side
  s = side_of o

  book : Book R E s (queue_of s S) (queue_of (other s) S) S.register L
  book = book_of R E L S s r.law

  rests : Rests E S.register o
  rests = (book.mine_kept.rest o there).0

  less_shift : (G : List Trade) → Shift E G E' G o.number n
  less_shift G = record {
    entries = λ j. numbered-append E (lessened f ∷ []) j ∙ or_else_none _;
    others = λ j ne. let p = total-push (lessened_by j) E (lessened f) in let z = cond-false (eqb f.number j) n 0 (ne_eqb _ _ (λ i. ne (sym i ∙ its))) in omega arith;
    here = let p = total-push (lessened_by o.number) E (lessened f) in let z = cond-true (eqb f.number o.number) n 0 (eq-eqb _ _ its) in omega arith;
  }

  not_across : (p : Order) → Rests E S.register p → p.number ≡ o.number → side_of p ≡ other s → ⊥
  not_across p q z e = other_differs s (sym (ap side_of (rests_once E S.register p o q rests z)) ∙ e)

  enough : n ≤ held_on (L (account_of o)) s
  enough =
      let h = book.held (account_of o) s in
      let q = queued_at_least (account_of o) s (queue_of s S) o there in
      let c = counted_self (account_of o) s (lots_of o) in
      omega arith

  -- the lots count as taken off for the order's account and side
  off_its : (a : ℤ) (z : Side) → off_by a z E (lessened f) ≡ counted a z (account_of o) s n
  off_its a z =
      let c = rests.came in
      ap (λ j. off_entry a z (numbered E j) n) its ∙ ap (λ y. off_entry a z y n) rests.entry ∙ ap (λ b. counted a z b c.entry.side n) (sym rests.account) ∙ ap (λ y. counted a z (account_of o) y n) (sym rests.side)

  book_less : Book R E' s (lower o.number n (queue_of s S)) (queue_of (other s) S) S.register (adjusted L (account_of o) (release s n))
  book_less =
      let G = S.register in
      let mine = queue_of s S in
      let d = distinct R lawful E G mine (λ p i. (book.mine_kept.rest p i).0) book.mine_kept.ordered in
      record {
        numbers = numbered_on 0 (entries E) E (lessened f ∷ []) (omega arith) book.numbers tt;
        mine_kept = kept_lower R lawful E E' G G o.number n (less_shift G) s mine o there refl fits book.mine_kept;
        theirs_kept = kept_apart R lawful E E' G G o.number n (less_shift G) (other s) (queue_of (other s) S) (λ p i z. not_across p (book.theirs_kept.rest p i).0 z (book.theirs_kept.rest p i).1) not_across book.theirs_kept;
        apart = λ x y i j. elim (in_lower o.number n mine d x i) [
          | inl other ↦ book.apart x y other.0 j
          | inr it ↦ ap (λ w. meets_across R s (quote_of w) (quote_of y)) it.4 ∙ book.apart it.0 y it.1 j
        ];
        sums = λ a z. let i = book.sums a z in let p = total-push (accepted_by a z) E (lessened f) in let q = queued_lower a z o.number n mine d o there refl fits in let u = off-push a z [] E (lessened f) in let v = off_its a z in omega arith;
        held = λ a z. let i = book.held a z in let q = queued_lower a z o.number n mine d o there refl fits in let h = held_released L (account_of o) s n enough a z in omega arith;
        settled = λ a z. settled_released L (account_of o) s n enough a z ∙ book.settled a z;
        priority = λ before t later e. joined_later R E (lessened f ∷ []) before t (book.priority before t later e);
        sequence = book.sequence;
      }

  -- the order's number was given
  given : (k : ℕ) → S.last < k → f.number ≡ k → ⊥
  given k h e =
      let x = rests.entry in
      let y = fresh_numbers R E S L r k h in
      let z : o.number ≡ k = sym its ∙ e in
      let w = ap (numbered E) z in
      let never : ◌≡◌ {A = ℕ} 0 1 = cc in
      omega arith

  pub reached_less : Reached R E' (with_book s (lower o.number n (queue_of s S)) (queue_of (other s) S) S.last S.register S) (adjusted L (account_of o) (release s n))
  reached_less =
      reached_of R E' _ s _ _ S.last S.register S book_less
      (let i = r.count in let j = entries_append E (lessened f ∷ []) in omega arith)
      r.trades
      (λ k h. let i = r.lessened k h in let p = total-push (lessened_by k) E (lessened f) in let z = cond-false (eqb f.number k) n 0 (ne_eqb _ _ (given k h)) in omega arith)
      (deviation-append 0 E (lessened f ∷ []) ∙ r.deviation)
