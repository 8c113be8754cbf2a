-- What is known of an entry that is not refused, and what carrying it out comes to. Assumes nothing.
use Rattle.std.proofs.Common.{◌≡◌, ℕ, suc, ◌+◌, ◌-◌, ◌<◌, ◌≤◌, Bool, true, false, cond, eqb, leb, List, [], ◌∷◌, ◌++◌, length, ℤ, Some, None, Ok, sym, ap, ◌∙◌, subst, ap₂, inl, inr, arith}
use Rattle.std.specs.List.{list_all}
use Rattle.std.specs.Option.{option_map}
use Rattle.std.proofs.lemmas.Bool.{and_from, both_ways, cases_Bool, cond_both, cond-false, cond-true, le-leb, leb-false, ltb-false, not-false, or_parts}
use Rattle.ordered.specs.Key.{eq_z}
use Rattle.ordered.proofs.Keys.{eq_z_refl}
use Rattle.clearing.specs.Centre.{Lines, Own, adjusted, holds, verdict}
use Rattle.clearing.specs.Line.{hold, lots_max, release}
use Rattle.clearing.specs.Side.{other}
use Rattle.clearing.specs.declared.side.Side.{Side}
use Rattle.clearing.specs.declared.side.Side.TheVariants.{Buy, Sell}
use Rattle.dealing.specs.declared.call.Entry.{Entry}
use Rattle.dealing.specs.declared.outcome.Outcome.{Outcome}
use Rattle.market.proofs.Fitting.{fits_lowered, lots_within}
use Rattle.market.proofs.InStep.{reserved_holds, reserved_still_holds}
use Rattle.market.proofs.Runs.{has_line, neither, no_denial, none_fails}
use Rattle.market.proofs.Passing.{all_joined, all_walk}
use Rattle.market.proofs.Sides.{is_side_same}
use Rattle.market.proofs.Walking.{walk_induction}
use Rattle.market.specs.BookState.{Judged, entry_outcome, state_of}
use Rattle.market.specs.Calls.{done, entered, entry_checks, entry_lots, entry_refusal, first_of, lots_fit, out_of_step, outcome_of, rest_joins, settle_trades, trades_out_of_step, walk_of}
use Rattle.market.specs.Carry.{CarriedEntry, EnteredBook, IsInStep, Planned}
use Rattle.market.specs.Fits.{number_max, order_fits, orders_fit}
use Rattle.market.specs.Order.{all_on, is_on, is_side, joined, lots_resting, lowered, order_of, party_on}
use Rattle.market.specs.Rule.{Rule}
use Rattle.market.specs.State.{State, queue_of, with_book}
use Rattle.market.specs.Walk.{Walked, eligible_for, walk}
use Rattle.market.specs.declared.book.Book.{Book}
use Rattle.market.specs.declared.order.Order.{Order}
use Rattle.market.specs.declared.plan.Plan.{Plan}
use Rattle.market.specs.declared.trade.Trade.{Trade}

-- an entry that is not refused
pub record AcceptedEntry (C : Own) (S : State) (L : Lines) (e : Entry) (w : Walked) : Type 0 where
  pub lots : lots_fit e.lots ≡ true
  pub number : S.last < 999999
  pub register : length S.register + length w.trades ≤ 512
  pub queue : rest_joins e w.ending ≡ true → length (queue_of e.side S) < 64
  pub steps : trades_out_of_step S L (other e.side) w.trades ≡ false
  pub asked : verdict C L e.account e.side (entry_lots e) ≡ None

pub accepted : (C : Own) (S : State) (L : Lines) (e : Entry) (w : Walked) → entry_refusal C S L e w ≡ None → AcceptedEntry C S L e w
accepted C S L e w none =
    let both = neither (first_of (entry_checks S L e w)) _ none in
    let checks = none_fails (entry_checks S L e w) both.0 in
    let five = checks.1.1.1.1 in
    let nine = five.1.1.1.1 in
    record {
      lots = not-false (lots_fit e.lots) checks.1.0;
      number = leb-false 999999 S.last five.0;
      register = ltb-false 512 _ five.1.1.1.0;
      queue = λ j. elim (cases_Bool (leb 64 (length (queue_of e.side S)))) [
        | inl t ↦ absurd (both_ways _ nine.0 (and_from _ _ j t))
        | inr f ↦ leb-false 64 (length (queue_of e.side S)) f
      ];
      steps = nine.1.0;
      asked = no_denial _ both.1;
    }

-- the lines hold the resting lots of every account that the walk trades with
steps_hold : (S : State) (L : Lines) (z : Side) (ts : List Trade) → trades_out_of_step S L z ts ≡ false → IsInStep L z (queue_of z S) ts
steps_hold S L z [] out = tt
steps_hold S L z (t ∷ ts) out =
    let both = or_parts (out_of_step S L (party_on z t).account z) _ out in
    (not-false _ both.0, steps_hold S L z ts both.1)

-- and they do so once the entry's lots are reserved
reserved_in_step : (L : Lines) (a : ℤ) (s z : Side) (n : ℕ) (q : List Order) (ts : List Trade) → IsInStep L z q ts → IsInStep (adjusted L a (hold s n)) z q ts
reserved_in_step L a s z n q [] all = tt
reserved_in_step L a s z n q (t ∷ ts) all =
    let b = (party_on z t).account in (
      cond_both (eq_z a b) (option_map (hold s n) (L b)) (L b) (λ o. holds o z (lots_resting b q) ≡ true) (λ _. reserved_still_holds (L b) s z n (lots_resting b q) all.0) (λ _. all.0),
      reserved_in_step L a s z n q ts all.1,
    )

-- the walk of an entry that is not refused can be carried out
pub planned : (R : Rule) (C : Own) (S : State) (L : Lines) (e : Entry) (trades : ℕ) → trades ≡ length (walk_of R S e).trades → AcceptedEntry C S L e (walk_of R S e) → all_on (other e.side) (queue_of (other e.side) S) ≡ true → Planned (adjusted L e.account (hold e.side (entry_lots e))) (queue_of (other e.side) S) e (suc S.last) (entry_lots e) trades
planned R C S L e trades count known on =
    let z = other e.side in
    let n = entry_lots e in
    let line = has_line C L e.account e.side n (L e.account) known.asked in
    let held : adjusted L e.account (hold e.side n) e.account ≡ Some (hold e.side n line.0) = cond-true (eq_z e.account e.account) _ _ (eq_z_refl e.account) ∙ ap (option_map (hold e.side n)) line.1 in
    record {
      eligible = eligible_for e.kind R S.deviation (suc S.last) (queue_of z S) e;
      count = count;
      in_step = reserved_in_step L e.account e.side z n (queue_of z S) _ (steps_hold S L z (walk_of R S e).trades known.steps);
      one_sided = on;
      reserved = subst (λ o. holds o e.side n ≡ true) (sym held) (reserved_holds line.0 e.side n);
    }

-- a walk leaves no more lots than it had
pub left_within : (eligible : Order → Bool) (e : Entry) (k n : ℕ) (q : List Order) → (walk eligible e k n q).left ≤ n
left_within eligible e k =
    walk_induction eligible e k (λ n q w. w.left ≤ n)
    (λ n q z. omega arith)
    (λ n some. omega arith)
    (λ n o q some el. omega arith)
    (λ n o q. omega arith)
    (λ n o q w some el ne all go. omega arith)
    (λ n o q some el ne part. omega arith)

-- an entry carried out: the book, the lines and the outcome are those of the definition
pub entered_as : (R : Rule) (S : State) (L : Lines) (e : Entry) (w : Walked) (mine theirs : List Order) (G : List Trade) (L' : Lines) (o : Outcome) →
    let k = suc S.last in
    let settled = settle_trades (adjusted L e.account (hold e.side (entry_lots e))) w.trades in
    mine ≡ cond (rest_joins e w.ending) (joined R (order_of e.account e.side k e.price w.left) (queue_of e.side S)) (queue_of e.side S) →
    theirs ≡ w.queue → G ≡ S.register ++ w.trades →
    L' ≡ cond (rest_joins e w.ending) settled (adjusted settled e.account (release e.side w.left)) →
    o ≡ entry_outcome e k (entry_lots e) w.ending w.left →
    entered R S L e w ≡ done (with_book e.side mine theirs k G S) L' (Ok o)
entered_as R S L e w mine theirs G L' o em et eg el eo =
    let k = suc S.last in
    let x = outcome_of w.ending e.rest (eqb (entry_lots e - w.left) 0) in
    elim (cases_Bool (rest_joins e w.ending)) [
      | inl j ↦
          let m = sym (em ∙ cond-true _ _ _ j) in
          let l = sym (el ∙ cond-true _ _ _ j) in
          let f = sym (eo ∙ ap x (cond-true _ _ _ j)) in
          cond-true (rest_joins e w.ending) _ _ j ∙ (λ i. done (with_book e.side (m i) (et' i) k (eg' i) S) (l i) (Ok (f i)))
      | inr j ↦
          let m = sym (em ∙ cond-false _ _ _ j) in
          let l = sym (el ∙ cond-false _ _ _ j) in
          let f = sym (eo ∙ ap x (cond-false _ _ _ j)) in
          cond-false (rest_joins e w.ending) _ _ j ∙ (λ i. done (with_book e.side (m i) (et' i) k (eg' i) S) (l i) (Ok (f i)))
    ]
  where
    et' : w.queue ≡ theirs
    et' = sym et

    eg' : S.register ++ w.trades ≡ G
    eg' = sym eg

-- A book whose entry was judged

-- each queue holds orders of its side
pub book_on : {X : Type 0} (b : Book X) (s : Side) → all_on s (queue_of s (state_of b)) ≡ true
book_on b Buy = b.bought
book_on b Sell = b.sold

-- and orders that fit
book_fits : {X : Type 0} (b : Book X) (s : Side) → orders_fit (queue_of s (state_of b)) ≡ true
book_fits b Buy = b.buys_fit
book_fits b Sell = b.sells_fit

module _ {X : Type 0} (R : Rule) (C : Own) (L : Lines) (b : Book X) (e : Entry) (p : Plan) (judged : Judged R C (state_of b) L e (Ok p)) (s : Side) (its : e.side ≡ s) where
  abbrev S : State
  S = state_of b

  abbrev w : Walked
  w = walk_of R S e

  abbrev el : Order → Bool
  el = eligible_for e.kind R S.deviation (suc S.last) (queue_of (other e.side) S) e

  known : AcceptedEntry C S L e w
  known = accepted C S L e w judged.0

  next : suc S.last ≡ S.last + 1
  next = omega arith

  -- the entry's walk, over the queue of the other side and under the next number
  same_walk : walk el e (S.last + 1) (entry_lots e) (queue_of (other s) S) ≡ w
  same_walk = ap₂ (λ k z. walk el e k (entry_lots e) (queue_of (other z) S)) (sym next) (sym its)

  -- what carrying it out needs
  pub carry_needs : (verdict C L e.account e.side (entry_lots e) ≡ None) × Planned (adjusted L e.account (hold e.side (entry_lots e))) (queue_of (other s) S) e (S.last + 1) (entry_lots e) p.trades × (length S.register + p.trades ≤ 512) × (rest_joins e p.ending ≡ true → length (queue_of s S) < 64)
  carry_needs =
      let plan = judged.1 in
      let ready = planned R C S L e p.trades plan.trades known (book_on b (other e.side)) in (
        known.asked,
        subst (λ z. Planned (adjusted L e.account (hold e.side (entry_lots e))) (queue_of (other z) S) e (S.last + 1) (entry_lots e) p.trades) its (subst (λ k. Planned (adjusted L e.account (hold e.side (entry_lots e))) (queue_of (other e.side) S) e k (entry_lots e) p.trades) next ready),
        (let h = known.register in let t = plan.trades in omega arith),
        λ j. subst (λ z. length (queue_of z S) < 64) its (known.queue (subst (λ x. rest_joins e x ≡ true) plan.ending j)),
      )

  -- its number can be given
  pub number_kept : S.last + 1 ≤ number_max
  number_kept = let low = known.number in omega arith

  -- no more lots are left than it had
  pub plan_left : p.left ≤ entry_lots e
  plan_left = let h = left_within el e (suc S.last) (entry_lots e) (queue_of (other e.side) S) in let i = judged.1.left in omega arith

  module _ (L' : Lines) (mine' theirs' : List Order) (G' : List Trade) (carried : EnteredBook R e (S.last + 1) p L (queue_of s S) (queue_of (other s) S) S.register L' mine' theirs' G') where
    parts : CarriedEntry R e (S.last + 1) p.ending (walk el e (S.last + 1) (entry_lots e) (queue_of (other s) S)) L (queue_of s S) S.register L' mine' theirs' G'
    parts = carried el (judged.1.trades ∙ sym (ap (λ (x : Walked). length x.trades) same_walk))

    -- what all orders of a queue pass, they still pass: in the entry's own queue if the order of its rest does
    own_passes : (t : Order → Bool) → t (order_of e.account e.side (S.last + 1) e.price (walk el e (S.last + 1) (entry_lots e) (queue_of (other s) S)).left) ≡ true → list_all t (queue_of s S) ≡ true → list_all t mine' ≡ true
    own_passes t rest all =
        subst (λ q. list_all t q ≡ true) (sym parts.own_queue) (cond_both (rest_joins e p.ending) _ _ (λ q. list_all t q ≡ true) (λ _. all_joined t R _ (queue_of s S) rest all) (λ _. all))

    other_passes : (t : Order → Bool) → ((o : Order) (n : ℕ) → t o ≡ true → t (lowered o n) ≡ true) → list_all t (queue_of (other s) S) ≡ true → list_all t theirs' ≡ true
    other_passes t stays all =
        subst (λ q. list_all t q ≡ true) (sym parts.other_queue) (all_walk t stays el e (S.last + 1) (entry_lots e) (queue_of (other s) S) all)

    -- each queue still holds orders of its side, and orders that fit
    pub queues_kept : (all_on s mine' ≡ true) × (all_on (other s) theirs' ≡ true) × (orders_fit mine' ≡ true) × (orders_fit theirs' ≡ true)
    queues_kept =
        let left = left_within el e (S.last + 1) (entry_lots e) (queue_of (other s) S) in
        let few = lots_within e.lots known.lots in
        let low = known.number in (
          own_passes (is_on s) (ap (is_side s) its ∙ is_side_same s) (book_on b s),
          other_passes (is_on (other s)) (λ o n on. on) (book_on b (other s)),
          own_passes order_fits (and_from _ _ (le-leb (S.last + 1) number_max (omega arith)) (le-leb _ lots_max (omega arith))) (book_fits b s),
          other_passes order_fits fits_lowered (book_fits b (other s)),
        )

    -- the entry was carried out as defined
    pub carried_as : (o : Outcome) → o ≡ entry_outcome e (S.last + 1) (entry_lots e) p.ending p.left → entered R S L e w ≡ done (with_book s mine' theirs' (S.last + 1) G' S) L' (Ok o)
    carried_as o outcome =
        let plan = judged.1 in
        let part : CarriedEntry R e (suc S.last) w.ending w L (queue_of e.side S) S.register L' mine' theirs' G' =
        subst (λ z. CarriedEntry R e (suc S.last) w.ending w L (queue_of z S) S.register L' mine' theirs' G') (sym its)
        (subst (λ k. CarriedEntry R e k w.ending w L (queue_of s S) S.register L' mine' theirs' G') (sym next)
        (subst (λ x. CarriedEntry R e (S.last + 1) x w L (queue_of s S) S.register L' mine' theirs' G') plan.ending
        (subst (λ x. CarriedEntry R e (S.last + 1) p.ending x L (queue_of s S) S.register L' mine' theirs' G') same_walk parts))) in
        let done-so = entered_as R S L e w mine' theirs' G' L' o part.own_queue part.other_queue part.register part.lines
        (outcome ∙ (λ i. entry_outcome e (sym next i) (entry_lots e) (plan.ending i) (plan.left i))) in
        done-so ∙ ap₂ (λ z k. done (with_book z mine' theirs' k G' S) L' (Ok o)) its next
