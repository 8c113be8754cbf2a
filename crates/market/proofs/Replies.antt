-- Every reply of a market is one that a market can give. Assumes nothing.
use Rattle.std.proofs.Common.{◌≡◌, ℕ, suc, ◌≤◌, Bool, true, false, not, ◌&&◌, leb, List, [], ◌∷◌, ◌++◌, ℤ, pos, negsuc, nat_abs, is_none, Some, None, Ok, Err, Option, refl, ◌∙◌, subst, IfSome, arith, lit≤}
use Rattle.std.specs.List.{list_all}
use Rattle.std.proofs.lemmas.Bool.{and_from, and_parts, cond_both, false≢true, leb-true, not-false, not-true, leb-false}
use Rattle.std.proofs.lemmas.List.Folds.{list_all-append}
use Rattle.clearing.specs.Centre.{Denies, DeniedBy, Lines, Own, judged, verdict}
use Rattle.clearing.specs.Line.{in_range, lots_max}
use Rattle.clearing.specs.Side.{other}
use Rattle.clearing.specs.declared.cause.Cause.{Cause}
use Rattle.clearing.specs.declared.cause.Cause.TheVariants.{NoLine, OutOfRange, CentreRule, OverFirmCap, NotHeld, BadSetting}
use Rattle.clearing.specs.declared.cause.Denial.{Denial}
use Rattle.clearing.specs.declared.line.Line.{Line}
use Rattle.clearing.specs.declared.side.Side.{Side}
use Rattle.dealing.specs.Replies.{Reply, denial, no_figures, refusal_number}
use Rattle.dealing.specs.declared.call.Call.{Call}
use Rattle.dealing.specs.declared.call.Call.TheVariants.{Open, Enter, Withdraw, Reduce, Suspend, Resume}
use Rattle.dealing.specs.declared.call.Entry.{Entry}
use Rattle.dealing.specs.declared.call.Rest.{Rest}
use Rattle.dealing.specs.declared.call.Rest.TheVariants.{Queue, TakeOff, InFull}
use Rattle.dealing.specs.declared.outcome.Figures.{Figures}
use Rattle.dealing.specs.declared.outcome.Outcome.TheVariants.{Opened}
use Rattle.dealing.specs.declared.outcome.Outcome.TheVariants.{Suspended as SuspendedNow, Resumed as ResumedNow}
use Rattle.dealing.specs.declared.refusal.Refusal.{Refusal}
use Rattle.dealing.specs.declared.refusal.Refusal.TheVariants.{PriceOutOfBand, WrongPeriod}
use Rattle.market.proofs.Accepting.{accepted, left_within}
use Rattle.market.proofs.Fitting.{lots_within}
use Rattle.market.proofs.Passing.{numbered_passes}
use Rattle.market.proofs.Runs.{none_fails}
use Rattle.market.specs.BookState.{state_of}
use Rattle.market.specs.Calls.{Check, Done, answer, centre_denies, check, done, enter, entered, entry_checks, entry_lots, entry_refusal, first_of, opening_fits, or_else, outcome_of, reduce_checks, reduce_order, reduction_fits, rest_joins, unless, walk_of, withdraw_checks, withdraw_order}
use Rattle.market.specs.Fits.{FiguresFit, IsMarketReply, is_market_number, number_max, order_fits, orders_fit}
use Rattle.market.specs.Order.{lots_of}
use Rattle.market.specs.Rule.{Rule}
use Rattle.market.specs.State.{State, is_suspended, is_trading, is_unopened, order_numbered, queue_of, with_period, with_terms}
use Rattle.market.specs.Walk.{eligible_for}
use Rattle.market.specs.declared.book.Book.{Book}
use Rattle.market.specs.declared.ending.Ending.{Ending}
use Rattle.market.specs.declared.ending.Ending.TheVariants.{Filled as filled, Own as own, Short as short}
use Rattle.market.specs.declared.order.Order.{Order}
use Rattle.market.specs.declared.period.Period.TheVariants.{Trading, Suspended}

-- a reduction takes no more lots than the order has
reduced_within : (n : ℤ) (o : Order) → reduction_fits n o ≡ true → nat_abs n ≤ lots_of o
reduced_within (pos n) o fit =
    let less = leb-false (lots_of o) n (not-true _ (and_parts (leb 1 n) _ fit).1) in omega arith
reduced_within (negsuc n) o fit = absurd (false≢true fit)

-- Refusals

-- a denial, where there is one, comes from no layer above 99
abbrev Shallow : Option Denial → Type 0
Shallow o = IfSome o (λ d. d.depth ≤ 99)

none_shallow : (o : Option Denial) → is_none o ≡ true → Shallow o
none_shallow None none = tt
none_shallow (Some d) none = absurd (false≢true none)

-- a refusal, where there is one, is a market's
abbrev MarketRefusal : Option Refusal → Type 0
MarketRefusal o = IfSome o (λ e. IsMarketReply (Err e))

-- a refusal of the market's own
abbrev is_plain : Refusal → Bool
is_plain e = is_market_number (refusal_number e) && is_none (denial e)

plain_fits : (e : Refusal) → is_plain e ≡ true → IsMarketReply (Err e)
plain_fits e plain =
    let both = and_parts (is_market_number (refusal_number e)) _ plain in
    record { number = both.0; figures = tt; depth = none_shallow (denial e) both.1 }

first_fits : (cs : List Check) → list_all (λ c. is_plain c.refusal) cs ≡ true → MarketRefusal (first_of cs)
first_fits [] all = tt
first_fits (c ∷ cs) all =
    let both = and_parts (is_plain c.refusal) _ all in
    cond_both c.fails (Some c.refusal) (first_of cs) MarketRefusal (λ _. plain_fits c.refusal both.0) (λ _. first_fits cs both.1)

or_fits : (o p : Option Refusal) → MarketRefusal o → MarketRefusal p → MarketRefusal (or_else o p)
or_fits (Some e) p fit then = fit
or_fits None p fit then = then

centre_fits : (o : Option Denial) → Shallow o → MarketRefusal (centre_denies o)
centre_fits None few = tt
centre_fits (Some d) few = record { number = refl; figures = tt; depth = few }

-- a centre denies by no layer above its own depth
denied_shallow : (d : ℕ) → d ≤ 99 → (cause : Cause) (k : ℕ) → DeniedBy d cause k → k ≤ 99
denied_shallow d few NoLine k by = absurd by
denied_shallow d few OutOfRange k by = absurd by
denied_shallow d few CentreRule k by = omega arith
denied_shallow d few OverFirmCap k by = let deep = by.1 in omega arith
denied_shallow d few NotHeld k by = absurd by
denied_shallow d few BadSetting k by = absurd by

denies_shallow : (d : ℕ) → d ≤ 99 → (o : Option Denial) → Denies d o → Shallow o
denies_shallow d few None by = tt
denies_shallow d few (Some x) by = denied_shallow d few x.cause x.depth by

judged_shallow : (C : Own) (L : Lines) (a : ℤ) (s : Side) (n : ℕ) (line : Option Line) → Shallow (C L a s n) → Shallow (judged C L a s n line)
judged_shallow C L a s n None few = lit≤ tt
judged_shallow C L a s n (Some l) few = cond_both (in_range s n l) _ _ Shallow (λ _. few) (λ _. lit≤ tt)

unless_fits : (o : Option Refusal) (S : State) (L : Lines) (d : Done) → MarketRefusal o → (o ≡ None → IsMarketReply d.reply) → IsMarketReply (unless o S L d).reply
unless_fits (Some e) S L d fit go = fit
unless_fits None S L d fit go = go refl

checked_fits : (cs : List Check) (S : State) (L : Lines) (d : Done) → list_all (λ c. is_plain c.refusal) cs ≡ true → (first_of cs ≡ None → IsMarketReply d.reply) → IsMarketReply (unless (first_of cs) S L d).reply
checked_fits cs S L d plain go = unless_fits (first_of cs) S L d (first_fits cs plain) go

-- Acceptances

none_fit : FiguresFit no_figures
none_fit = record { number = lit≤ tt; traded = lit≤ tt; resting = lit≤ tt; off = lit≤ tt }

outcome_fits : (x : Ending) (r : Rest) (none : Bool) (f : Figures) → FiguresFit f → IsMarketReply (Ok (outcome_of x r none f))
outcome_fits filled r none f fit = record { number = refl; figures = fit; depth = tt }
outcome_fits short Queue true f fit = record { number = refl; figures = fit; depth = tt }
outcome_fits short Queue false f fit = record { number = refl; figures = fit; depth = tt }
outcome_fits short TakeOff true f fit = record { number = refl; figures = fit; depth = tt }
outcome_fits short TakeOff false f fit = record { number = refl; figures = fit; depth = tt }
outcome_fits short InFull true f fit = record { number = refl; figures = fit; depth = tt }
outcome_fits short InFull false f fit = record { number = refl; figures = fit; depth = tt }
outcome_fits own r none f fit = record { number = refl; figures = fit; depth = tt }

withdrawn_fits : (S : State) (L : Lines) (a : ℤ) (o : Option Order) → IfSome o (λ x. order_fits x ≡ true) → IsMarketReply (withdraw_order S L a o).reply
withdrawn_fits S L a None fit = record { number = refl; figures = tt; depth = tt }
withdrawn_fits S L a (Some o) fit =
    let both = and_parts (leb o.number number_max) _ fit in
    checked_fits (withdraw_checks S L a o) S L _ refl
    (λ _. record {
      number = refl;
      figures = record { number = leb-true o.number number_max both.0; traded = lit≤ tt; resting = lit≤ tt; off = leb-true (lots_of o) lots_max both.1 };
      depth = tt;
    })

reduced_fits : (S : State) (L : Lines) (a n : ℤ) (o : Option Order) → IfSome o (λ x. order_fits x ≡ true) → IsMarketReply (reduce_order S L a n o).reply
reduced_fits S L a n None fit = record { number = refl; figures = tt; depth = tt }
reduced_fits S L a n (Some o) fit =
    let both = and_parts (leb o.number number_max) _ fit in
    let few = leb-true (lots_of o) lots_max both.1 in
    checked_fits (reduce_checks S L a n o) S L _ refl
    (λ none.
    let less = reduced_within n o (not-false _ (none_fails (reduce_checks S L a n o) none).1.0) in
    record {
      number = refl;
      figures = record { number = leb-true o.number number_max both.0; traded = lit≤ tt; resting = omega arith; off = omega arith };
      depth = tt;
    })

module _ (R : Rule) (C : Own) (S : State) (L : Lines) where
  entered_fits : (e : Entry) → entry_refusal C S L e (walk_of R S e) ≡ None → IsMarketReply (entered R S L e (walk_of R S e)).reply
  entered_fits e none =
      let w = walk_of R S e in
      let known = accepted C S L e w none in
      let next = known.number in
      let few = lots_within e.lots known.lots in
      let left = left_within (eligible_for e.kind R S.deviation (suc S.last) (queue_of (other e.side) S) e) e (suc S.last) (entry_lots e) (queue_of (other e.side) S) in
      cond_both (rest_joins e w.ending) _ _ (λ (d : Done). IsMarketReply d.reply)
      (λ _. outcome_fits w.ending e.rest _ _ (record { number = omega arith; traded = omega arith; resting = omega arith; off = lit≤ tt }))
      (λ _. outcome_fits w.ending e.rest _ _ (record { number = omega arith; traded = omega arith; resting = lit≤ tt; off = omega arith }))

  module _ (denies : (M : Lines) (a : ℤ) (s : Side) (n : ℕ) → Shallow (C M a s n)) (buys : orders_fit S.buys ≡ true) (sells : orders_fit S.sells ≡ true) where
    entry_fits : (e : Entry) → IsMarketReply (enter R C S L e).reply
    entry_fits e =
        unless_fits (entry_refusal C S L e (walk_of R S e)) S L _
        (or_fits (first_of (entry_checks S L e (walk_of R S e))) _
        (first_fits (entry_checks S L e (walk_of R S e)) refl)
        (centre_fits (verdict C L e.account e.side (entry_lots e)) (judged_shallow C L e.account e.side (entry_lots e) (L e.account) (denies L e.account e.side (entry_lots e)))))
        (entered_fits e)

    -- every order that a number names fits
    named_fits : (k : ℤ) → IfSome (order_numbered S k) (λ o. order_fits o ≡ true)
    named_fits k = numbered_passes order_fits (S.buys ++ S.sells) k (list_all-append order_fits S.buys S.sells ∙ and_from _ _ buys sells)

    pub answer_fits : (c : Call) → IsMarketReply (answer R C S L c).reply
    answer_fits (Open low high deviation) =
        checked_fits (check (not (is_unopened S.period)) WrongPeriod ∷ check (not (opening_fits low high deviation)) PriceOutOfBand ∷ []) S L (done (with_terms low high (nat_abs deviation) S) L (Ok Opened)) refl (λ _. record { number = refl; figures = none_fit; depth = tt })
    answer_fits (Enter e) = entry_fits e
    answer_fits (Withdraw a k) =
        checked_fits (check (is_unopened S.period) WrongPeriod ∷ []) S L (withdraw_order S L a (order_numbered S k)) refl (λ _. withdrawn_fits S L a (order_numbered S k) (named_fits k))
    answer_fits (Reduce a k n) =
        checked_fits (check (is_unopened S.period) WrongPeriod ∷ []) S L (reduce_order S L a n (order_numbered S k)) refl (λ _. reduced_fits S L a n (order_numbered S k) (named_fits k))
    answer_fits Suspend =
        checked_fits (check (not (is_trading S.period)) WrongPeriod ∷ []) S L (done (with_period Suspended S) L (Ok SuspendedNow)) refl (λ _. record { number = refl; figures = none_fit; depth = tt })
    answer_fits Resume =
        checked_fits (check (not (is_suspended S.period)) WrongPeriod ∷ []) S L (done (with_period Trading S) L (Ok ResumedNow)) refl (λ _. record { number = refl; figures = none_fit; depth = tt })

-- what a book answers as defined, over a centre of fewer than 100 layers
pub book_fits : {X : Type 0} (R : Rule) (C : Own) (L : Lines) (d : ℕ) → d ≤ 99 → ((M : Lines) (a : ℤ) (s : Side) (n : ℕ) → Denies d (C M a s n)) → (b : Book X) (c : Call) (S' : State) (L' : Lines) (r : Reply) → answer R C (state_of b) L c ≡ done S' L' r → IsMarketReply r
book_fits R C L d few by b c S' L' r answered =
    subst (λ (x : Done). IsMarketReply x.reply) answered
    (answer_fits R C (state_of b) L (λ M a s n. denies_shallow d few (C M a s n) (by M a s n)) b.buys_fit b.sells_fit c)
