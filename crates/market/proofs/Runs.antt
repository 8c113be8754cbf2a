-- Every call keeps the law, and so does every run. Assumes nothing.
use Rattle.std.proofs.Common.{◌≡◌, ℕ, suc, ◌≤◌, Bool, true, false, leb, List, [], ◌∷◌, ◌++◌, map, length, take, drop, ℤ, pos, negsuc, nat_abs, Some, None, Err, Option, sym, refl, ap, ◌∙◌, subst, ap₂, subst₂, inl, inr, append_assoc, append-nil, arith}
use Rattle.std.specs.List.{AllByRecursion}
use Rattle.std.proofs.lemmas.List.{length-take-le, map_push, take-append-drop, take_at}
use Rattle.std.proofs.lemmas.Bool.{and_parts, both_ways, cases_Bool, cond_both, cond-false, cond-true, false≢true, leb-false, not-false, not-true, or_parts}
use Rattle.clearing.specs.Centre.{Lines, Own, judged}
use Rattle.clearing.specs.declared.line.Line.{Line}
use Rattle.clearing.specs.declared.side.Side.{Side}
use Rattle.clearing.specs.declared.side.Side.TheVariants.{Buy, Sell}
use Rattle.clearing.specs.declared.cause.Denial.{Denial}
use Rattle.dealing.specs.Replies.{Reply}
use Rattle.dealing.specs.declared.call.Call.{Call}
use Rattle.dealing.specs.declared.call.Call.TheVariants.{Open, Enter, Withdraw, Reduce, Suspend, Resume}
use Rattle.dealing.specs.declared.call.Entry.{Entry}
use Rattle.dealing.specs.declared.call.Kind.{Kind}
use Rattle.dealing.specs.declared.call.Kind.TheVariants.{Limited, Market}
use Rattle.dealing.specs.declared.call.Rest.{Rest}
use Rattle.dealing.specs.declared.call.Rest.TheVariants.{Queue, TakeOff, InFull}
use Rattle.dealing.specs.declared.outcome.Figures.{Figures}
use Rattle.dealing.specs.declared.refusal.Refusal.{Refusal}
use Rattle.dealing.specs.declared.refusal.Refusal.TheVariants.{NoSuchOrder}
use Rattle.market.proofs.Books.{Reached, keeps_of}
use Rattle.market.proofs.Entries.{reached_joined, reached_off}
use Rattle.market.proofs.Lessening.{order_in, quiet_nothing, quiet_opened, reached_less, reached_quiet}
use Rattle.market.specs.Calls.{Check, Done, answer, bad_market_terms, centre_denies, done, entered as entered-done, entry_checks, entry_lots, entry_refusal, figures_of, first_of, is_short, or_else, outcome_of, queues_rest, reduce_checks, reduce_order, reduction_fits, rest_joins, unless, walk_of, withdraw_order}
use Rattle.market.specs.Law.{CallKeepsTheLaw, Event, EveryRunKeepsTheLaw, IsRun, Keeps, Kept, entered, entry_event, event_of, events_of, held_on, nothing, opened, reply_event, settled_on}
use Rattle.market.specs.Order.{lots_of}
use Rattle.market.specs.Rule.{Lawful, Rule}
use Rattle.market.specs.Run.{Clear, Day, EmptyLine, Step, new_day, next_day, run, step}
use Rattle.market.specs.State.{State, new_market, order_numbered, with_period, with_terms}
use Rattle.market.specs.declared.ending.Ending.{Ending}
use Rattle.market.specs.declared.ending.Ending.TheVariants.{Filled as filled, Own as own, Short as short}
use Rattle.market.specs.declared.order.Order.{Order}
use Rattle.market.specs.declared.period.Period.TheVariants.{Trading, Suspended}
use Rattle.market.specs.declared.trade.Trade.{Trade}

-- Refusals

-- where no refusal is first, no condition holds
pub none_fails : (cs : List Check) → first_of cs ≡ None → AllByRecursion (λ c. c.fails ≡ false) cs
none_fails [] e = tt
none_fails (c ∷ cs) e =
    elim (cases_Bool c.fails) [
      | inl t ↦ (let x = cond-true c.fails (Some c.refusal) (first_of cs) t in let z : ◌≡◌ {A = ℕ} 0 1 = cc in absurd (omega arith))
      | inr f ↦ (f, none_fails cs (sym (cond-false c.fails (Some c.refusal) (first_of cs) f) ∙ e))
    ]

pub neither : {X : Type 0} (o p : Option X) → or_else o p ≡ None → (o ≡ None) × (p ≡ None)
neither (Some x) p e = absurd (let z : ◌≡◌ {A = ℕ} 0 1 = cc in omega arith)
neither None p e = (refl, e)

pub no_denial : (d : Option Denial) → centre_denies d ≡ None → d ≡ None
no_denial None e = refl
no_denial (Some d) e = absurd (let z : ◌≡◌ {A = ℕ} 0 1 = cc in omega arith)

-- a question answered yes is about an account with a line
pub has_line : (C : Own) (L : Lines) (a : ℤ) (s : Side) (n : ℕ) (o : Option Line) → judged C L a s n o ≡ None → (l : Line) × (o ≡ Some l)
has_line C L a s n None e = absurd (let z : ◌≡◌ {A = ℕ} 0 1 = cc in omega arith)
has_line C L a s n (Some l) e = (l, refl)

-- only a limited entry may queue its rest
limited : (kind : Kind) (e : Entry) → bad_market_terms kind e ≡ false → queues_rest e.rest ≡ true → kind ≡ Limited
limited Limited e terms queues = refl
limited Market e terms queues = absurd (both_ways (queues_rest e.rest) (or_parts (queues_rest e.rest) _ terms).0 queues)

-- a reduction's lots are fewer than those of the order
fewer : (n : ℤ) (o : Order) → reduction_fits n o ≡ true → nat_abs n ≤ lots_of o
fewer (pos n) o fits = let h = leb-false (lots_of o) n (not-true _ (and_parts (leb 1 n) _ fits).1) in omega arith
fewer (negsuc n) o fits = absurd (false≢true fits)

-- an entry's outcome tells that it was accepted, with its figures
outcome_event : (e : Entry) (x : Ending) (r : Rest) (b : Bool) (f : Figures) → entry_event e (outcome_of x r b f) ≡ entered e f
outcome_event e filled r b f = refl
outcome_event e short Queue true f = refl
outcome_event e short Queue false f = refl
outcome_event e short TakeOff true f = refl
outcome_event e short TakeOff false f = refl
outcome_event e short InFull true f = refl
outcome_event e short InFull false f = refl
outcome_event e own r b f = refl

-- One call

module _ (R : Rule) (lawful : Lawful R) (C : Own) (E : List Event) (S : State) (L : Lines) (r : Reached R E S L) where
  -- the law after a call that leaves this
  abbrev Next : Call → Done → Type 0
  Next c d = Reached R (E ++ reply_event c d.reply ∷ []) d.state d.lines

  refused : (c : Call) (x : Refusal) → Next c (done S L (Err x))
  refused c x = reached_quiet R E nothing quiet_nothing S S L r refl refl refl refl refl

  unless_refused : (c : Call) (o : Option Refusal) (d : Done) → (o ≡ None → Next c d) → Next c (unless o S L d)
  unless_refused c (Some x) d go = refused c x
  unless_refused c None d go = go refl

  -- what is known under one event is known under an equal one
  told_as : {x y : Event} {S' : State} {L' : Lines} → x ≡ y → Reached R (E ++ y ∷ []) S' L' → Reached R (E ++ x ∷ []) S' L'
  told_as {S'} {L'} e d = subst (λ z. Reached R (E ++ z ∷ []) S' L') (sym e) d

  withdrawn : (a k : ℤ) (o : Option Order) → order_numbered S k ≡ o → Next (Withdraw a k) (withdraw_order S L a o)
  withdrawn a k None e = refused (Withdraw a k) NoSuchOrder
  withdrawn a k (Some o) e =
      unless_refused (Withdraw a k) _ _ (λ _. reached_less R lawful E S L r o (order_in R E S L r.law k o e) (figures_of o.number 0 0 (lots_of o)) refl (omega arith))

  reduced : (a k n : ℤ) (o : Option Order) → order_numbered S k ≡ o → Next (Reduce a k n) (reduce_order S L a n o)
  reduced a k n None e = refused (Reduce a k n) NoSuchOrder
  reduced a k n (Some o) e =
      let checks : List Check = reduce_checks S L a n o in
      unless_refused (Reduce a k n) (first_of checks) _ (λ none.
      let fits = not-false (reduction_fits n o) (none_fails checks none).1.0 in
      reached_less R lawful E S L r o (order_in R E S L r.law k o e) (figures_of o.number 0 _ (nat_abs n)) refl (fewer n o fits))

  entered_next : (e : Entry) → entry_refusal C S L e (walk_of R S e) ≡ None → Next (Enter e) (entered-done R S L e (walk_of R S e))
  entered_next e none =
      let w = walk_of R S e in
      let both = neither (first_of (entry_checks S L e w)) _ none in
      let checks = none_fails (entry_checks S L e w) both.0 in
      let line = has_line C L e.account e.side (entry_lots e) (L e.account) (no_denial _ both.1) in
      cond_both (rest_joins e w.ending) _ _ (Next (Enter e))
      (λ joins.
      let parts = and_parts (is_short w.ending) _ joins in
      told_as (outcome_event e w.ending e.rest _ _) (reached_joined R lawful E S L r e line.0 line.1 parts.0 (limited e.kind e checks.1.1.0 parts.1) _))
      (λ _. told_as (outcome_event e w.ending e.rest _ _) (reached_off R lawful E S L r e line.0 line.1 _))

  pub call_keeps : (c : Call) → Next c (answer R C S L c)
  call_keeps (Open low high deviation) =
      unless_refused (Open low high deviation) _ _ (λ _. reached_quiet R E (opened (nat_abs deviation)) (quiet_opened (nat_abs deviation)) S (with_terms low high (nat_abs deviation) S) L r refl refl refl refl refl)
  call_keeps (Enter e) = unless_refused (Enter e) _ _ (entered_next e)
  call_keeps (Withdraw a k) = unless_refused (Withdraw a k) _ _ (λ _. withdrawn a k (order_numbered S k) refl)
  call_keeps (Reduce a k n) = unless_refused (Reduce a k n) _ _ (λ _. reduced a k n (order_numbered S k) refl)
  call_keeps Suspend = unless_refused Suspend _ _ (λ _. reached_quiet R E nothing quiet_nothing S (with_period Suspended S) L r refl refl refl refl refl)
  call_keeps Resume = unless_refused Resume _ _ (λ _. reached_quiet R E nothing quiet_nothing S (with_period Trading S) L r refl refl refl refl refl)

-- A run

abbrev pub ReachedDay : Rule → Day → Type 0
ReachedDay R d = Reached R (events_of d.history) d.state d.lines

pub next_keeps : (R : Rule) → Lawful R → (C : Own) (d : Day) → ReachedDay R d → (c : Call) → ReachedDay R (next_day R C d c)
next_keeps R lawful C d r c =
    let after = answer R C d.state d.lines c in
    subst (λ E. Reached R E after.state after.lines) (sym (map_push event_of d.history (step c after.reply))) (call_keeps R lawful C (events_of d.history) d.state d.lines r c)

pub run_keeps : (R : Rule) → Lawful R → (C : Own) (d : Day) → ReachedDay R d → (cs : List Call) → ReachedDay R (run R C d cs)
run_keeps R lawful C d r [] = r
run_keeps R lawful C d r (c ∷ cs) = run_keeps R lawful C (next_day R C d c) (next_keeps R lawful C d r c) cs

-- a line with nothing held or settled
empty_held : (o : Option Line) → EmptyLine o → (s : Side) → held_on o s ≡ 0
empty_held None e s = refl
empty_held (Some l) e Buy = ap (λ (x : Line). x.buy.held) e
empty_held (Some l) e Sell = ap (λ (x : Line). x.sell.held) e

empty_settled : (o : Option Line) → EmptyLine o → (s : Side) → settled_on o s ≡ 0
empty_settled None e s = refl
empty_settled (Some l) e Buy = ap (λ (x : Line). x.buy.settled) e
empty_settled (Some l) e Sell = ap (λ (x : Line). x.sell.settled) e

no_trade : {P : Type 0} (before : List Trade) (t : Trade) (later : List Trade) → [] ≡ before ++ t ∷ later → P
no_trade [] t later e = absurd (let z : ◌≡◌ {A = ℕ} 0 1 = cc in omega arith)
no_trade (b ∷ before) t later e = absurd (let z : ◌≡◌ {A = ℕ} 0 1 = cc in omega arith)

-- nothing rests in a new market
empty_kept : (R : Rule) (s : Side) → Kept R [] [] s []
empty_kept R s = record {
  rest = λ o i. absurd i;
  all = λ o r e. absurd (let x = r.entry in let z : ◌≡◌ {A = ℕ} 0 1 = cc in omega arith);
  ordered = refl;
}

pub new_keeps : (R : Rule) (L : Lines) → Clear L → ReachedDay R (new_day L)
new_keeps R L clear = record {
  law = keeps_of R [] L new_market (record {
    numbers = tt;
    mine_kept = empty_kept R Buy;
    theirs_kept = empty_kept R Sell;
    apart = λ m t i j. absurd i;
    sums = λ a z. refl;
    held = λ a z. empty_held (L a) (clear a) z;
    settled = λ a z. empty_settled (L a) (clear a) z;
    priority = λ before t later e. no_trade before t later e;
    sequence = tt;
  });
  count = refl;
  trades = tt;
  lessened = λ k h. refl;
  deviation = refl;
}

-- the history grows by one step for each call
history_grows : (R : Rule) (C : Own) (d : Day) (cs : List Call) → (later : List Step) × ((run R C d cs).history ≡ d.history ++ later) × (length later ≡ length cs)
history_grows R C d [] = ([], sym (append-nil d.history), refl)
history_grows R C d (c ∷ cs) =
    let g = history_grows R C (next_day R C d c) cs in
    (_ ∷ g.0, g.1 ∙ append_assoc d.history (_ ∷ []) g.0, ap suc g.2)

pub run-append : (R : Rule) (C : Own) (d : Day) (xs ys : List Call) → run R C d (xs ++ ys) ≡ run R C (run R C d xs) ys
run-append R C d [] ys = refl
run-append R C d (x ∷ xs) ys = run-append R C (next_day R C d x) xs ys

pub runs_keep_the_law : EveryRunKeepsTheLaw
runs_keep_the_law R lawful C L calls clear k h =
    let first = run R C (new_day L) (take k calls) in
    let g = history_grows R C (new_day L) (take k calls) in
    let on = history_grows R C first (drop k calls) in
    let whole : run R C (new_day L) calls ≡ run R C first (drop k calls) = sym (ap (run R C (new_day L)) (take-append-drop k calls)) ∙ run-append R C (new_day L) (take k calls) (drop k calls) in
    let size : length first.history ≡ k = ap length g.1 ∙ g.2 ∙ length-take-le k calls h in (
      sym (ap (λ (d : Day). take k d.history) whole ∙ ap (take k) on.1 ∙ take_at first.history on.0 k size),
      (run_keeps R lawful C (new_day L) (new_keeps R L clear) (take k calls)).law,
    )

-- a call whose answer is as defined keeps the law, whatever calls led to the market
pub call_keeps_the_law : (R : Rule) → Lawful R → (C : Own) (S : State) (L : Lines) (c : Call) (r : Reply) (S' : State) (L' : Lines) → answer R C S L c ≡ done S' L' r → CallKeepsTheLaw R C S L c r S' L'
call_keeps_the_law R lawful C S L c r S' L' answered L₀ calls led =
    let day = run R C (new_day L₀) calls in
    let given : answer R C day.state day.lines c ≡ done S' L' r = ap₂ (λ T M. answer R C T M c) led.1 led.2 ∙ answered in
    let on : run R C (new_day L₀) (calls ++ c ∷ []) ≡ next_day R C day c = run-append R C (new_day L₀) calls (c ∷ []) in
    let state : (run R C (new_day L₀) (calls ++ c ∷ [])).state ≡ S' = ap (λ (d : Day). d.state) on ∙ ap (λ (d : Done). d.state) given in
    let lines : (run R C (new_day L₀) (calls ++ c ∷ [])).lines ≡ L' = ap (λ (d : Day). d.lines) on ∙ ap (λ (d : Done). d.lines) given in
    let kept = (run_keeps R lawful C (new_day L₀) (new_keeps R L₀ led.0) (calls ++ c ∷ [])).law in (
      (led.0, state, lines),
      ap (λ (d : Day). d.history) on ∙ ap (λ (d : Done). day.history ++ step c d.reply ∷ []) given,
      subst₂ (λ T M. Keeps R (events_of (run R C (new_day L₀) (calls ++ c ∷ [])).history) T M) state lines kept,
    )

-- one call more of a run
pub run_on : (R : Rule) (C : Own) (L : Lines) (calls : List Call) (c : Call) (S : State) (M : Lines) (replies : List Reply) (S' : State) (M' : Lines) (r : Reply) → IsRun R C L calls S M replies → answer R C S M c ≡ done S' M' r → IsRun R C L (calls ++ c ∷ []) S' M' (replies ++ r ∷ [])
run_on R C L calls c S M replies S' M' r was answered =
    let day = run R C (new_day L) calls in
    let given : answer R C day.state day.lines c ≡ done S' M' r = ap₂ (λ T N. answer R C T N c) was.0 was.1 ∙ answered in
    let on : run R C (new_day L) (calls ++ c ∷ []) ≡ next_day R C day c = run-append R C (new_day L) calls (c ∷ []) in
    let reply : Step → Reply = λ s. s.reply in (
      ap (λ (d : Day). d.state) on ∙ ap (λ (d : Done). d.state) given,
      ap (λ (d : Day). d.lines) on ∙ ap (λ (d : Done). d.lines) given,
      ap (λ (d : Day). map reply d.history) on ∙ map_push reply day.history (step c (answer R C day.state day.lines c).reply) ∙ ap₂ (λ rs (d : Done). rs ++ d.reply ∷ []) was.2 given,
    )
