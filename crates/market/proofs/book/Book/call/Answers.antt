-- The period decides, or lets the call go on to the orders with nothing changed.
use Rattle.std.proofs.Common.{◌≡◌, true, ℤ, sym, refl, ap, ◌∙◌, subst, w64, SFits, rules}
use Rattle.std.proofs.lemmas.Int.{to_z-of_z}
use Rattle.std.proofs.lemmas.Bool.{false≢true, not-true}
use Rattle.clearing.specs.Centre.{Lines}
use Rattle.dealing.specs.Replies.{Reply}
use Rattle.dealing.specs.declared.call.Call.{Call}
use Rattle.dealing.specs.declared.call.Call.TheVariants.{Open, Enter, Withdraw, Reduce, Suspend, Resume}
use Rattle.dealing.specs.declared.call.Entry.{Entry}
use Rattle.market.proofs.Replies.{book_fits}
use Rattle.market.specs.BookState.{state_of}
use Rattle.market.specs.Calls.{answer, done, enter, reduce, withdraw}
use Rattle.market.specs.Fits.{IsMarketReply}
use Rattle.market.specs.Sitting.{goes_on}
use Rattle.market.specs.State.{State, is_trading, is_unopened}
use Rattle.market.specs.declared.book.Book.{Book}
use Rattle.market.specs.declared.period.Period.{Period}
use Rattle.market.proofs.book.Book.call.Given as given
use Rattle.market.proofs.book.Book.call.Goals as goal

-- no other call goes on to the orders
no_other : (p : Period) (c : Call) → goes_on p c ≡ true → ((e : Entry) → c ≡ Enter e → ⊥) → ((a k : ℤ) → c ≡ Withdraw a k → ⊥) → ((a k n : ℤ) → c ≡ Reduce a k n → ⊥) → ⊥
no_other p (Open low high deviation) on e w r = false≢true on
no_other p (Enter x) on e w r = e x refl
no_other p (Withdraw a k) on e w r = w a k refl
no_other p (Reduce a k n) on e w r = r a k n refl
no_other p Suspend on e w r = false≢true on
no_other p Resume on e w r = false≢true on

pub returns-in-Some-clause-answered : goal.returns-in-Some-clause-answered
returns-in-Some-clause-answered g c =
    let b = c.args.self.now in
    c.in-Some.ensures.turned (g.R.QueueRule.rule b.rule.rule) (g.C.Centre.own c.args.centre.now) (state_of b) (g.C.Centre.lines c.args.centre.now)

pub enter-requires : goal.enter-requires
enter-requires g c =
    let b = c.args.self.now in
    let R = g.R.QueueRule.rule b.rule.rule in
    let t = c.in_default.ensures.turned R (g.C.Centre.own c.args.centre.now) (state_of b) (g.C.Centre.lines c.args.centre.now) in
    ap (λ (S : State). is_trading S.period) t.0 ∙ subst (λ x. goes_on b.sitting.period x ≡ true) c.in-Enter.is t.1

pub withdraw-requires : goal.withdraw-requires
withdraw-requires g c =
    let b = c.args.self.now in
    let R = g.R.QueueRule.rule b.rule.rule in
    let t = c.in_default.ensures.turned R (g.C.Centre.own c.args.centre.now) (state_of b) (g.C.Centre.lines c.args.centre.now) in
    ap (λ (S : State). is_unopened S.period) t.0 ∙ not-true _ (subst (λ x. goes_on b.sitting.period x ≡ true) c.in-Withdraw.is t.1)

pub reduce-requires : goal.reduce-requires
reduce-requires g c =
    let b = c.args.self.now in
    let R = g.R.QueueRule.rule b.rule.rule in
    let t = c.in_default.ensures.turned R (g.C.Centre.own c.args.centre.now) (state_of b) (g.C.Centre.lines c.args.centre.now) in
    ap (λ (S : State). is_unopened S.period) t.0 ∙ not-true _ (subst (λ x. goes_on b.sitting.period x ≡ true) c.in-Reduce.is t.1)

pub unreachable-requires : goal.unreachable-requires
unreachable-requires g c =
    let b = c.args.self.now in
    let R = g.R.QueueRule.rule b.rule.rule in
    let t = c.in_default.ensures.turned R (g.C.Centre.own c.args.centre.now) (state_of b) (g.C.Centre.lines c.args.centre.now) in
    no_other b.sitting.period c.args.call t.1 c.in_default-call.not-Enter c.in_default-call.not-Withdraw c.in_default-call.not-Reduce

pub returns-in-Enter-clause-answered : goal.returns-in-Enter-clause-answered
returns-in-Enter-clause-answered g c =
    let b = c.args.self.now in
    let R = g.R.QueueRule.rule b.rule.rule in
    let C = g.C.Centre.own c.args.centre.now in
    let L = g.C.Centre.lines c.args.centre.now in
    let t = c.in_default.ensures.turned R C (state_of b) L in
    ap (answer R C (state_of b) L) c.in-Enter.is ∙ ap (λ S. enter R C S L c.in-Enter.entry) (sym t.0) ∙ c.enter.ensures.answered

pub returns-in-Withdraw-clause-answered : goal.returns-in-Withdraw-clause-answered
returns-in-Withdraw-clause-answered g c =
    let b = c.args.self.now in
    let R = g.R.QueueRule.rule b.rule.rule in
    let C = g.C.Centre.own c.args.centre.now in
    let L = g.C.Centre.lines c.args.centre.now in
    let t = c.in_default.ensures.turned R C (state_of b) L in
    let same = sym t.0 in
    let fa : SFits w64 c.in-Withdraw.account = search rules in
    let fk : SFits w64 c.in-Withdraw.number = search rules in
    let a = sym (to_z-of_z w64 c.in-Withdraw.account fa) in
    let k = sym (to_z-of_z w64 c.in-Withdraw.number fk) in
    ap (answer R C (state_of b) L) c.in-Withdraw.is ∙ (λ i. withdraw (same i) L (a i) (k i)) ∙ c.withdraw.ensures.answered

pub returns-in-Reduce-clause-answered : goal.returns-in-Reduce-clause-answered
returns-in-Reduce-clause-answered g c =
    let b = c.args.self.now in
    let R = g.R.QueueRule.rule b.rule.rule in
    let C = g.C.Centre.own c.args.centre.now in
    let L = g.C.Centre.lines c.args.centre.now in
    let t = c.in_default.ensures.turned R C (state_of b) L in
    let same = sym t.0 in
    let fa : SFits w64 c.in-Reduce.account = search rules in
    let fk : SFits w64 c.in-Reduce.number = search rules in
    let fn : SFits w64 c.in-Reduce.lots = search rules in
    let a = sym (to_z-of_z w64 c.in-Reduce.account fa) in
    let k = sym (to_z-of_z w64 c.in-Reduce.number fk) in
    let n = sym (to_z-of_z w64 c.in-Reduce.lots fn) in
    ap (answer R C (state_of b) L) c.in-Reduce.is ∙ (λ i. reduce (same i) L (a i) (k i) (n i)) ∙ c.reduce.ensures.answered

-- what is answered as defined is a reply that a market can give
bounded : (g : given.Over) (b : Book g.row.R.Denot) (centre : g.row.C.Denot) (c : Call) (S' : State) (L' : Lines) (r : Reply) → answer (g.R.QueueRule.rule b.rule.rule) (g.C.Centre.own centre) (state_of b) (g.C.Centre.lines centre) c ≡ done S' L' r → IsMarketReply r
bounded g b centre =
    book_fits (g.R.QueueRule.rule b.rule.rule) (g.C.Centre.own centre) (g.C.Centre.lines centre) (g.C.Centre.depth centre) (g.met.C.Centre.shallow centre) (g.met.C.Centre.denies centre) b

pub returns-in-Some-clause-bounded : goal.returns-in-Some-clause-bounded
returns-in-Some-clause-bounded g c =
    bounded g c.args.self.now c.args.centre.now c.args.call _ _ _ (returns-in-Some-clause-answered g c)

pub returns-in-Enter-clause-bounded : goal.returns-in-Enter-clause-bounded
returns-in-Enter-clause-bounded g c =
    bounded g c.args.self.now c.args.centre.now c.args.call _ _ _ (returns-in-Enter-clause-answered g c)

pub returns-in-Withdraw-clause-bounded : goal.returns-in-Withdraw-clause-bounded
returns-in-Withdraw-clause-bounded g c =
    bounded g c.args.self.now c.args.centre.now c.args.call _ _ _ (returns-in-Withdraw-clause-answered g c)

pub returns-in-Reduce-clause-bounded : goal.returns-in-Reduce-clause-bounded
returns-in-Reduce-clause-bounded g c =
    bounded g c.args.self.now c.args.centre.now c.args.call _ _ _ (returns-in-Reduce-clause-answered g c)
