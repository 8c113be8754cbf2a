-- Closing a market gives back what rests in it. Assumes nothing.
use Rattle.std.proofs.Common.{◌≡◌, ℕ, ◌+◌, ◌≤◌, true, false, List, [], ◌∷◌, ℤ, Some, None, Option, sym, refl, ap, ◌∙◌, subst₂, arith}
use Rattle.std.proofs.lemmas.Bool.{cond_both, le-leb}
use Rattle.clearing.specs.Centre.{Lines, Own, holds}
use Rattle.clearing.specs.declared.line.Line.{Line}
use Rattle.clearing.specs.declared.side.Side.{Side}
use Rattle.market.proofs.Counts.{counted_none, counted_self, held_released, settled_released}
use Rattle.market.proofs.Runs.{new_keeps, run_keeps}
use Rattle.market.specs.Closing.{ComesBack, NothingStaysHeld, all_given_back, closed, given_back}
use Rattle.market.specs.Law.{Keeps, counted, events_of, held_on, lots_queued, settled_on}
use Rattle.market.specs.Order.{account_of, lots_of, side_of}
use Rattle.market.specs.Rule.{Lawful, Rule}
use Rattle.market.specs.Run.{new_day, run}
use Rattle.market.specs.State.{State}
use Rattle.market.specs.declared.order.Order.{Order}

-- only no lots at all are not held where there is no line
unheld : (x : Option Line) (s : Side) (n : ℕ) → n ≤ held_on x s → holds x s n ≡ false → n ≡ 0
unheld None s n h f = omega arith
unheld (Some l) s n h f = absurd (let t = le-leb n _ h in let e : true ≡ false = sym t ∙ f in cc)

-- the lots of one order
one_back : (L : Lines) (o : Order) → lots_of o ≤ held_on (L (account_of o)) (side_of o) → (a : ℤ) (s : Side) → (held_on (given_back L o a) s + counted a s (account_of o) (side_of o) (lots_of o) ≡ held_on (L a) s) × (settled_on (given_back L o a) s ≡ settled_on (L a) s)
one_back L o h a s =
    let c : ℕ → ℕ = counted a s (account_of o) (side_of o) in
    cond_both (holds (L (account_of o)) (side_of o) (lots_of o)) _ L (λ (M : Lines). (held_on (M a) s + c (lots_of o) ≡ held_on (L a) s) × (settled_on (M a) s ≡ settled_on (L a) s))
    (λ _. (held_released L (account_of o) (side_of o) (lots_of o) h a s, settled_released L (account_of o) (side_of o) (lots_of o) h a s))
    (λ f. let z = ap c (unheld _ (side_of o) (lots_of o) h f) in let n = counted_none a s (account_of o) (side_of o) in (omega arith, refl))

-- those of a queue
queue_back : (q : List Order) (L : Lines) → ((a : ℤ) (s : Side) → lots_queued q a s ≤ held_on (L a) s) → (a : ℤ) (s : Side) → (held_on (all_given_back L q a) s + lots_queued q a s ≡ held_on (L a) s) × (settled_on (all_given_back L q a) s ≡ settled_on (L a) s)
queue_back [] L h a s = (omega arith, refl)
queue_back (o ∷ q) L h a s =
    let mine = h (account_of o) (side_of o) in
    let own = counted_self (account_of o) (side_of o) (lots_of o) in
    let first = one_back L o (omega arith) in
    let on = queue_back q (given_back L o) (λ b t. let x = (first b t).0 in let y = h b t in omega arith) a s in
    let x = (first a s).0 in
    let y = on.0 in
    (omega arith, on.1 ∙ (first a s).1)

-- those of both queues
pub comes_back : (S : State) (L : Lines) → ComesBack S L (closed L S)
comes_back S L h a s =
    let buys = queue_back S.buys L (λ b t. let y = h b t in omega arith) in
    let sells = queue_back S.sells (all_given_back L S.buys) (λ b t. let x = (buys b t).0 in let y = h b t in omega arith) a s in
    let x = (buys a s).0 in
    let y = sells.0 in
    (omega arith, sells.1 ∙ (buys a s).1)

-- what rests is all that is held after a run
pub nothing_stays_held : (R : Rule) → Lawful R → (C : Own) (S : State) (L : Lines) → NothingStaysHeld R C S L (closed L S)
nothing_stays_held R lawful C S L L₀ calls led a s =
    let day = run R C (new_day L₀) calls in
    let kept : Keeps R (events_of day.history) S L = subst₂ (λ T M. Keeps R (events_of day.history) T M) led.1 led.2 (run_keeps R lawful C (new_day L₀) (new_keeps R L₀ led.0) calls).law in
    let back = (comes_back S L (λ b t. let e = (kept.balanced b t).held in omega arith) a s).0 in
    let held = (kept.balanced a s).held in
    omega arith
