-- Which orders rest, by a history and a register: an order is told by its number, and what becomes of it when the history or
-- the register grows. Assumes nothing.
use Rattle.std.proofs.Common.{◌≡◌, ℕ, ◌+◌, ◌≤◌, true, List, [], ◌∷◌, sym, refl, ap, ◌∙◌, inl, inr, arith}
use Rattle.std.specs.List.{list_all}
use Rattle.std.proofs.lemmas.Bool.{and_parts, both_ways}
use Rattle.ordered.specs.Row.{in_order}
use Rattle.market.specs.Law.{Accepted, Event, In, Rests, lessened_lots, numbered, traded_away}
use Rattle.market.specs.Order.{account_of, before, lots_of, order_of, quote_of, side_of}
use Rattle.market.specs.Rule.{Lawful, Rule}
use Rattle.market.specs.declared.order.Order.{Order}
use Rattle.market.specs.declared.trade.Trade.{Trade}

-- the order with m lots
abbrev pub with_lots : Order → ℕ → Order
with_lots o m = order_of (account_of o) (side_of o) o.number o.price m

-- orders that agree in every part are the same
pub same_order : (o p : Order) → account_of o ≡ account_of p → side_of o ≡ side_of p → o.number ≡ p.number → o.price ≡ p.price → lots_of o ≡ lots_of p → o ≡ p
same_order o p a s k r n = λ i. order_of (a i) (s i) (k i) (r i) (n i)

-- lots of an order that trades, reductions and a withdrawal have taken
abbrev pub gone : List Event → List Trade → ℕ → ℕ
gone E G k = traded_away G k + lessened_lots E k

-- an order that rests does so with m lots after more has happened, if the lots that left it make up for the difference
pub rests_with : (E E' : List Event) (G G' : List Trade) (o : Order) (m : ℕ) → numbered E' o.number ≡ numbered E o.number → m + gone E' G' o.number ≡ lots_of o + gone E G o.number → 1 ≤ m → Rests E G o → Rests E' G' (with_lots o m)
rests_with E E' G G' o m same moved some r =
    record { came = r.came; entry = same ∙ r.entry; account = r.account; side = r.side; price = r.price; lots = let l = r.lots in omega arith; left = some }

-- two orders that rest under one number are the same order
pub rests_once : (E : List Event) (G : List Trade) (o p : Order) → Rests E G o → Rests E G p → o.number ≡ p.number → o ≡ p
rests_once E G o p r q e =
    let c : r.came ≡ q.came = let i = r.entry in let j = q.entry in let k = ap (numbered E) e in cc in
    let t = ap (gone E G) e in
    let n = ap (λ (x : Accepted). x.answer.resting) c in
    let l = r.lots in
    let m = q.lots in
    same_order o p
    (r.account ∙ ap (λ (x : Accepted). x.entry.account) c ∙ sym q.account)
    (r.side ∙ ap (λ (x : Accepted). x.entry.side) c ∙ sym q.side)
    e
    (r.price ∙ ap (λ (x : Accepted). x.entry.price) c ∙ sym q.price)
    (omega arith)

-- all orders of a list rest
abbrev pub AllRest : List Event → List Trade → List Order → Type 0
AllRest E G q = (o : Order) → In o q → Rests E G o

-- no order of a list has the number k
abbrev pub LacksNumber : ℕ → List Order → Type 0
LacksNumber k q = (p : Order) → In p q → p.number ≡ k → ⊥

-- no two orders of a list have the same number
abbrev pub Distinct : List Order → Type 0
Distinct [] = Unit {0}
Distinct (o ∷ q) = LacksNumber o.number q × Distinct q

-- what holds of all items in a list holds of each
pub pass_in : (R : Rule) (x : Order) (q : List Order) → list_all (before R x) q ≡ true → (p : Order) → In p q → before R x p ≡ true
pass_in R x [] all p i = absurd i
pass_in R x (y ∷ q) all p (inl e) = ap (before R x) e ∙ (and_parts (before R x y) _ all).0
pass_in R x (y ∷ q) all p (inr i) = pass_in R x q (and_parts (before R x y) _ all).1 p i

-- a queue in order, whose orders rest, has no number twice
pub distinct : (R : Rule) → Lawful R → (E : List Event) (G : List Trade) (q : List Order) → AllRest E G q → in_order (before R) q ≡ true → Distinct q
distinct R lawful E G [] rest o = tt
distinct R lawful E G (x ∷ q) rest o =
    let both = and_parts (list_all (before R x) q) _ o in (
      λ p i e. let same = rests_once E G p x (rest p (inr i)) (rest x (inl refl)) e in
          both_ways (before R x x) (lawful.irreflexive (quote_of x)) (ap (before R x) (sym same) ∙ pass_in R x q both.0 p i),
      distinct R lawful E G q (λ p i. rest p (inr i)) both.1,
    )
