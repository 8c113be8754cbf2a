-- Markets that keep the law over one history, and give each entry as many lots, have the same register. Assumes nothing.
use Rattle.std.proofs.Common.{◌≡◌, ℕ, suc, ◌<◌, ◌≤◌, not, cond, eqb, List, [], ◌∷◌, ◌++◌, sym, refl, ap, ◌∙◌, subst, ap₂, inl, inr, append_assoc, append-nil, arith}
use Rattle.std.proofs.lemmas.Bool.{both_ways, cases_Bool, cases_lt, cond-false, cond-true, eq-eqb, eqb-true, eqb-false, ne_eqb}
use Rattle.clearing.specs.Side.{other}
use Rattle.dealing.specs.declared.call.Entry.{Entry}
use Rattle.dealing.specs.declared.outcome.Figures.{Figures}
use Rattle.market.proofs.Resting.{rests_once}
use Rattle.market.proofs.Walks.{trade_entry}
use Rattle.market.specs.Law.{Event, First, InSequence, Joined, LawPinsTheRegister, Matched, Numbered, entered, entry_number, lessened, nothing, opened, traded_by}
use Rattle.market.specs.Order.{before, lots_of, party, quote_of, side_of, trade_of}
use Rattle.market.specs.Rule.{Lawful, Rule}
use Rattle.market.specs.declared.order.Order.{Order}
use Rattle.market.specs.declared.trade.Trade.{Trade}

-- one place in a history: what came before, the entry and its answer
pub record Place : Type 0 where
  pub earlier : List Event
  pub entry : Entry
  pub answer : Figures

abbrev place_of : List Event → Entry → Figures → Place
place_of E e f = record { earlier = E; entry = e; answer = f }

-- an entry further on has a larger number
later_number : (n : ℕ) (E earlier : List Event) (e : Entry) (f : Figures) (later : List Event) → Numbered n E → E ≡ earlier ++ entered e f ∷ later → n < f.number
later_number n E [] e f later num came = let h = subst (Numbered n) came num in let i = h.0 in omega arith
later_number n E (opened d ∷ p) e f later num came = let h = subst (Numbered n) came num in later_number n _ p e f later h refl
later_number n E (entered y g ∷ p) e f later num came = let h = subst (Numbered n) came num in let i = later_number (suc n) _ p e f later h.1 refl in omega arith
later_number n E (lessened g ∷ p) e f later num came = let h = subst (Numbered n) came num in later_number n _ p e f later h refl
later_number n E (nothing ∷ p) e f later num came = let h = subst (Numbered n) came num in later_number n _ p e f later h refl

-- entries with the same number are the same entry of the history
one_place : (n : ℕ) (p q : List Event) (e d : Entry) (f g : Figures) (r s : List Event) → Numbered n (p ++ entered e f ∷ r) → p ++ entered e f ∷ r ≡ q ++ entered d g ∷ s → f.number ≡ g.number → place_of p e f ≡ place_of q d g
one_place n [] [] e d f g r s num same k = let h : e ≡ d = cc in let i : f ≡ g = cc in ap₂ (place_of []) h i
one_place n [] (y ∷ q) e d f g r s num same k =
    let tail : r ≡ q ++ entered d g ∷ s = cc in
    let i = later_number (suc n) r q d g s num.1 tail in
    let j = num.0 in
    absurd (omega arith)
one_place n (x ∷ p) [] e d f g r s num same k =
    let head : x ≡ entered d g = cc in
    let tail : p ++ entered e f ∷ r ≡ s = cc in
    let h : Numbered n (entered d g ∷ (p ++ entered e f ∷ r)) = subst (λ y. Numbered n (y ∷ (p ++ entered e f ∷ r))) head num in
    let i = later_number (suc n) (p ++ entered e f ∷ r) p e f r h.1 refl in
    let j = h.0 in
    absurd (omega arith)
one_place n (x ∷ p) (y ∷ q) e d f g r s num same k =
    let head : x ≡ y = cc in
    let tail : p ++ entered e f ∷ r ≡ q ++ entered d g ∷ s = cc in
    let m = rest_numbered n x (p ++ entered e f ∷ r) num in
    let i = one_place m.0 p q e d f g r s m.1 tail k in
    ap₂ (λ z (w : Place). place_of (z ∷ w.earlier) w.entry w.answer) head i
  where
    rest_numbered : (n : ℕ) (x : Event) (E : List Event) → Numbered n (x ∷ E) → (m : ℕ) × Numbered m E
    rest_numbered n (opened d) E h = (n, h)
    rest_numbered n (entered e f) E h = (suc n, h.1)
    rest_numbered n (lessened f) E h = (n, h)
    rest_numbered n nothing E h = (n, h)

-- one order at most stands first on a side
one_first : (R : Rule) → Lawful R → (E : List Event) (G : List Trade) (o p : Order) → First R E G o → First R E G p → side_of o ≡ side_of p → o ≡ p
one_first R lawful E G o p first other s =
    elim (cases_Bool (eqb o.number p.number)) [
      | inl t ↦ rests_once E G o p first.rests other.rests (eqb-true o.number p.number t)
      | inr f ↦ (let d = lawful.decided (quote_of o) (quote_of p) s (eqb-false o.number p.number f) in let x = other.first o first.rests s in let y = first.first p other.rests (sym s) in absurd (both_ways (before R o p) x (d ∙ ap not y)))
    ]

-- the number of the entry that a trade joined
joined_number : (R : Rule) (E : List Event) (G : List Trade) (t : Trade) (j : Joined R E G t) → entry_number t ≡ j.answer.number
joined_number R E G t j =
    let m = j.matched in
    ap entry_number m.recorded ∙ trade_entry j.entry.side (party j.answer.number j.entry.account) m.order t.lots m.earlier

-- two trades that one entry makes after the same trades are the same
one_matched : (R : Rule) → Lawful R → (E : List Event) (G : List Trade) (e : Entry) (k : ℕ) (t u : Trade) → Matched R E G e k t → Matched R E G e k u → t ≡ u
one_matched R lawful E G e k t u m w =
    let o = one_first R lawful E G m.order w.order m.first w.first (m.across ∙ sym w.across) in
    let l = ap lots_of o in
    let i = m.lots in
    let j = w.lots in
    let n : t.lots ≡ u.lots = omega arith in
    m.recorded ∙ ap₂ (λ p q. trade_of e.side (party k e.account) p q) o n ∙ sym w.recorded

one_joined : (R : Rule) → Lawful R → (E : List Event) → Numbered 0 E → (G : List Trade) (t u : Trade) → Joined R E G t → Joined R E G u → entry_number t ≡ entry_number u → t ≡ u
one_joined R lawful E num G t u j i same =
    let k : j.answer.number ≡ i.answer.number = sym (joined_number R E G t j) ∙ same ∙ joined_number R E G u i in
    let p = one_place 0 j.earlier i.earlier j.entry i.entry j.answer i.answer j.later i.later (subst (Numbered 0) j.came num) (sym j.came ∙ i.came) k in
    one_matched R lawful j.earlier G j.entry j.answer.number t u j.matched (subst (λ (x : Place). Matched R x.earlier G x.entry x.answer.number u) (sym p) i.matched)

-- no trade of an entry before n
none_below : (n k : ℕ) (G : List Trade) → InSequence n G → k < n → traded_by G k ≡ 0
none_below n k [] s h = refl
none_below n k (t ∷ G) s h =
    let i = s.0 in
    let x = none_below (entry_number t) k G s.1 (omega arith) in
    let y = cond-false (eqb (entry_number t) k) t.lots 0 (ne_eqb _ _ (λ e. omega arith)) in
    omega arith

-- the first trade's entry has made at least its lots
some_first : (t : Trade) (G : List Trade) → t.lots ≤ traded_by (t ∷ G) (entry_number t)
some_first t G = let x = cond-true (eqb (entry_number t) (entry_number t)) t.lots 0 (eq-eqb _ _ refl) in omega arith

-- each trade of G joined an entry, after the trades P and those of G before it
abbrev AllJoined : Rule → List Event → List Trade → List Trade → Type 0
AllJoined R E P G = (before : List Trade) (t : Trade) (later : List Trade) → G ≡ before ++ t ∷ later → Joined R E (P ++ before) t

module _ (R : Rule) (lawful : Lawful R) (E : List Event) (num : Numbered 0 E) where
  head_joined : (P : List Trade) (t : Trade) (G : List Trade) → AllJoined R E P (t ∷ G) → Joined R E P t
  head_joined P t G all = subst (λ Q. Joined R E Q t) (append-nil P) (all [] t G refl)

  tail_joined : (P : List Trade) (t : Trade) (G : List Trade) → AllJoined R E P (t ∷ G) → AllJoined R E (P ++ t ∷ []) G
  tail_joined P t G all before u later e = subst (λ Q. Joined R E Q u) (sym (append_assoc P (t ∷ []) before)) (all (t ∷ before) u later (ap (λ l. t ∷ l) e))

  same_rest : (n m : ℕ) (P G H : List Trade) → InSequence n G → InSequence m H → AllJoined R E P G → AllJoined R E P H → ((k : ℕ) → traded_by G k ≡ traded_by H k) → G ≡ H
  same_rest n m P [] [] s r a b lots = refl
  same_rest n m P [] (u ∷ H) s r a b lots =
      let x = (head_joined P u H b).matched.some in let y = some_first u H in let z = lots (entry_number u) in absurd (omega arith)
  same_rest n m P (t ∷ G) [] s r a b lots =
      let x = (head_joined P t G a).matched.some in let y = some_first t G in let z = lots (entry_number t) in absurd (omega arith)
  same_rest n m P (t ∷ G) (u ∷ H) s r a b lots =
      let j = head_joined P t G a in
      let i = head_joined P u H b in
      let some_t = j.matched.some in
      let some_u = i.matched.some in
      let not_more : entry_number u ≤ entry_number t = not_below u H t G some_t r.1 (λ k. sym (lots k)) in
      let not_less : entry_number t ≤ entry_number u = not_below t G u H some_u s.1 lots in
      let same : t ≡ u = one_joined R lawful E num P t u j i (omega arith) in
      let on : AllJoined R E (P ++ t ∷ []) H = subst (λ v. AllJoined R E (P ++ v ∷ []) H) (sym same) (tail_joined P u H b) in
      let less : (k : ℕ) → traded_by G k ≡ traded_by H k = λ k. let l = lots k in let c = ap (λ (v : Trade). cond (eqb (entry_number v) k) v.lots 0) same in omega arith in
      ap₂ (λ v l. v ∷ l) same (same_rest (entry_number t) (entry_number u) (P ++ t ∷ []) G H s.1 r.1 (tail_joined P t G a) on less)
    where
      not_below : (u : Trade) (H : List Trade) (t : Trade) (G : List Trade) → 1 ≤ t.lots → InSequence (entry_number u) H → ((k : ℕ) → traded_by (u ∷ H) k ≡ traded_by (t ∷ G) k) → entry_number u ≤ entry_number t
      not_below u H t G some r lots =
          elim (cases_lt (entry_number t) (entry_number u)) [
            | inl h ↦ (let x = none_below (entry_number u) (entry_number t) (u ∷ H) (omega arith, r) h in let y = some_first t G in let z = lots (entry_number t) in absurd (omega arith))
            | inr h ↦ h
          ]

pub law_pins_the_register : LawPinsTheRegister
law_pins_the_register R lawful E S T L M law its lots =
    same_rest R lawful E law.numbers 0 0 [] S.register T.register law.sequence its.sequence law.priority its.priority lots
