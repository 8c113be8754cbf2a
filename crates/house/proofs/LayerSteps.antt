-- One member or one cap of the entries, taken by the highest layer or not. Assumes nothing.
use Rattle.std.proofs.Common.{◌≡◌, ◌+◌, ◌-◌, true, false, ◌&&◌, List, [], ◌∷◌, ◌++◌, length, is_some, Some, None, Ok, Err, Option, Result, slice_set, refl, sym, ap, ◌∙◌}
use Rattle.std.proofs.lemmas.Bool.{false≢true}
use Rattle.std.proofs.lemmas.List.Edits.{length-insert}
use Rattle.std.specs.Result.{is_err}
use Rattle.centres.specs.Firms.{Placed, firm_of, member_before, member_of}
use Rattle.centres.specs.Layers.{Becomes, passes, under_top}
use Rattle.centres.specs.declared.firm_table.FirmTable.{FirmTable}
use Rattle.clearing.specs.declared.cause.Denial.{Denial}
use Rattle.house.specs.Built.{caps_in, has_layer, has_number, caps_fit, members_fit, members_in, top_caps, top_members, with_caps, with_values}
use Rattle.house.specs.House.{CapSetTo, HouseCentre, PlacedTo, amount, can_place_in, cap_in_range, firm_in_range}
use Rattle.house.specs.declared.settings.Entry.{Entry}
use Rattle.ordered.proofs.Orders.{place_within}
use Rattle.ordered.specs.Row.{place}

-- the member of an entry is placed in one table, which another becomes
abbrev ToPlaced : Entry → FirmTable → FirmTable → Type 0
ToPlaced e t u = (can_place_in t.members e.number e.value ≡ true) × Placed t.members e.number (amount e.value) u.members × (u.caps ≡ t.caps)

abbrev ToCapped : Entry → FirmTable → FirmTable → Type 0
ToCapped e t u = ((firm_in_range e.number && cap_in_range e.value) ≡ true) × (u.caps ≡ slice_set t.caps (amount e.number - 1) (amount e.value)) × (u.members ≡ t.members)

-- what is left after a member was placed makes what all with it made
record Took (o o' : Option FirmTable) (e : Entry) (es : List Entry) : Type 0 where
  there : is_some o' ≡ true
  fit : members_fit es (length (members_in o')) (firm_of (members_in o')) ≡ members_fit (e ∷ es) (length (members_in o)) (firm_of (members_in o))
  firms : with_values es (firm_of (members_in o')) ≡ with_values (e ∷ es) (firm_of (members_in o))
  caps : caps_in o' ≡ caps_in o

took : (o o' : Option FirmTable) (e : Entry) (es : List Entry) → Becomes (ToPlaced e) o o' → Took o o' e es
took None o' e es h = absurd h
took (Some t) None e es h = absurd h
took (Some t) (Some u) e es (can, (items, shows), caps) =
    let m = member_of e.number (amount e.value) in
    let more : length u.members ≡ length t.members + 1 = ap length items ∙ length-insert t.members (place member_before t.members m) m (place_within member_before t.members m) in
    record {
      there = refl;
      fit = rw (shows, more, can) refl;
      firms = rw shows refl;
      caps = caps;
    }

refuses : (o : Option FirmTable) (e : Entry) (es : List Entry) → is_some o ≡ true → passes (λ t. can_place_in t.members e.number e.value) o ≡ false → members_fit (e ∷ es) (length (members_in o)) (firm_of (members_in o)) ≡ false
refuses None e es none h = absurd (false≢true none)
refuses (Some t) e es some h = rw h refl

pub record PlacedOne (c : HouseCentre) (e : Entry) (es : List Entry) (c' : HouseCentre) : Type 0 where
  pub there : has_layer c' ≡ true
  pub fit : members_fit es (length (top_members c')) (firm_of (top_members c')) ≡ members_fit (e ∷ es) (length (top_members c)) (firm_of (top_members c))
  pub firms : with_values es (firm_of (top_members c')) ≡ with_values (e ∷ es) (firm_of (top_members c))
  pub caps : top_caps c' ≡ top_caps c
  pub under : under_top c'.tables.items ≡ under_top c.tables.items
  pub below : c'.below ≡ c.below

pub placed_one : (c : HouseCentre) (e : Entry) (es : List Entry) (c' : HouseCentre) (r : Result (Unit {0}) Denial) → PlacedTo c e.number e.value c' r → is_err r ≡ false → PlacedOne c e es c'
placed_one c e es c' (Ok x) (to, under, below) fine =
    let t = took _ _ e es to in
    record { there = t.there; fit = t.fit; firms = t.firms; caps = t.caps; under = under; below = below }
placed_one c e es c' (Err d) h fine = absurd (false≢true (sym fine))

pub not_placed : (c : HouseCentre) (e : Entry) (es : List Entry) (c' : HouseCentre) (r : Result (Unit {0}) Denial) → has_layer c ≡ true → PlacedTo c e.number e.value c' r → is_err r ≡ true → members_fit (e ∷ es) (length (top_members c)) (firm_of (top_members c)) ≡ false
not_placed c e es c' (Ok x) some h wrong = absurd (false≢true wrong)
not_placed c e es c' (Err d) some h wrong = refuses _ e es some h.0

-- what is left after a cap was set makes what all with it made
record Set' (o o' : Option FirmTable) (e : Entry) (es done : List Entry) : Type 0 where
  there : is_some o' ≡ true
  fit : caps_fit es (done ++ e ∷ []) ≡ caps_fit (e ∷ es) done
  caps : with_caps es (caps_in o') ≡ with_caps (e ∷ es) (caps_in o)
  members : members_in o' ≡ members_in o

set_to : (o o' : Option FirmTable) (e : Entry) (es done : List Entry) → has_number e.number done ≡ false → Becomes (ToCapped e) o o' → Set' o o' e es done
set_to None o' e es done once h = absurd h
set_to (Some t) None e es done once h = absurd h
set_to (Some t) (Some u) e es done once (can, caps, members) = record {
  there = refl;
  fit = rw (once, can) refl;
  caps = rw caps refl;
  members = members;
}

stops : (o : Option FirmTable) (e : Entry) (es done : List Entry) → is_some o ≡ true → has_number e.number done ≡ false → passes (λ t. firm_in_range e.number && cap_in_range e.value) o ≡ false → caps_fit (e ∷ es) done ≡ false
stops None e es done none once h = absurd (false≢true none)
stops (Some t) e es done some once h = rw (once, h) refl

pub record SetOne (c : HouseCentre) (e : Entry) (es done : List Entry) (c' : HouseCentre) : Type 0 where
  pub there : has_layer c' ≡ true
  pub fit : caps_fit es (done ++ e ∷ []) ≡ caps_fit (e ∷ es) done
  pub caps : with_caps es (top_caps c') ≡ with_caps (e ∷ es) (top_caps c)
  pub members : top_members c' ≡ top_members c
  pub under : under_top c'.tables.items ≡ under_top c.tables.items
  pub below : c'.below ≡ c.below

pub set_one : (c : HouseCentre) (e : Entry) (es done : List Entry) (c' : HouseCentre) (r : Result (Unit {0}) Denial) → has_number e.number done ≡ false → CapSetTo c e.number e.value c' r → is_err r ≡ false → SetOne c e es done c'
set_one c e es done c' (Ok x) once (to, under, below) fine =
    let t = set_to _ _ e es done once to in
    record { there = t.there; fit = t.fit; caps = t.caps; members = t.members; under = under; below = below }
set_one c e es done c' (Err d) once h fine = absurd (false≢true (sym fine))

pub not_set : (c : HouseCentre) (e : Entry) (es done : List Entry) (c' : HouseCentre) (r : Result (Unit {0}) Denial) → has_layer c ≡ true → has_number e.number done ≡ false → CapSetTo c e.number e.value c' r → is_err r ≡ true → caps_fit (e ∷ es) done ≡ false
not_set c e es done c' (Ok x) some once h wrong = absurd (false≢true wrong)
not_set c e es done c' (Err d) some once h wrong = stops _ e es done some once h.0

-- a cap of a firm that has one already
pub set_twice : (e : Entry) (es done : List Entry) → has_number e.number done ≡ true → caps_fit (e ∷ es) done ≡ false
set_twice e es done twice = rw twice refl
