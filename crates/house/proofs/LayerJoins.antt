-- A firm cap put over others, from its parts. Assumes nothing.
use Rattle.std.proofs.Common.{◌≡◌, ◌-◌, ◌+◌, ◌<◌, true, false, List, [], ◌∷◌, ◌++◌, length, replicate, take, get_or, is_some, Some, None, Ok, Err, Option, Result, refl, sym, ap, ◌∙◌, arith}
use Rattle.std.proofs.lemmas.Bool.{false≢true}
use Rattle.std.proofs.lemmas.List.{take_more}
use Rattle.std.proofs.Math.Seq.{take-length}
use Rattle.std.proofs.lemmas.Option.{get_or_from_slice_get, slice_get_within}
use Rattle.centres.specs.Firms.{firm_of}
use Rattle.centres.specs.Layers.{IsUnset, top_of, under_top}
use Rattle.centres.specs.declared.firm_table.FirmTable.{FirmTable}
use Rattle.house.proofs.Values.{values_said}
use Rattle.house.specs.Built.{AreLayers, CapsSet, IsLayer, LayerBuilt, MembersAdded, caps_in, layer_fits, members_fit, members_in, top_caps, top_members, with_caps, with_values}
use Rattle.house.specs.House.{HouseCentre}
use Rattle.house.specs.Settings.{CapText}
use Rattle.house.specs.Stop.{IsRefusal}
use Rattle.house.specs.declared.stop.Stop.{Stop}

-- a new layer has no members, and its caps are 0
pub record Unset (o : Option FirmTable) : Type 0 where
  pub there : is_some o ≡ true
  pub members : members_in o ≡ []
  pub caps : caps_in o ≡ replicate 8 0

pub unset : (o : Option FirmTable) → IsUnset o → Unset o
unset None h = absurd h
unset (Some t) h = record { there = refl; members = h.0; caps = h.1 }

-- a member that the new layer does not take
pub no_members : (c d : HouseCentre) (l : CapText) (e : Stop) → Unset (top_of c.tables.items) → MembersAdded c l.members d (Err e) → IsRefusal e → layer_fits l ≡ false
no_members c d l e new h refusal =
    let members : members_fit l.members 0 (λ a. None) ≡ false = rw new.members at h refusal in
    rw members refl

is_layer : (o : Option FirmTable) (l : CapText) → is_some o ≡ true → firm_of (members_in o) ≡ with_values l.members (λ a. None) → caps_in o ≡ with_caps l.caps (replicate 8 0) → IsLayer l o
is_layer None l none members caps = absurd (false≢true none)
is_layer (Some t) l some members caps = (λ a. ap (λ f. f a) members ∙ values_said l.members a, caps)

-- with its members placed, the caps of the new layer make it the one that is written, or there is one that it does not take
pub with_all : (b c d e : HouseCentre) (l : CapText) (r : Result (Unit {0}) Stop) → Unset (top_of c.tables.items) → under_top c.tables.items ≡ b.tables.items → c.below ≡ b.below → MembersAdded c l.members d (Ok tt) → CapsSet d l.caps e r → LayerBuilt b l e r
with_all b c d e l (Ok x) new under below (fit, firms, caps, (there, under', below')) (fit', caps', members, (there', under'', below'')) =
    let fits : members_fit l.members 0 (λ a. None) ≡ true = rw new.members at fit in
    let placed : firm_of (top_members d) ≡ with_values l.members (λ a. None) = rw new.members at firms in
    let set : top_caps e ≡ with_caps l.caps (replicate 8 0) = rw (caps, new.caps) at caps' in (
      rw (fits, fit') refl,
      is_layer (top_of e.tables.items) l there' (ap firm_of members ∙ placed) set,
      under'' ∙ under' ∙ under,
      below'' ∙ below' ∙ below,
    )
with_all b c d e l (Err s) new under below (fit, firms, caps, same) h = λ refusal.
    let fits : members_fit l.members 0 (λ a. None) ≡ true = rw new.members at fit in
    rw (fits, h refusal) refl

-- the highest table is behind the others
top_last : (ts : List FirmTable) (t : FirmTable) → top_of ts ≡ Some t → ts ≡ under_top ts ++ t ∷ []
top_last ts t top =
    let n = length ts in
    let within : n - 1 < n = slice_get_within ts (n - 1) t top in
    let read : get_or ts (n - 1) t ≡ t = get_or_from_slice_get ts (n - 1) t t top in
    let all : n - 1 + 1 ≡ n = omega arith in
    let more : take (n - 1 + 1) ts ≡ take (n - 1) ts ++ get_or ts (n - 1) t ∷ [] = take_more ts (n - 1) t within in
    sym (take-length ts) ∙ ap (λ k. take k ts) (sym all) ∙ more ∙ ap (λ x. take (n - 1) ts ++ x ∷ []) read

are_layers-last : (ls : List CapText) (l : CapText) (ts : List FirmTable) (t : FirmTable) → AreLayers ls ts → IsLayer l (Some t) → AreLayers (ls ++ l ∷ []) (ts ++ t ∷ [])
are_layers-last [] l [] t h is = (is, tt)
are_layers-last [] l (u ∷ ts) t h is = absurd h
are_layers-last (k ∷ ls) l [] t h is = absurd h
are_layers-last (k ∷ ls) l (u ∷ ts) t h is = (h.0, are_layers-last ls l ts t h.1 is)

on_top : (ls : List CapText) (l : CapText) (ts us : List FirmTable) (o : Option FirmTable) → o ≡ top_of us → IsLayer l o → under_top us ≡ ts → AreLayers ls ts → AreLayers (ls ++ l ∷ []) us
on_top ls l ts us None top is under h = absurd is
on_top ls l ts us (Some t) top is under h =
    rw (top_last us t (sym top), under) (are_layers-last ls l ts t h is)

-- one firm cap more
pub one_more : (ls : List CapText) (l : CapText) (c d : HouseCentre) → LayerBuilt c l d (Ok tt) → AreLayers ls c.tables.items → AreLayers (ls ++ l ∷ []) d.tables.items
one_more ls l c d h are = on_top ls l c.tables.items d.tables.items (top_of d.tables.items) refl h.1 h.2 are
