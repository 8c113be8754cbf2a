-- What a row holds after the part from a place on is rotated by one, and that it keeps its order. Assumes nothing.
use Rattle.std.proofs.Common.{◌≡◌, ℕ, suc, ◌-◌, ◌<◌, ◌≤◌, Bool, true, List, [], ◌++◌, length, take, drop, ap, ◌∙◌, inl, inr, add-one, arith}
use borrow.Rule.Slice.PartMut.{put_mid}
use Rattle.std.specs.List.{remove}
use Rattle.std.proofs.lemmas.List.{append-nil, append_assoc, drop_all, drop-drop, take_rest, take_at, length-drop, take_all}
use Rattle.std.proofs.lemmas.List.Edits.{length-remove}
use Rattle.std.proofs.lemmas.Bool.{cases_lt}
use Rattle.ordered.specs.Row.{in_order, to_end}
use Rattle.ordered.proofs.Orders.{in_order_removed, in_order-take}

-- the item at a place rotated to the end, by one
pub place_to_end : {X : Type 0} (xs part now : List X) (at : ℕ) → part ≡ take (length xs - at) (drop at xs) → now ≡ drop 1 part ++ take 1 part → put_mid at (length xs - at) xs now ≡ to_end xs at
place_to_end xs part now at cut turned =
    let whole : part ≡ drop at xs = cut ∙ take_rest xs at in
    let next : drop 1 (drop at xs) ≡ drop (suc at) xs = drop-drop 1 at xs ∙ ap (λ n. drop n xs) (add-one at) in
    let rest : drop (length xs - at) (drop at xs) ≡ [] = drop_all (length xs - at) (drop at xs) (omega (arith, length-drop at xs)) in
    cc (append-nil (drop (suc at) xs ++ take 1 (drop at xs)), append_assoc (take at xs) (drop (suc at) xs) (take 1 (drop at xs)))

-- past the end there is no item to move
pub to_end_past : {X : Type 0} (xs : List X) (at : ℕ) → length xs ≤ at → to_end xs at ≡ xs
to_end_past xs at h =
    let all = take_all at xs h in
    let none : drop at xs ≡ [] = drop_all at xs h in
    let rest : drop (suc at) xs ≡ [] = drop_all (suc at) xs (omega arith) in
    cc (append-nil xs)

-- the row without the item that was moved to the end
pub take_to_end : {X : Type 0} (xs : List X) (at : ℕ) → at < length xs → take (length xs - 1) (to_end xs at) ≡ remove xs at
take_to_end xs at h = take_at (remove xs at) (take 1 (drop at xs)) _ (omega (arith, length-remove xs at h))

-- the others keep their order
pub in_order_to_end : {X : Type 0} (before : X → X → Bool) (xs : List X) (at : ℕ) → in_order before xs ≡ true → in_order before (take (length xs - 1) (to_end xs at)) ≡ true
in_order_to_end before xs at o =
    elim (cases_lt at (length xs)) [ inl h ↦ ap (in_order before) (take_to_end xs at h) ∙ in_order_removed before xs at o | inr h ↦ ap (λ l. in_order before (take (length xs - 1) l)) (to_end_past xs at h) ∙ in_order-take before xs (length xs - 1) o ]
