-- A row for a new account comes to a table of at most 32. Assumes nothing.
use Rattle.std.proofs.Common.{◌≡◌, ℕ, ◌+◌, ◌<◌, Bool, List, length, ℤ, Ok, Err, Result, ap, ◌∙◌, arith}
use Rattle.std.specs.List.{insert}
use Rattle.std.proofs.lemmas.List.Edits.{length-insert}
use Rattle.ordered.specs.Kept.{AddedWithin}
use Rattle.ordered.specs.Row.{Lacks, place}
use Rattle.ordered.proofs.Orders.{place_within}
use Rattle.clearing.specs.Table.{seen, with_entry}
use Rattle.clearing.specs.Seen.{seen_inserted}

-- what holds of the rows ys, where the row x came to the rows xs
pub record Joined {X : Type 0} (before : X → X → Bool) (key : X → ℤ) (xs ys : List X) (x : X) (r : Result ℕ X) : Type 1 where
  pub ok : r ≡ Ok (place before xs x)
  pub items : ys ≡ insert xs (place before xs x) x
  pub long : length ys ≡ length xs + 1
  pub shows : {Y : Type 0} (f : X → Y) → seen key f ys ≡ with_entry (seen key f xs) (key x) (f x)

pub joins : {X : Type 0} (before : X → X → Bool) (key : X → ℤ) (xs ys : List X) (x : X) (r : Result ℕ X) → (length xs < 32) × Lacks key xs (key x) (length xs) → AddedWithin 32 before xs x ys r → Joined before key xs ys x r
joins before key xs ys x (Ok i) (few, lacks) (room, at, came) =
    let items : ys ≡ insert xs (place before xs x) x = came ∙ ap (λ n. insert xs n x) at in
    record {
      ok = ap Ok at;
      items = items;
      long = ap length items ∙ length-insert xs _ x (place_within before xs x);
      shows = λ f. ap (seen key f) items ∙ seen_inserted key f xs _ x lacks;
    }
joins before key xs ys x (Err y) (few, lacks) (full, back, same) = absurd (omega arith)
