-- What the rows of a ledger say, after one line moved. Assumes nothing.
use Rattle.std.proofs.Common.{◌≡◌, ℕ, ◌<◌, true, leb, List, length, get_or, set, ℤ, Some, sym, ap, ◌∙◌, subst, inl, inr, length-set}
use mathlib.Core.Path.{fun_ext}
use Rattle.std.specs.Option.{option_map}
use Rattle.std.proofs.lemmas.List.{get_or_read}
use Rattle.std.proofs.lemmas.Bool.{and_parts, cases_Bool, cond-true, cond-false}
use Rattle.ordered.specs.Key.{eq_z}
use Rattle.ordered.specs.Row.{Found, Lacks, in_order}
use Rattle.ordered.proofs.Keys.{eq_z_true}
use Rattle.ordered.proofs.Orders.{in_order-set}
use Rattle.clearing.specs.Account.{account_fits}
use Rattle.clearing.specs.Centre.{adjusted, holds}
use Rattle.clearing.specs.Ledger.{Adjusted, Relined, account_before, account_of, can_add, lines_of}
use Rattle.clearing.specs.Line.{on}
use Rattle.clearing.specs.declared.account_line.AccountLine.{AccountLine}
use Rattle.clearing.specs.declared.line.Line.{Line}
use Rattle.clearing.specs.declared.side.Side.{Side}
use Rattle.clearing.specs.Seen.{has_place_parts, seen_found, seen-set, seen_same}

module _ (xs : List AccountLine) (i : ℕ) (x : AccountLine) (f : Line → Line) (read : x ≡ get_or xs i x) where
  -- the lines, where f is done to the line of the row at a place
  lines_put : (y : AccountLine) → y.account ≡ x.account → y.line ≡ f x.line → Found account_of xs y.account (Some i) → lines_of (set xs i y) ≡ adjusted (lines_of xs) y.account f
  lines_put y own line found =
      fun_ext (λ k. elim (cases_Bool (eq_z y.account k)) [
        | inl e ↦
            let there : lines_of xs k ≡ Some x.line =
            subst (λ b. lines_of xs b ≡ Some x.line) (eq_z_true y.account k e) (seen_found account_of (λ r. r.line) xs y.account i found x ∙ ap (λ r. Some r.line) (sym read)) in
            seen-set account_of (λ r. r.line) xs i y found k ∙ cond-true (eq_z y.account k) _ _ e ∙ ap Some line
            ∙ sym (cond-true (eq_z y.account k) _ _ e ∙ ap (option_map f) there)
        | inr e ↦
            seen-set account_of (λ r. r.line) xs i y found k ∙ cond-false (eq_z y.account k) _ _ e
            ∙ sym (cond-false (eq_z y.account k) _ _ e)
      ])

  -- the rows, where f is done to the line of the row at a place
  pub adjusted_row : (y : AccountLine) → Relined x f y → (a : ℤ) → Found account_of xs a (Some i) → Adjusted xs a f (set xs i y)
  adjusted_row y (sound, is) a found =
      let own : y.account ≡ a = ap account_of is ∙ ap account_of read ∙ found.1 x in
      let here : Found account_of xs y.account (Some i) = subst (λ b. Found account_of xs b (Some i)) (sym own) found in
      let allowance : y.allowance ≡ (get_or xs i y).allowance = ap (λ r. r.allowance) is ∙ ap (λ r. r.allowance) (get_or_read xs i x found.0 read y) in
      subst (λ b. Adjusted xs b f (set xs i y)) own
      (lines_put y (ap account_of is) (ap (λ r. r.line) is) here, seen_same account_of (λ r. r.allowance) xs i y here allowance, length-set xs i y)

  -- a row keeps its account, so the rows keep their order
  pub still_in_order : (y : AccountLine) → Relined x f y → i < length xs → in_order account_before xs ≡ true → in_order account_before (set xs i y) ≡ true
  still_in_order y (sound, is) within ordered =
      in_order-set account_before xs i x y within read (λ z. ap (λ r. account_before r z) is) (λ z. ap (λ r. account_before z r) is) ordered

-- what the row of an account tells of the lots that it holds
pub holds_row : (xs : List AccountLine) (i : ℕ) (a : ℤ) (s : Side) (n : ℕ) (x : AccountLine) → Found account_of xs a (Some i) → x ≡ get_or xs i x → holds (lines_of xs a) s n ≡ leb n (on s x.line).held
holds_row xs i a s n x found read =
    ap (λ o. holds o s n) (seen_found account_of (λ r. r.line) xs a i found x ∙ ap (λ r. Some r.line) (sym read))

-- an account that can be added finds a place free, and has no row yet
pub can_add_parts : (xs : List AccountLine) (a : ℤ) → can_add xs a ≡ true → (length xs < 32) × Lacks account_of xs a (length xs)
can_add_parts xs a can = has_place_parts account_of (λ x. x.line) xs a (and_parts (account_fits a) _ can).1
