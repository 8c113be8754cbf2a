-- Accounts come to a centre one after another. Assumes nothing.
use Rattle.std.proofs.Common.{◌≡◌, ℕ, ◌+◌, [], None, true, not, ◌&&◌, length, ℤ, is_some, Ok, Err, Option, Result, refl, sym, ap, ap₂, ◌∙◌}
use Rattle.std.specs.Prelude.{IsOk, nat_le, nat_lt}
use Rattle.std.proofs.lemmas.Bool.{true≢false}
use Rattle.clearing.specs.Account.{account_fits}
use Rattle.clearing.specs.AccountCentre.{AddedTo}
use Rattle.clearing.specs.Centre.{Lines}
use Rattle.clearing.specs.Ledger.{Added, allowances_of, can_add, lines_of}
use Rattle.clearing.specs.Line.{empty}
use Rattle.clearing.specs.Table.{with_entry}
use Rattle.clearing.specs.declared.account_centre.AccountCentre.{AccountCentre}
use Rattle.clearing.specs.declared.cause.Denial.{Denial}

-- so many accounts are there, with these lines and these allowances
pub record Has {R : Type 0} (c : AccountCentre R) (L : Lines) (K : ℤ → Option ℕ) (k : ℕ) : Type 0 where
  pub lines : lines_of c.ledger.rows ≡ L
  pub allowances : allowances_of c.ledger.rows ≡ K
  pub count : length c.ledger.rows ≡ k

-- none is there yet
pub none_yet : {R : Type 0} (c : AccountCentre R) → c.ledger.rows ≡ [] → Has c (λ _. None) (λ _. None) 0
none_yet c rows = record { lines = ap lines_of rows; allowances = ap allowances_of rows; count = ap length rows }

-- one more came
pub record Came {R : Type 0} (c : AccountCentre R) (L : Lines) (K : ℤ → Option ℕ) (k : ℕ) (r : Result (Unit {0}) Denial) : Type 0 where
  pub ok : IsOk r
  pub has : Has c L K k

module _ {R : Type 0} (top : ℕ) (c c' : AccountCentre R) (a : ℤ) (n : ℕ) where
  added : (r : Result (Unit {0}) Denial) → (nat_le n top && can_add c.ledger.rows a) ≡ true → AddedTo top c a n c' r → IsOk r × Added c.ledger.rows a n c'.ledger.rows
  added (Ok x) can came = (refl, came.1)
  added (Err d) can came = absurd (true≢false (sym can ∙ came.0))

  -- an account comes that has a place
  pub comes : (L : Lines) (K : ℤ → Option ℕ) (k : ℕ) (r : Result (Unit {0}) Denial) → Has c L K k → (nat_le n top && (account_fits a && (nat_lt k 32 && not (is_some (L a))))) ≡ true → AddedTo top c a n c' r → Came c' (with_entry L a empty) (with_entry K a n) (k + 1) r
  comes L K k r has can came =
      let free = ap₂ (λ (M : Lines) j. nat_le n top && (account_fits a && (nat_lt j 32 && not (is_some (M a))))) has.lines has.count ∙ can in
      let did = added r free came in
      record {
        ok = did.0;
        has = record {
          lines = did.1.0 ∙ ap (λ (M : Lines). with_entry M a empty) has.lines;
          allowances = did.1.1 ∙ ap (λ (J : ℤ → Option ℕ). with_entry J a n) has.allowances;
          count = did.1.2 ∙ ap (λ j. j + 1) has.count;
        };
      }
