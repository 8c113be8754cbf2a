-- One account of the entries, added or not. Assumes nothing.
use Rattle.std.proofs.Common.{◌≡◌, true, false, List, ◌∷◌, length, pos, Ok, Err, Result, refl, sym}
use Rattle.std.proofs.lemmas.Bool.{false≢true}
use Rattle.std.specs.Result.{is_err}
use Rattle.clearing.specs.Ledger.{allowances_of, lines_of}
use Rattle.clearing.specs.declared.cause.Denial.{Denial}
use Rattle.house.specs.Built.{accounts_fit, with_lines, with_values}
use Rattle.house.specs.House.{AddedToBase, Base, margin_of, rows_of}
use Rattle.house.specs.declared.settings.Entry.{Entry}

-- any entry
abbrev pub no_entry : Entry
no_entry = record { number = pos 0; value = pos 0 }

-- what is left after an account was added makes what all with it made
pub record AddedOne (b : Base) (e : Entry) (es : List Entry) (b' : Base) : Type 0 where
  pub fit : accounts_fit es (margin_of b) (length (rows_of b')) (lines_of (rows_of b')) ≡ accounts_fit (e ∷ es) (margin_of b) (length (rows_of b)) (lines_of (rows_of b))
  pub lines : with_lines es (lines_of (rows_of b')) ≡ with_lines (e ∷ es) (lines_of (rows_of b))
  pub values : with_values es (allowances_of (rows_of b')) ≡ with_values (e ∷ es) (allowances_of (rows_of b))
  pub margin : margin_of b' ≡ margin_of b

pub added_one : (b : Base) (e : Entry) (es : List Entry) (b' : Base) (r : Result (Unit {0}) Denial) → AddedToBase b e.number e.value b' r → is_err r ≡ false → AddedOne b e es b'
added_one b e es b' (Ok x) (can, added, same) fine = record {
  fit = rw (added.0, added.2, can) refl;
  lines = rw added.0 refl;
  values = rw added.1 refl;
  margin = same;
}
added_one b e es b' (Err d) h fine = absurd (false≢true (sym fine))

-- with an account that can't be added, not all can
pub not_added : (b : Base) (e : Entry) (es : List Entry) (b' : Base) (r : Result (Unit {0}) Denial) → AddedToBase b e.number e.value b' r → is_err r ≡ true → accounts_fit (e ∷ es) (margin_of b) (length (rows_of b)) (lines_of (rows_of b)) ≡ false
not_added b e es b' (Ok x) h wrong = absurd (false≢true wrong)
not_added b e es b' (Err d) (cannot, is, same) wrong = rw cannot refl
