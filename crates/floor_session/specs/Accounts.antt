-- The accounts of the house that a session runs. Assumes nothing.
use Rattle.std.specs.Prelude.{ℤ, pos, None, Option}
use Rattle.clearing.specs.Table.{with_entry}

-- x for each of the accounts 101, 102 and 103, and nothing for any other
abbrev pub for_each_account : {X : Type 0} → X → ℤ → Option X
for_each_account x = with_entry (with_entry (with_entry (λ _. None) (pos 101) x) (pos 102) x) (pos 103) x
