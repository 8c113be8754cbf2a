-- What is printed of a place and of what was expected there. Assumes nothing.
use Rattle.std.specs.Prelude.{ℕ, cond, List, [], ◌++◌, codes, string_bytes, string_len, ◌==◌}
use Rattle.std.specs.Fmt.{decimal}
use Rattle.house.specs.declared.error.Expected.{Expected}
use Rattle.house.specs.declared.error.Expected.TheVariants as want
use Rattle.house.specs.declared.error.Refusal.{Refusal}
use Rattle.house.specs.declared.place.Place.{Place}
use Rattle.house.specs.declared.place.Section.{Section}
use Rattle.house.specs.declared.place.Section.TheVariants as section
use Rattle.house.specs.declared.rule.HouseRule.{HouseRule}
use Rattle.house.specs.declared.rule.HouseRule.TheVariants as chosen

abbrev pub section_text : Section → List ℕ
section_text section.Document = codes "the settings"
section_text section.Instruments = codes "instrument"
section_text section.Instrument = codes "instrument.1"
section_text section.Centre = codes "centre"
section_text section.Accounts = codes "centre.accounts"
section_text (section.Layer n) = codes "cap." ++ decimal n
section_text (section.Members n) = codes "cap." ++ decimal n ++ codes ".members"
section_text (section.Caps n) = codes "cap." ++ decimal n ++ codes ".caps"

-- the path of a table, before a key in it
abbrev pub path_to : Section → List ℕ
path_to section.Document = []
path_to section.Instruments = codes "instrument."
path_to section.Instrument = codes "instrument.1."
path_to section.Centre = codes "centre."
path_to section.Accounts = codes "centre.accounts."
path_to (section.Layer n) = codes "cap." ++ decimal n ++ codes "."
path_to (section.Members n) = codes "cap." ++ decimal n ++ codes ".members."
path_to (section.Caps n) = codes "cap." ++ decimal n ++ codes ".caps."

-- a table by its path, or a key behind that of its table
abbrev pub place_text : Place → List ℕ
place_text p = cond (string_len p.key == 0) (section_text p.section) (path_to p.section ++ string_bytes p.key)

abbrev pub expected_text : Expected → List ℕ
expected_text want.Rule = codes "\"rate\" or \"yield\""
expected_text want.Kind = codes "\"position\" or \"prepaid\""
expected_text want.Margin = codes "a margin from 1 to 1000000"
expected_text want.Limit = codes "a limit from 0 to 999999999"
expected_text want.Deposit = codes "a deposit from 0 to 1000000000000000"
expected_text want.Account = codes "an account number from 1 to 999999"
expected_text want.Firm = codes "a firm from 1 to 8"
expected_text want.Cap = codes "a cap from 0 to 999999999"
expected_text want.FewAccounts = codes "at most 32 accounts"
expected_text want.AccountOnce = codes "each account once"
expected_text want.FirmOnce = codes "each firm once"
expected_text want.Table = codes "a table"
expected_text want.Tables = codes "a list of tables"
expected_text (want.Key k) = codes "the key " ++ k.now
expected_text (want.NoOtherKey ks) = codes "no other key than " ++ ks.now

abbrev pub refusal_text : Refusal → List ℕ
refusal_text r = codes "line " ++ decimal r.line ++ codes ": " ++ place_text r.place ++ codes ": expected " ++ expected_text r.expected

abbrev pub rule_text : HouseRule → List ℕ
rule_text chosen.Rate = codes "by rate"
rule_text chosen.Yield = codes "by yield"
