-- What is said of a phrase text. Assumes nothing.
use Rattle.std.specs.Prelude.{ℕ, zero, suc, ◌-◌, ◌^◌, List, [], ◌++◌, codes, Some, None, Option, Ok, Err, Result, slice_index_or}
use Rattle.std.specs.Fmt.{format_spec, styled_decimal}
use Rattle.dealing.specs.Replies.{owner}
use Rattle.page.specs.English.{english_phrases}
use Rattle.page.specs.Messages.{fault_text}
use Rattle.page.specs.declared.table.text.TextFault.{TextFault}
use Rattle.page.specs.declared.table.text.TextFault.TheVariants.{Unsound, Shared}

-- a number at the right end of four columns
abbrev pub in_four : ℕ → List ℕ
in_four n = styled_decimal (format_spec 32 3 0 4 (2 ^ 64 - 1)) n

-- a number and a phrase on a line, where there is a number
abbrev pub numbered_line : Option ℕ → List ℕ → List ℕ
numbered_line None phrase = []
numbered_line (Some n) phrase = in_four n ++ codes "  " ++ phrase ++ codes "\n"

-- the line of a place: the number that owns it, and the phrase there
abbrev pub entry : List (List ℕ) → ℕ → List ℕ
entry ps place = numbered_line (owner place) (slice_index_or ps place [])

-- the first n places, a line each
unfoldable pub first_entries : List (List ℕ) → ℕ → List ℕ
first_entries ps zero = []
first_entries ps (suc n) = first_entries ps n ++ entry ps n

-- what is wrong with a text, and the English phrases of the outcomes that it is about
abbrev pub fault_report : TextFault → List ℕ
fault_report (Unsound line flaw) =
    fault_text (Unsound line flaw) ++ codes "\n" ++ entry english_phrases (line - 1)
fault_report (Shared one other) =
    codes "two outcomes share one phrase\n" ++ entry english_phrases one ++ entry english_phrases other

-- the phrases that a text sets, or what is wrong with it
abbrev pub report : Result (List (List ℕ)) TextFault → List ℕ
report (Ok ps) = first_entries ps 28
report (Err fault) = fault_report fault
