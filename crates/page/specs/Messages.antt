-- What is said of a phrase text that sets no table. Assumes nothing.
use Rattle.std.specs.Prelude.{ℕ, List, ◌++◌, codes, unwrap_or}
use Rattle.std.specs.Fmt.{decimal}
use Rattle.dealing.specs.Replies.{owner}
use Rattle.page.specs.declared.table.text.Flaw.{Flaw}
use Rattle.page.specs.declared.table.text.Flaw.TheVariants.{Missing, NotEnded, Empty, TooLong, EdgedBySpace, ByteBelow32, Surplus}
use Rattle.page.specs.declared.table.text.TextFault.{TextFault}
use Rattle.page.specs.declared.table.text.TextFault.TheVariants.{Unsound, Shared}

abbrev pub flaw_text : Flaw → List ℕ
flaw_text Missing = codes "is missing"
flaw_text NotEnded = codes "does not end in byte 10"
flaw_text Empty = codes "is empty"
flaw_text TooLong = codes "has over 40 bytes"
flaw_text EdgedBySpace = codes "begins or ends with a space"
flaw_text ByteBelow32 = codes "has a byte below 32"
flaw_text Surplus = codes "is one too many"

-- the line and its flaw, or the numbers that own the two places
abbrev pub fault_text : TextFault → List ℕ
fault_text (Unsound line flaw) = codes "line " ++ (decimal line ++ (codes " " ++ flaw_text flaw))
fault_text (Shared one other) = codes "outcomes " ++ (decimal (unwrap_or (owner one) 0) ++ (codes " and " ++ (decimal (unwrap_or (owner other) 0) ++ codes " share one phrase")))
