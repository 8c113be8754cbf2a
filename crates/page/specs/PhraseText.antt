-- The table that a phrase text gives, or what is wrong with the text. Assumes nothing.
use Rattle.std.specs.Prelude.{ℕ, zero, suc, Bool, false, cond, ◌||◌, List, [], ◌∷◌, length, Some, None, Ok, Err, Option, Result, ◌==◌, nat_lt, slice_index}
use Rattle.std.specs.Option.{option_map}
use Rattle.std.specs.Str.{bytes_eq}
use Rattle.dealing.specs.declared.refusal.Refusal.{Refusal}
use Rattle.dealing.specs.declared.refusal.Refusal.TheVariants.{UnsoundText, SharedPhrase}
use Rattle.page.specs.declared.table.text.TextFault.{TextFault}
use Rattle.page.specs.declared.table.text.TextFault.TheVariants.{Unsound, Shared}
use Rattle.page.specs.declared.table.text.Flaw.{Flaw}
use Rattle.page.specs.declared.table.text.Flaw.TheVariants.{Missing, NotEnded, Empty, TooLong, EdgedBySpace, ByteBelow32, Surplus}
use Rattle.page.specs.Phrases.{ends_blank}

-- each fault's refusal
abbrev pub refusal_of : TextFault → Refusal
refusal_of (Unsound line flaw) = UnsoundText
refusal_of (Shared one other) = SharedPhrase

abbrev pub has_low : List ℕ → Bool
has_low [] = false
has_low (b ∷ bs) = nat_lt b 32 || has_low bs

-- what is wrong with a phrase
abbrev pub flaw_of : List ℕ → Option Flaw
flaw_of p =
    cond (length p == 0) (Some Empty)
    (cond (nat_lt 40 (length p)) (Some TooLong)
    (cond (slice_index p 0 == 32 || ends_blank p) (Some EdgedBySpace)
    (cond (has_low p) (Some ByteBelow32) None)))

-- the bytes before the first byte 10, and those after it
abbrev pub first_line : List ℕ → Option (List ℕ × List ℕ)
first_line [] = None
first_line (b ∷ bs) = cond (b == 10) (Some ([], bs)) (option_map (λ r. (b ∷ r.0, r.1)) (first_line bs))

-- what is wrong where no line ends
abbrev pub unended : List ℕ → Flaw
unended [] = Missing
unended (b ∷ bs) = NotEnded

-- what is wrong with the first line
abbrev pub line_flaw : List ℕ → Option (List ℕ × List ℕ) → Option Flaw
line_flaw bs None = Some (unended bs)
line_flaw bs (Some r) = flaw_of r.0

abbrev pub before : List ℕ → Result (List (List ℕ)) TextFault → Result (List (List ℕ)) TextFault
before p (Ok ps) = Ok (p ∷ ps)
before p (Err e) = Err e

-- a phrase at a line, and then the others, unless it has a flaw
abbrev pub judged : ℕ → List ℕ → Option Flaw → Result (List (List ℕ)) TextFault → Result (List (List ℕ)) TextFault
judged k p None more = before p more
judged k p (Some flaw) more = Err (Unsound k flaw)

abbrev pub with_line : (ℕ → List ℕ → Result (List (List ℕ)) TextFault) → ℕ → List ℕ → Option (List ℕ × List ℕ) → Result (List (List ℕ)) TextFault
with_line more k bs None = Err (Unsound k (unended bs))
with_line more k bs (Some r) = judged k r.0 (flaw_of r.0) (more (suc k) r.1)

-- n lines, counted from k, and nothing after them: their phrases, or the first flaw
abbrev pub lines : ℕ → ℕ → List ℕ → Result (List (List ℕ)) TextFault
lines zero k [] = Ok []
lines zero k (b ∷ bs) = Err (Unsound k Surplus)
lines (suc n) k bs = with_line (lines n) k bs (first_line bs)

-- the 28 lines of a text
unfoldable pub all_lines : List ℕ → Result (List (List ℕ)) TextFault
all_lines text = lines 28 1 text

-- the first place, counted from k, at which the phrase stands again
abbrev pub twin : ℕ → List ℕ → List (List ℕ) → Option ℕ
twin k p [] = None
twin k p (q ∷ qs) = cond (bytes_eq p q) (Some k) (twin (suc k) p qs)

abbrev pub or_later : ℕ → Option ℕ → Option (ℕ × ℕ) → Option (ℕ × ℕ)
or_later k None later = later
or_later k (Some j) later = Some (k, j)

-- two places, counted from k, with one phrase: the smallest first, then the smallest second
abbrev pub shared_pair : ℕ → List (List ℕ) → Option (ℕ × ℕ)
shared_pair k [] = None
shared_pair k (p ∷ ps) = or_later k (twin (suc k) p ps) (shared_pair (suc k) ps)

abbrev pub unshared : List (List ℕ) → Option (ℕ × ℕ) → Result (List (List ℕ)) TextFault
unshared ps None = Ok ps
unshared ps (Some pair) = Err (Shared pair.0 pair.1)

abbrev pub all_unshared : Result (List (List ℕ)) TextFault → Result (List (List ℕ)) TextFault
all_unshared (Ok ps) = unshared ps (shared_pair 0 ps)
all_unshared (Err e) = Err e

-- the phrases that a text sets: first its 28 lines are judged, then whether two are equal
abbrev pub text_phrases : List ℕ → Result (List (List ℕ)) TextFault
text_phrases text = all_unshared (all_lines text)
