-- What the arguments of the program ask for. Assumes nothing.
use Rattle.std.specs.Prelude.{◌≡◌, ℕ, List, [], ◌∷◌, map, codes, Ok, Err, Result, IfOk, MatchBool, Bool, false, ◌==◌, string_bytes}
use Rattle.std.specs.Str.{bytes_eq}
use Rattle.std.specs.declared.string.String.{String}
use Rattle.phrase_report.specs.declared.args.ArgsError.{ArgsError}
use Rattle.phrase_report.specs.declared.args.ArgsError.TheVariants.{NoSuchOption, TooMany}
use Rattle.phrase_report.specs.declared.args.Asked.{Asked}
use Rattle.phrase_report.specs.declared.args.Asked.TheVariants.{Help, Input, File}

abbrev pub args_error_text : ArgsError → List ℕ
args_error_text NoSuchOption = codes "no such option, see phrase_check --help"
args_error_text TooMany = codes "more than one argument, see phrase_check --help"

-- the arguments, each by its bytes
abbrev pub words : {A : Type 0} → List (String A) → List (List ℕ)
words args = map string_bytes args

-- the word begins with a hyphen
abbrev pub is_option : List ℕ → Bool
is_option [] = false
is_option (b ∷ bs) = b == 45

-- the file with this name is asked for
abbrev pub AsksFile : List ℕ → Asked → Type 0
AsksFile word Help = ⊥
AsksFile word Input = ⊥
AsksFile word (File name) = name.now ≡ word

-- what a list of arguments is read as
abbrev pub ReadAs : List (List ℕ) → Result Asked ArgsError → Type 0
ReadAs [] r = r ≡ Ok Input
ReadAs (word ∷ []) r =
    MatchBool (bytes_eq word (codes "--help")) (r ≡ Ok Help)
    (MatchBool (is_option word) (r ≡ Err NoSuchOption)
    (IfOk r (AsksFile word)))
ReadAs (word ∷ other ∷ more) r = r ≡ Err TooMany
