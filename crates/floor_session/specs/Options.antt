-- What the program's arguments ask for. Assumes nothing.
use Rattle.std.specs.Prelude.{ℕ, List, [], ◌∷◌, ◌++◌, map, codes, Some, None, Option, Ok, Err, Result, Bool, true, false, ◌==◌, if◌then◌else◌, is_some, string_bytes}
use Rattle.std.specs.Borrow.{Bor}
use Rattle.std.specs.Option.{option_map}
use Rattle.std.specs.Result.{result_map_both}
use Rattle.std.specs.Str.{bytes_eq}
use Rattle.std.specs.declared.string.String.{String}
use Rattle.floor_session.specs.declared.options.ArgsError.{ArgsError}
use Rattle.floor_session.specs.declared.options.ArgsError.TheVariants.{NotExpected, Twice, NoFile, NothingToCheck, CheckWithPhrases}
use Rattle.floor_session.specs.declared.options.Asked.{Asked}
use Rattle.floor_session.specs.declared.options.Asked.TheVariants.{Help, Check, Session}
use Rattle.floor_session.specs.declared.options.Found.{Found}

-- a word by its bytes
abbrev pub Word : Type 0
Word = List ℕ

-- the arguments, each by its bytes
abbrev pub words : {A : Type 0} → List (String A) → List Word
words args = map string_bytes args

abbrev pub name_of : Option (Bor Word) → Option Word
name_of o = option_map (λ w. w.now) o

-- The answers

-- the help, the check of a house, or a session with the files of its house and its phrases
pub data Request : Type 0 where
  help : Request
  check : Word → Request
  session : Option Word → Option Word → Request

abbrev pub request_of : Asked → Request
request_of Help = help
request_of (Check file) = check file.now
request_of (Session house phrases) = session (name_of house) (name_of phrases)

abbrev pub not_expected : Word → List ℕ
not_expected word = codes "argument not expected: " ++ word ++ codes ", see session --help"

abbrev pub twice : Word → List ℕ
twice option = option ++ codes " is given twice, see session --help"

abbrev pub no_file : Word → List ℕ
no_file option = option ++ codes " wants a file, see session --help"

abbrev pub nothing_to_check : List ℕ
nothing_to_check = codes "--check wants --house FILE, see session --help"

abbrev pub check_with_phrases : List ℕ
check_with_phrases = codes "--check goes without --phrases, see session --help"

abbrev pub args_error_text : ArgsError → List ℕ
args_error_text (NotExpected word) = not_expected word.now
args_error_text (Twice option) = twice option.now
args_error_text (NoFile option) = no_file option.now
args_error_text NothingToCheck = nothing_to_check
args_error_text CheckWithPhrases = check_with_phrases

-- what is asked for, or the words of the error
abbrev pub meant : Result Asked ArgsError → Result Request (List ℕ)
meant r = result_map_both request_of args_error_text r

-- The reading, word by word

-- what words have given, and the option whose file is due next
pub record Options : Type 0 where
  pub house : Option Word
  pub phrases : Option Word
  pub check : Bool
  pub due : Option Word

abbrev pub none_yet : Options
none_yet = record { house = None; phrases = None; check = false; due = None }

abbrev pub options_of : Found → Options
options_of f = record { house = name_of f.house; phrases = name_of f.phrases; check = f.check; due = name_of f.due }

-- the word begins with a hyphen
abbrev pub is_option : Word → Bool
is_option [] = false
is_option (byte ∷ bytes) = byte == 45

-- with the file that is due
abbrev pub with_file : Options → Word → Word → Result Options (List ℕ)
with_file o option file =
    if is_option file then Err (no_file option)
    else if bytes_eq option (codes "--house") then Ok (record o { house = Some file; due = None })
    else Ok (record o { phrases = Some file; due = None })

-- with one more option
abbrev pub with_option : Options → Word → Result Options (List ℕ)
with_option o word =
    if bytes_eq word (codes "--house") then
    (if is_some o.house then Err (twice word) else Ok (record o { due = Some word }))
    else if bytes_eq word (codes "--phrases") then
    (if is_some o.phrases then Err (twice word) else Ok (record o { due = Some word }))
    else if bytes_eq word (codes "--check") then
    (if o.check then Err (twice word) else Ok (record o { check = true }))
    else Err (not_expected word)

abbrev pub with_word : Options → Word → Result Options (List ℕ)
with_word o word = with_due o.due
  where
    with_due : Option Word → Result Options (List ℕ)
    with_due None = with_option o word
    with_due (Some option) = with_file o option word

-- what all words ask for
abbrev pub asked_by : Options → Result Request (List ℕ)
asked_by o = asked_with o.due o.check o.house o.phrases
  where
    asked_with : Option Word → Bool → Option Word → Option Word → Result Request (List ℕ)
    asked_with (Some option) checks house phrases = Err (no_file option)
    asked_with None false house phrases = Ok (session house phrases)
    asked_with None true None phrases = Err nothing_to_check
    asked_with None true (Some house) (Some phrases) = Err check_with_phrases
    asked_with None true (Some house) None = Ok (check house)

abbrev pub and_then : {A B E : Type 0} → Result A E → (A → Result B E) → Result B E
and_then (Ok x) f = f x
and_then (Err e) f = Err e

-- what words ask for, behind those that gave the options
unfoldable pub read_on : List Word → Options → Result Request (List ℕ)
read_on [] o = asked_by o
read_on (word ∷ rest) o = and_then (with_word o word) (read_on rest)

-- what arguments ask for
abbrev pub read_as : List Word → Result Request (List ℕ)
read_as args = if is_help args then Ok help else read_on args none_yet
  where
    is_help : List Word → Bool
    is_help [] = false
    is_help (word ∷ []) = bytes_eq word (codes "--help")
    is_help (word ∷ other ∷ more) = false
