-- What the program's arguments ask for. Assumes nothing.
use Rattle.std.specs.Prelude.{◌≡◌, List, [], ◌∷◌, MatchBool, codes, string_bytes, String}
use Rattle.std.specs.Str.{bytes_eq}
use Rattle.std.specs.declared.alloc.Global.{Global}
use Rattle.scenario.specs.declared.program.Task.{Task}
use Rattle.scenario.specs.declared.program.Task.TheVariants.{Help, Input, Files}

-- all arguments are files
abbrev pub AreFiles : List (String Global) → Task → Type 0
AreFiles args Help = ⊥
AreFiles args Input = ⊥
AreFiles args (Files files) = files.now ≡ args

-- what a list of arguments is read as
abbrev pub ReadAs : List (String Global) → Task → Type 0
ReadAs [] t = t ≡ Input
ReadAs (word ∷ []) t = MatchBool (bytes_eq (string_bytes word) (codes "--help")) (t ≡ Help) (AreFiles (word ∷ []) t)
ReadAs (word ∷ other ∷ more) t = AreFiles (word ∷ other ∷ more) t
