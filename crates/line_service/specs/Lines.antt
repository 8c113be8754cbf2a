-- The lines of a text, and those of a reader whose bytes are known.
use Rattle.std.specs.Prelude.{◌≡◌, ℕ, ◌<◌, length, List, [], ◌∷◌, ◌++◌, ◌==◌, if◌then◌else◌, IfSome, ⊤, None, Some}
use Rattle.std.specs.declared.option.Option.{Option}

-- a byte before the first of the lines, or a line of its own where there is none
abbrev pub onto_first : ℕ → List (List ℕ) → List (List ℕ)
onto_first byte [] = (byte ∷ []) ∷ []
onto_first byte (line ∷ lines) = (byte ∷ line) ∷ lines

-- the lines of a text: each goes up to a byte 10, and what follows the last byte 10 is one too unless it is empty
abbrev pub lines_of : List ℕ → List (List ℕ)
lines_of [] = []
lines_of (byte ∷ text) = if byte == 10 then [] ∷ lines_of text else onto_first byte (lines_of text)

-- where the bytes that a reader has left are known, these are all their lines
abbrev pub AreLines : Option (List ℕ) → List (List ℕ) → Type 0
AreLines known lines = IfSome known (λ text. lines_of text ≡ lines)

-- where the bytes that a reader has left are known, these are their first lines
abbrev pub AreFirstLines : Option (List ℕ) → List (List ℕ) → Type 0
AreFirstLines known lines = IfSome known (λ text. (others : List (List ℕ)) × (lines_of text ≡ lines ++ others))

-- known bytes lose these lines, and the lines of what is left are all the others
abbrev pub ConsumesLines : Option (List ℕ) → Option (List ℕ) → List (List ℕ) → Type 0
ConsumesLines None new lines = ⊤
ConsumesLines (Some text) None lines = ⊥
ConsumesLines (Some text) (Some rest) lines = lines_of text ≡ lines ++ lines_of rest

-- where the bytes that a reader has left are known, they have more than n lines
abbrev pub HasMoreLines : Option (List ℕ) → ℕ → Type 0
HasMoreLines known n = IfSome known (λ text. n < length (lines_of text))
