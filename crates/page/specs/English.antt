-- The phrases in English, in the sequence of the numbers that own them. Assumes nothing.
use Rattle.std.specs.Prelude.{ℕ, List, [], ◌∷◌, codes}

unfoldable pub english_phrases : List (List ℕ)
english_phrases =
    codes "Not in this period"
    ∷ codes "Lots out of range"
    ∷ codes "Market order: wrong type or price"
    ∷ codes "Price or opening terms out of range"
    ∷ codes "No order numbers left"
    ∷ codes "Refused: own order stands first"
    ∷ codes "Refused: cannot fill in full"
    ∷ codes "Trade register full"
    ∷ codes "Queue full"
    ∷ codes "No such order"
    ∷ codes "Order of another account"
    ∷ codes "Reduction out of range"
    ∷ codes "Clearing centre out of step"
    ∷ codes "Clearing centre says no"
    ∷ codes "Command not 37 columns"
    ∷ codes "Command letter not known"
    ∷ codes "Command number malformed"
    ∷ codes "Filled"
    ∷ codes "Resting in full"
    ∷ codes "Part traded, rest resting"
    ∷ codes "Nothing traded, all taken off"
    ∷ codes "Part traded, rest off at the price limit"
    ∷ codes "Part traded, rest off at own order"
    ∷ codes "Withdrawn"
    ∷ codes "Reduced"
    ∷ codes "Market suspended"
    ∷ codes "Market resumed"
    ∷ codes "Market opened"
    ∷ []
