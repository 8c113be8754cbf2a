-- What one line of a scenario does, and what is printed of it. Assumes nothing.
use Rattle.std.specs.Prelude.{◌≡◌, ℕ, Bool, true, List, [], ◌∷◌, ◌++◌, ℤ, codes, Ok, Err, Option, Result, MatchBool, OnOk, ◌==◌, slice_index_or}
use Rattle.std.specs.Borrow.{Bor}
use Rattle.std.specs.Io.KnownBytes.{Appends}
use Rattle.clearing.specs.Centre.{Lines, Own}
use Rattle.market.specs.BookState.{state_of}
use Rattle.market.specs.Rule.{Rule}
use Rattle.market.specs.declared.market.Market.{Market}
use Rattle.scenario.specs.Answers.{answer_text}
use Rattle.scenario.specs.Asked.{asked}
use Rattle.scenario.specs.Carried.{CarriedOut, Change}
use Rattle.scenario.specs.Lines.{lines_text}
use Rattle.scenario.specs.Shown.{spaced}
use Rattle.scenario.specs.States.{book_text, market_text, trades_text}
use Rattle.scenario.specs.Texts.{texts}
use Rattle.scenario.specs.declared.answer.Answer.{Answer}
use Rattle.scenario.specs.declared.error.Stop.{Stop}
use Rattle.scenario.specs.declared.error.Stop.TheVariants.{Expected}
use Rattle.scenario.specs.declared.words.Asked.TheVariants.{Do, Show}
use Rattle.scenario.specs.declared.words.Asked.{Asked}
use Rattle.scenario.specs.declared.words.Expected.{Expected as Words}
use Rattle.scenario.specs.declared.words.View.{View}
use Rattle.scenario.specs.declared.words.View.TheVariants as view

-- the same book and the same centre
abbrev pub SameParts : {R C : Type 0} → Market R C → Market R C → Type 0
SameParts m m' = (m'.book ≡ m.book) × (m'.centre ≡ m.centre)

-- no word, or a first one that begins with '#'
abbrev pub passed_over : List (List ℕ) → Bool
passed_over [] = true
passed_over (w ∷ ws) = slice_index_or w 0 0 == 35

-- the words parted by one blank, ` = `, what is shown, and byte 10
abbrev pub line_text : List (Bor (List ℕ)) → List ℕ → List ℕ
line_text ws shown = spaced ws ++ codes " = " ++ shown ++ codes "\n"

abbrev pub view_text : {R C : Type 0} → (C → Lines) → (C → List ℤ) → Market R C → View → List ℕ
view_text lines accounts m view.Book = book_text (state_of m.book)
view_text lines accounts m view.Trades = trades_text (state_of m.book)
view_text lines accounts m view.Market = market_text (state_of m.book)
view_text lines accounts m view.Lines = lines_text (lines m.centre) (accounts m.centre)

module _ {R C : Type 0} (rule : R → Rule) (own : C → Own) (lines : C → Lines) (accounts : C → List ℤ) (account cap' : Change C) (ws : List (Bor (List ℕ))) (m m' : Market R C) (before after : Option (List ℕ)) (r : Result (Unit {0}) Stop) where
  -- an action is carried out and its answer shown; a view is shown and leaves the market; else nothing is done or printed
  abbrev pub AskedDone : Result Asked Words → Type 0
  AskedDone (Ok (Do action)) = (x : Answer) × CarriedOut rule own lines account cap' m m' action x × OnOk r (Appends before after (line_text ws (answer_text x)))
  AskedDone (Ok (Show v)) = SameParts m m' × OnOk r (Appends before after (line_text ws (view_text lines accounts m v)))
  AskedDone (Err expected) = (m' ≡ m) × (r ≡ Err (Expected expected)) × (after ≡ before)

  -- a line that is passed over does nothing
  abbrev pub LineDone : Type 0
  LineDone = MatchBool (passed_over (texts ws)) ((m' ≡ m) × (r ≡ Ok tt) × (after ≡ before)) (AskedDone (asked (texts ws)))
