-- What becomes of the lots at rest when a market is closed. Assumes nothing.
use Rattle.std.specs.Prelude.{◌≡◌, ℕ, ◌+◌, ◌≤◌, cond, List, [], ◌∷◌, ℤ}
use Rattle.clearing.specs.Centre.{Lines, Own, adjusted, holds}
use Rattle.clearing.specs.Line.{release}
use Rattle.clearing.specs.declared.side.Side.{Side}
use Rattle.dealing.specs.declared.call.Call.{Call}
use Rattle.market.specs.Law.{LedTo, held_on, lots_queued, settled_on}
use Rattle.market.specs.Order.{account_of, lots_of, side_of}
use Rattle.market.specs.Rule.{Rule}
use Rattle.market.specs.State.{State}
use Rattle.market.specs.declared.order.Order.{Order}

-- the lots of an order are given back, where its account's line holds them
abbrev pub given_back : Lines → Order → Lines
given_back L o = cond (holds (L (account_of o)) (side_of o) (lots_of o)) (adjusted L (account_of o) (release (side_of o) (lots_of o))) L

-- those of all orders of a queue, from first to last
abbrev pub all_given_back : Lines → List Order → Lines
all_given_back L [] = L
all_given_back L (o ∷ q) = all_given_back (given_back L o) q

-- the lines once a market is closed: buys come before sells
abbrev pub closed : Lines → State → Lines
closed L S = all_given_back (all_given_back L S.buys) S.sells

-- lots at rest, in both queues
abbrev pub lots_at_rest : State → ℤ → Side → ℕ
lots_at_rest S a s = lots_queued S.buys a s + lots_queued S.sells a s

-- where the lines hold all that rests, each account has as many lots fewer held as it had at rest, and as many settled as before
abbrev pub ComesBack : State → Lines → Lines → Type 0
ComesBack S L L' =
    ((a : ℤ) (s : Side) → lots_at_rest S a s ≤ held_on (L a) s) → (a : ℤ) (s : Side) →
    (held_on (L' a) s + lots_at_rest S a s ≡ held_on (L a) s) × (settled_on (L' a) s ≡ settled_on (L a) s)

-- where calls to a new market over lines with nothing held or settled led here, no lot is held any more
abbrev pub NothingStaysHeld : Rule → Own → State → Lines → Lines → Type 0
NothingStaysHeld R C S L L' = (L₀ : Lines) (calls : List Call) → LedTo R C L₀ calls S L → (a : ℤ) (s : Side) → held_on (L' a) s ≡ 0
