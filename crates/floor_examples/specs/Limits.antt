-- The limits of the register and of the queues. Assumes nothing.
use Rattle.std.specs.Prelude.{ℕ, zero, suc, Bool, ◌&&◌, List, [], ◌∷◌, ◌++◌, replicate}
use Rattle.clearing.specs.Centre.{Lines}
use Rattle.dealing.specs.declared.call.Rest.TheVariants.{Queue as Q, TakeOff as T, InFull as F}
use Rattle.market.specs.QueueRules.{by_rate as rate}
use Rattle.market.specs.Run.{Day}
use Rattle.market.specs.declared.order.Order.{Order}
use Rattle.market.specs.declared.trade.Trade.{Trade}
use Rattle.floor_examples.specs.Calls.{buy, buy_market, reduces, sell, withdraws}
use Rattle.floor_examples.specs.Replies.{ok, refusal}
use Rattle.floor_examples.specs.House.{position}
use Rattle.floor_examples.specs.Ends.{any, buys, line, register, sells, trade, ◌and◌}
use Rattle.floor_examples.specs.Days.{as_made, ask, begun, bid, case, counted, with_line, ◌⇒◌}

-- a trade that the register has already
abbrev pub old : Trade
old = trade 5 6 101 102 100 1

-- two sells, a number of trades in the register, and the lines that go with the sells
abbrev pub registered : ℕ → Lines → Day
registered n =
    begun 600 [] (ask 1 101 100 2 ∷ ask 2 102 101 2 ∷ []) (replicate n old)
    (λ L. with_line 101 (counted 0 0 2 0) (with_line 102 (counted 0 0 2 0) L))

-- walks with more trades than the register has places for, and with as many
abbrev pub full_register : Bool
full_register =
    case rate (position 50) (registered 511)
    (buy Q 103 101 4 ⇒ refusal 8
    ∷ buy T 103 101 3 ⇒ refusal 8
    ∷ buy F 103 101 4 ⇒ refusal 8
    ∷ buy F 103 101 5 ⇒ refusal 7
    ∷ buy_market T 103 4 ⇒ refusal 8
    ∷ buy Q 103 101 60 ⇒ refusal 8
    ∷ buy Q 999 101 4 ⇒ refusal 8
    ∷ buy Q 101 101 4 ⇒ refusal 6
    ∷ buy Q 103 100 2 ⇒ ok 50 601 2 0 0
    ∷ buy Q 103 101 1 ⇒ refusal 8
    ∷ buy Q 102 101 1 ⇒ refusal 6
    ∷ buy Q 103 100 1 ⇒ ok 51 602 0 1 0
    ∷ sell Q 101 100 1 ⇒ refusal 8
    ∷ sell Q 103 100 1 ⇒ refusal 6
    ∷ buy T 101 100 3 ⇒ ok 53 603 0 0 3
    ∷ reduces 102 2 1 ⇒ ok 57 2 0 1 1
    ∷ withdraws 102 2 ⇒ ok 56 2 0 0 1
    ∷ [])
    (buys (602 ∷ 1 ∷ []) and sells [] and register (replicate 511 old ++ (trade 601 1 103 101 100 2 ∷ [])))
    && case rate (position 50) (registered 512) (buy Q 103 100 1 ⇒ refusal 8 ∷ buy F 103 100 3 ⇒ refusal 7 ∷ buy Q 103 99 1 ⇒ ok 51 601 0 1 0 ∷ []) any
    && case rate (position 50) (registered 510) (buy Q 103 101 5 ⇒ ok 52 601 4 1 0 ∷ sell T 102 101 1 ⇒ refusal 8 ∷ []) (buys (601 ∷ 1 ∷ []) and sells [])
    -- own after a trade, with no place for it
    && case rate (position 50) (registered 512) (buy Q 102 101 4 ⇒ refusal 8 ∷ buy F 102 101 4 ⇒ refusal 7 ∷ []) any
    -- 8 goes before 13
    && case rate (position 50) (begun 600 [] (ask 1 101 100 2 ∷ []) (replicate 512 old) as_made) (buy Q 103 100 1 ⇒ refusal 8 ∷ []) any

-- n buys of account 101 at 100, of 1 lot each, numbered from k on
abbrev pub bids_from : ℕ → ℕ → List Order
bids_from k zero = []
bids_from k (suc n) = bid k 101 100 1 ∷ bids_from (suc k) n

-- the same of sells
abbrev pub asks_from : ℕ → ℕ → List Order
asks_from k zero = []
asks_from k (suc n) = ask k 101 100 1 ∷ asks_from (suc k) n

-- lines for n lots that account 101 has resting, on either side
abbrev pub resting_lines : ℕ → Lines → Lines
resting_lines n L = with_line 101 (counted n 0 n 0) L

-- rests that find their queue full, whatever the walk takes out of the other one
abbrev pub full_queues : Bool
full_queues =
    case rate (position 1000) (begun 64 (bids_from 1 64) [] [] (resting_lines 64))
    (buy Q 102 90 5 ⇒ refusal 9
    ∷ buy Q 102 200 5 ⇒ refusal 9
    ∷ buy Q 999 90 5 ⇒ refusal 9
    ∷ buy Q 102 90 1001 ⇒ refusal 9
    ∷ buy T 102 90 5 ⇒ ok 53 65 0 0 5
    ∷ buy F 102 90 5 ⇒ refusal 7
    ∷ sell Q 102 100 1 ⇒ ok 50 66 1 0 0
    ∷ buy Q 102 90 5 ⇒ ok 51 67 0 5 0
    ∷ buy Q 102 90 1 ⇒ refusal 9
    ∷ withdraws 102 67 ⇒ ok 56 67 0 0 5
    ∷ buy Q 103 100 1 ⇒ ok 51 68 0 1 0
    ∷ sell Q 102 101 3 ⇒ ok 51 69 0 3 0
    ∷ buy Q 103 101 4 ⇒ refusal 9
    ∷ buy Q 103 101 3 ⇒ ok 50 70 3 0 0
    ∷ sell Q 102 101 1 ⇒ ok 51 71 0 1 0
    ∷ sell Q 103 102 1 ⇒ ok 51 72 0 1 0
    ∷ buy Q 103 102 5 ⇒ ok 55 73 1 0 4
    ∷ buy Q 103 102 5 ⇒ refusal 6
    ∷ [])
    (sells (72 ∷ 1 ∷ []) and line 101 (63 ∷ 1 ∷ 64 ∷ 0 ∷ []))
    && case rate (position 1000) (begun 64 (bids_from 1 63) [] [] (resting_lines 63)) (buy Q 102 100 1 ⇒ ok 51 65 0 1 0 ∷ buy Q 102 101 1 ⇒ refusal 9 ∷ []) any
    && case rate (position 1000) (begun 64 [] (asks_from 1 64) [] (resting_lines 64))
    (sell Q 102 101 5 ⇒ refusal 9 ∷ sell Q 102 99 5 ⇒ refusal 9 ∷ sell T 102 101 5 ⇒ ok 53 65 0 0 5 ∷ buy Q 102 99 2 ⇒ ok 51 66 0 2 0 ∷ sell Q 103 99 3 ⇒ refusal 9 ∷ sell Q 103 99 2 ⇒ ok 50 67 2 0 0 ∷ [])
    (buys [] and register (trade 66 67 102 103 99 2 ∷ []))
    -- the longest walk
    && case rate (position 1000) (begun 64 (bids_from 1 64) [] (replicate 448 old) (resting_lines 64)) (sell Q 102 100 70 ⇒ ok 52 65 64 6 0 ∷ buy T 103 100 1 ⇒ refusal 8 ∷ []) (buys [] and sells (65 ∷ 6 ∷ []) and line 101 (0 ∷ 64 ∷ 64 ∷ 0 ∷ []) and line 102 (0 ∷ 0 ∷ 6 ∷ 64 ∷ []))
    && case rate (position 1000) (begun 64 (bids_from 1 64) [] (replicate 449 old) (resting_lines 64)) (sell Q 102 100 70 ⇒ refusal 8 ∷ sell Q 102 100 63 ⇒ ok 50 65 63 0 0 ∷ []) (buys (64 ∷ 1 ∷ []))
    -- 8 goes before 9, and 9 before 13
    && case rate (position 1000) (begun 65 (bids_from 1 64) (ask 65 102 101 1 ∷ []) (replicate 512 old) (resting_lines 64)) (buy Q 103 101 2 ⇒ refusal 8 ∷ []) any
    && case rate (position 1000) (begun 65 (bids_from 1 64) (ask 65 102 101 1 ∷ []) [] (resting_lines 64)) (buy Q 103 101 2 ⇒ refusal 9 ∷ buy Q 103 101 1 ⇒ refusal 13 ∷ []) any
