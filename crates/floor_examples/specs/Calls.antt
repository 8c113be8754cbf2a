-- The calls of an example, in short. Assumes nothing.
use Rattle.std.specs.Prelude.{ℕ, zero, suc, ℤ, pos, negsuc}
use Rattle.clearing.specs.declared.side.Side.{Side}
use Rattle.clearing.specs.declared.side.Side.TheVariants.{Buy, Sell}
use Rattle.dealing.specs.declared.call.Call.{Call}
use Rattle.dealing.specs.declared.call.Call.TheVariants.{Open, Enter, Withdraw, Reduce}
use Rattle.dealing.specs.declared.call.Kind.{Kind}
use Rattle.dealing.specs.declared.call.Kind.TheVariants.{Limited, Market}
use Rattle.dealing.specs.declared.call.Rest.{Rest}

-- a number below 0: minus n
abbrev pub neg : ℕ → ℤ
neg zero = pos 0
neg (suc n) = negsuc n

-- the largest signed 64-bit number
abbrev pub largest : ℤ
largest = pos 9223372036854775807

-- the least one
abbrev pub least : ℤ
least = negsuc 9223372036854775807

-- an entry with any numbers: account, price, lots
abbrev pub entry : Side → Kind → Rest → ℤ → ℤ → ℤ → Call
entry s k rest a p n = Enter (record { account = a; side = s; kind = k; rest = rest; price = p; lots = n })

-- a limited buy: what becomes of the rest, account, price, lots
abbrev pub buy : Rest → ℕ → ℕ → ℕ → Call
buy rest a p n = entry Buy Limited rest (pos a) (pos p) (pos n)

-- a limited sell
abbrev pub sell : Rest → ℕ → ℕ → ℕ → Call
sell rest a p n = entry Sell Limited rest (pos a) (pos p) (pos n)

-- a buy at market: what becomes of the rest, account, lots
abbrev pub buy_market : Rest → ℕ → ℕ → Call
buy_market rest a n = entry Buy Market rest (pos a) (pos 0) (pos n)

-- a sell at market
abbrev pub sell_market : Rest → ℕ → ℕ → Call
sell_market rest a n = entry Sell Market rest (pos a) (pos 0) (pos n)

-- an opening: low, high, deviation
abbrev pub opens : ℕ → ℕ → ℕ → Call
opens low high deviation = Open (pos low) (pos high) (pos deviation)

-- a withdrawal: account, number
abbrev pub withdraws : ℕ → ℕ → Call
withdraws a k = Withdraw (pos a) (pos k)

-- a reduction: account, number, lots
abbrev pub reduces : ℕ → ℕ → ℕ → Call
reduces a k n = Reduce (pos a) (pos k) (pos n)
