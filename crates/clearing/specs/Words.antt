-- What is printed of a side, a cause and a no. Assumes nothing.
use Rattle.std.specs.Prelude.{ℕ, List, ◌++◌, codes}
use Rattle.std.specs.Fmt.{decimal}
use Rattle.clearing.specs.Cause.{cause_number}
use Rattle.clearing.specs.declared.cause.Cause.{Cause}
use Rattle.clearing.specs.declared.cause.Cause.TheVariants.{NoLine, OutOfRange, CentreRule, OverFirmCap, NotHeld, BadSetting}
use Rattle.clearing.specs.declared.cause.Denial.{Denial}
use Rattle.clearing.specs.declared.cause.UnknownCause.{UnknownCause}
use Rattle.clearing.specs.declared.side.Side.{Side}
use Rattle.clearing.specs.declared.side.Side.TheVariants.{Buy, Sell}

abbrev pub side_text : Side → List ℕ
side_text Buy = codes "buy"
side_text Sell = codes "sell"

abbrev pub cause_text : Cause → List ℕ
cause_text NoLine = codes "the account has no line"
cause_text OutOfRange = codes "the lots are out of range"
cause_text CentreRule = codes "the centre's own rule"
cause_text OverFirmCap = codes "a firm's cap would be passed"
cause_text NotHeld = codes "so many lots are not held"
cause_text BadSetting = codes "no such setting can be made"

abbrev pub unknown_cause_text : UnknownCause → List ℕ
unknown_cause_text u = codes "no cause has the number " ++ decimal u.0

-- a no, by its cause in words, and by its numbers
abbrev pub denial_text : Denial → List ℕ
denial_text d = cause_text d.cause ++ codes " (cause " ++ decimal (cause_number d.cause) ++ codes ", depth " ++ decimal d.depth ++ codes ")"
