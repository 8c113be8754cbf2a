-- What is said of what was expected. Assumes nothing.
use Rattle.std.specs.Prelude.{ℕ, List, codes}
use Rattle.scenario.specs.declared.words.Expected.{Expected}
use Rattle.scenario.specs.declared.words.Expected.TheVariants.{Start, Instrument, Call, Side, Kind, Rest, Number, Times, View, End, Text}

abbrev pub expected_text : Expected → List ℕ
expected_text Start = codes "1, times, account, firm or show"
expected_text Instrument = codes "instrument 1"
expected_text Call = codes "open, enter, withdraw, reduce, suspend or resume"
expected_text Side = codes "B or S"
expected_text Kind = codes "L or M"
expected_text Rest = codes "Q, T or F"
expected_text Number = codes "a number from -9223372036854775808 to 9223372036854775807"
expected_text Times = codes "a number of times from 1 up"
expected_text View = codes "book, trades, market or lines"
expected_text End = codes "nothing more"
expected_text Text = codes "UTF-8"
