-- All examples, as one table that is computed. Assumes nothing.
use Rattle.std.specs.Prelude.{Bool, ◌&&◌}
use Rattle.floor_examples.specs.Floor.{floor_further, floor_lines, floor_table}
use Rattle.floor_examples.specs.Periods.{periods}
use Rattle.floor_examples.specs.Entries.{last_numbers, ranges, selling}
use Rattle.floor_examples.specs.Standing.{strangers, ties, yields}
use Rattle.floor_examples.specs.Markets.{markets}
use Rattle.floor_examples.specs.TakingOff.{calls_taking_off}
use Rattle.floor_examples.specs.Limits.{full_queues, full_register}
use Rattle.floor_examples.specs.OutOfStep.{steps}
use Rattle.floor_examples.specs.Denials.{denials, deposits, layers}

-- each example gives the replies that stand in it
abbrev pub worked : Bool
worked =
    floor_table
    && floor_lines
    && floor_further
    && periods
    && ranges
    && last_numbers
    && selling
    && ties
    && yields
    && markets
    && strangers
    && calls_taking_off
    && full_register
    && full_queues
    && steps
    && denials
    && deposits
    && layers
