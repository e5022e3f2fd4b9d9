-- The interval rows (energy by quarter hour) of an accounting register (an energy counter) in
-- lawful records, which the rules for adding records accept one after another.
use Rattle.std.specs.Prelude.{ℕ, ◌≤◌, ◌<◌, ◌^◌, List, All}
use Rattle.std.specs.List.Sorted.{IsNonDecreasingBy}
use Rattle.interval_core.specs.declared.shares.Share.{Share}
use Rattle.interval_core.specs.Account.{energy_of}
use Rattle.office_events.specs.declared.facts.Fact.{Fact}
use Rattle.office_books.specs.Facts.{moment_limit}
use Rattle.office_books.specs.Intervals.{rows_of_register}
use Rattle.office_books.specs.Lawful.{AreLawful}

-- True if the interval rows (energy by quarter hour) can be added up by civil day, row by row. The
-- conditions: start times never decrease, no start time exceeds the latest supported timestamp, and
-- the sum of the energies fits in 128 bits.
pub record CanBeFolded (rows : List Share) : Type 0 where
  pub never_fall : IsNonDecreasingBy (λ row. row.start) rows
  pub moments : All (λ row. row.start ≤ moment_limit) rows
  pub energy : energy_of rows < 2 ^ 128

-- Theorem: if the records follow the rules for adding records (`AreLawful`), then the interval rows
-- (energy by quarter hour) of each accounting register can be added up by day. The rows are in
-- order because each meter is closed before the next meter is opened.
abbrev pub RegistersAreInTurn : Type 0
RegistersAreInTurn = (facts : List Fact) (register : List ℕ) → AreLawful facts
    → CanBeFolded (rows_of_register facts register)
