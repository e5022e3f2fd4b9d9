-- Definitions of when the rows of meters can be read: their numbers must be in the ranges of their
-- columns, and their texts must be valid names.
use Rattle.std.specs.Prelude.{◌≡◌, ℕ, true, List, map, string_bytes}
use Rattle.std.specs.List.{AllByRecursion}
use Rattle.office_events.specs.declared.facts.Opening.{Opening}
use Rattle.office_events.specs.declared.facts.Fact.{Fact}
use Rattle.office_events.specs.Names.{is_name}
use Rattle.office_books.specs.Facts.{openings_in, voids_in, holds_in}
use Rattle.office_books.specs.Intervals.{rows_of_meter}
use Rattle.office_books.specs.Lawful.{AreLawful}
use Rattle.store_tables.specs.Meters.Rows.{IsSoundInstalled, IsSoundRanged}
use Rattle.store_tables.specs.declared.meters.rows.Installation as stored
use Rattle.store_tables.specs.Entries.Rows.{IsSoundEntered, IsSoundVoided}
use Rattle.office_store.specs.Intervals.Rows.{IsSoundShare}
use Rattle.office_store.specs.Holds.{IsSoundReading}
use Rattle.office_store.specs.Rows.{placed, installed_row, ranged, entries_of, voided}

-- True if the names of the meter and its accounting register (a named energy counter) in an opening
-- (the record that installs the meter) are valid names.
pub record HasNames (opening : Opening) : Type 0 where
  pub meter : is_name opening.meter ≡ true
  pub register : is_name opening.register ≡ true

-- True if the texts of a row of `installations` are valid names.
pub record IsNamed (row : stored.Installation) : Type 0 where
  pub meter : is_name (string_bytes row.meter) ≡ true
  pub register : is_name (string_bytes row.register) ≡ true

-- True if the rules for records accepted all records, and every row of `installations`, `ranges`
-- and `entries` can be read. A row can be read if each value is in the range of its column.
pub record HasReadableMeters (facts : List Fact) : Type 0 where
  pub lawful : AreLawful facts
  pub names : AllByRecursion HasNames (openings_in facts)
  pub installations :
      AllByRecursion IsSoundInstalled (placed (installed_row facts) (openings_in facts))
  pub ranges : AllByRecursion IsSoundRanged (map ranged (openings_in facts))
  pub entries : (meter : List ℕ) → AllByRecursion IsSoundEntered (entries_of facts meter)

-- True if every row of the meters, their entries and their voids (cancellations of entries) can be
-- read: each value is in the range of its column.
pub record HasReadableJournals (facts : List Fact) : Type 0 where
  pub meters : HasReadableMeters facts
  pub voids : AllByRecursion IsSoundVoided (map voided (voids_in facts))

-- True if every row of `intervals`, the energy of a meter by quarter hour, can be read: each value
-- is in the range of its column.
abbrev pub HasReadableIntervals : List Fact → Type 0
HasReadableIntervals facts =
    (meter : List ℕ) → AllByRecursion IsSoundShare (rows_of_meter facts meter)

-- True if every row of `holds`, the table of rejected readings, can be read: each value is in the
-- range of its column.
abbrev pub HasReadableHolds : List Fact → Type 0
HasReadableHolds facts = AllByRecursion IsSoundReading (holds_in facts)
