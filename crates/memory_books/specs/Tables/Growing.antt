-- Defines when a lookup table has the content that follows from the store's records. A table is
-- updated for the records one by one. A lookup first updates the table for the records that it
-- lacks.
use Rattle.std.specs.Prelude.{◌≤◌, List, reverse, take, length}
use Rattle.office_events.specs.declared.facts.Fact.{Fact}
use Rattle.memory_books.specs.declared.tables.table.Kept.{Kept}

-- Reverses a list of records. The argument begins with the earliest record, the result with the
-- latest.
abbrev pub latest_first : List Fact → List Fact
latest_first facts = reverse facts

-- True if the lookup table was updated for the first `kept.count` records of the list, and has the
-- content that follows from these records.
pub record HasCome {T : Type 0} (says : T → List Fact → Type 0) (kept : Kept T)
    (facts : List Fact) : Type 0 where
  pub few : kept.count ≤ length facts
  pub said : says kept.table (latest_first (take kept.count facts))
