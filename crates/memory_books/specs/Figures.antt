-- Two figures that a store in memory updates with each record: the number of installed meters, and
-- the greatest timestamp.
use Rattle.std.specs.Prelude.{◌≡◌, ◌≤◌, ◌+◌, ℕ, List, length}
use Rattle.office_books.specs.Ledgers.{with_facts}
use Rattle.office_events.specs.declared.facts.Fact.{Fact}
use Rattle.memory_books.specs.declared.figures.Figures.{Figures}
use Rattle.office_books.specs.Facts.{openings_in, latest_in}

-- True if `figures` (two numbers that are stored beside the records in memory) has the number of
-- meters that the records `known` install, and the greatest timestamp of these records.
pub record AreFigures (figures : Figures) (known : List Fact) : Type 0 where
  pub installations : figures.installations ≡ length (openings_in known)
  pub latest : figures.latest ≡ latest_in known

-- The maximum number of records in memory, 2^64 - 1.
abbrev pub most_facts : ℕ
most_facts = 18446744073709551615

-- States that, if the old figures (number of meters, latest timestamp) agree with some records,
-- then the new figures agree with these records plus `facts`.
abbrev pub CountOn : (facts : List Fact) → (old new : Figures) → Type 0
CountOn facts old new =
    (known : List Fact) → AreFigures old known → length known + length facts ≤ most_facts
    → AreFigures new (with_facts facts known)
