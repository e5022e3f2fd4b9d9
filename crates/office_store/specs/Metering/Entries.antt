-- Conversions from rows of `entries` and `voids` to the rows of a meter's journal: its entries in
-- order, each marked as voided (cancelled) or not.
use Rattle.std.specs.Prelude.{◌≡◌, ℕ, ◌==◌, Bool, not, List, map, reverse, Option, Some, None}
use Rattle.std.specs.List.{list_any, filter_map, AllByRecursion}
use Rattle.std.specs.List.Sorted.{IsPermutation}
use Rattle.std.specs.Prelude.{filter}
use Rattle.energy_core.specs.declared.entries.Entry.TheVariants as entry
use Rattle.meter_journal.specs.declared.lines.EntryRow as journal
use Rattle.meter_journal.specs.declared.lines.EntryKind as journal_kind
use Rattle.meter_journal.specs.declared.lines.EntryKind.TheVariants as from
use Rattle.meter_journal.specs.Books.{HasAccount}
use Rattle.meter_journal.specs.Journal.{Around, entries_in, row_at}
use Rattle.meter_journal.specs.Lists.{AreNumbered, latest_first}
use Rattle.sqlite.specs.Order.{Row}
use Rattle.office_events.specs.declared.facts.Opening.{Opening}
use Rattle.office_events.specs.declared.facts.Fact.{Fact}
use Rattle.office_books.specs.Facts.{opening_of, voids_in}
use Rattle.office_books.specs.Lawful.{AreLawful}
use Rattle.office_books.specs.Meters.{installed, rows_of}
use Rattle.office_books.specs.Sound.{HasNumbers}
use Rattle.store_tables.specs.declared.entries.rows.EntryRow.{EntryRow}
use Rattle.store_tables.specs.declared.entries.rows.EntryKind.{EntryKind}
use Rattle.store_tables.specs.declared.entries.rows.EntryKind.TheVariants as kind
use Rattle.store_tables.specs.declared.faults.RowFault.{RowFault}
use Rattle.store_tables.specs.Failing.{IsRowFault}
use Rattle.store_tables.specs.Entries.Rows.{Entered, Voided, entry_shown, voided_shown, is_void_of, IsSoundEntered, IsSoundVoided}
use Rattle.office_store.specs.Rows.{entered_rows, voided}
use Rattle.office_store.specs.Metering.Sound.{HasReadableMeters, HasReadableJournals}

-- The row in a meter's journal (its history) for an entry that reads the counter: a poll's reading,
-- a manual reading, or the reading when the meter is closed.
abbrev pub step_row : journal_kind.EntryKind → EntryRow → (stands : Bool) → journal.EntryRow
step_row k e stands =
    record { place = e.place; kind = k; entry = entry.Step e.moment e.raw e.rolls; stands = stands }

-- The row in a meter's journal (its history) for an entry that sets the counter or its scale
-- factor: a reset or a rescale.
abbrev pub change_row : journal_kind.EntryKind → EntryRow → (stands : Bool) → journal.EntryRow
change_row k e stands =
    record {
      place = e.place;
      kind = k;
      entry = entry.Change e.moment e.raw e.after e.sf;
      stands = stands;
    }

-- The row in a meter's journal (its history) for an entry, by its kind. A meter's first entry has
-- no journal row, because the journal stores this entry apart from its rows.
abbrev pub row_by : EntryKind → EntryRow → (stands : Bool) → Option journal.EntryRow
row_by kind.Opening e stands = None
row_by kind.Reading e stands = Some (step_row from.Reading e stands)
row_by kind.Manual e stands = Some (step_row from.Manual e stands)
row_by kind.Closing e stands = Some (step_row from.Closing e stands)
row_by kind.Reset e stands = Some (change_row from.Reset e stands)
row_by kind.Rescale e stands = Some (change_row from.Rescale e stands)

-- The row in a meter's journal (its history) for a row of `entries`, or None for the meter's first
-- entry.
abbrev pub row_from : EntryRow → (stands : Bool) → Option journal.EntryRow
row_from e stands = row_by e.kind e stands

-- True if a row of `voids` cancels the meter entry at index `place`.
abbrev pub names : (place : ℕ) → Voided → Bool
names place v = place == v.place

-- True if the Boolean answer correctly says whether one of the result rows of `voids` cancels the
-- meter entry at index `place`.
abbrev pub ReportsVoided : (voids : List Row) → (place : ℕ) → Bool → Type 0
ReportsVoided voids place is =
    (vs : List Voided) → voids ≡ map voided_shown vs → is ≡ list_any (names place) vs

-- The row in a meter's journal (its history) for an entry. The row is marked as voided if one of
-- the rows of the table `voids` cancels the entry.
abbrev pub row_among : List Voided → Entered → Option journal.EntryRow
row_among vs e = row_from e.entry (not (list_any (names e.entry.place) vs))

-- True if the result rows encode all entries of a meter, ordered by index.
pub record ShowsEntries (meter : List ℕ) (facts : List Fact) (rows : List Row) : Type 0 where
  pub entries : List Entered
  pub shown : rows ≡ map entry_shown entries
  pub all : (opening : Opening) → opening_of facts meter ≡ Some opening
      → entries ≡ reverse (entered_rows opening (rows_of facts opening))
  pub sound : HasReadableMeters facts → AllByRecursion IsSoundEntered entries

-- True if the result rows encode all voids (cancellations) of a meter's entries, in any order.
pub record ShowsVoids (meter : List ℕ) (facts : List Fact) (rows : List Row) : Type 0 where
  pub lawful : AreLawful facts
  pub voids : List Voided
  pub shown : rows ≡ map voided_shown voids
  pub all : IsPermutation (filter (is_void_of meter) (map voided (voids_in facts))) voids
  pub sound : HasReadableJournals facts → AllByRecursion IsSoundVoided voids

-- True if the given journal rows are those that the result rows of `entries` and `voids` encode, in
-- the order of the entries. A journal is a meter's history.
abbrev pub AreJournal : (entries voids : List Row) → List journal.EntryRow → Type 0
AreJournal entries voids rows = (es : List Entered) (vs : List Voided)
    → entries ≡ map entry_shown es
    → voids ≡ map voided_shown vs → rows ≡ filter_map (row_among vs) es

-- The reasons why result rows of `voids` can't be read: out of memory, or `Damaged` if a row has a
-- value out of its range.
abbrev pub IsFaultOfVoids : (voids : List Row) → RowFault → Type 0
IsFaultOfVoids voids e = (vs : List Voided) → voids ≡ map voided_shown vs
    → IsRowFault (AllByRecursion IsSoundVoided vs) e

-- The reasons why result rows of `entries` and `voids` can't be read: out of memory, or `Damaged`
-- if a row has a value out of its range.
abbrev pub IsFaultOfJournal : (entries voids : List Row) → RowFault → Type 0
IsFaultOfJournal entries voids e = (es : List Entered) (vs : List Voided)
    → entries ≡ map entry_shown es
    → voids ≡ map voided_shown vs
    → IsRowFault (AllByRecursion IsSoundEntered es × AllByRecursion IsSoundVoided vs) e

-- True if the given journal rows are all entries of a meter except its first one, the oldest first.
-- A journal is a meter's history.
abbrev pub FindsJournal : (meter : List ℕ) → List Fact → List journal.EntryRow → Type 0
FindsJournal meter facts rows =
    (opening : Opening) → opening_of facts meter ≡ Some opening
    → latest_first rows ≡ rows_of facts opening

-- The conditions under which the meter entry at index `place` can be found. The numbers of the
-- meter's first entry are in their ranges, and the rows are numbered by index. The rules for meter
-- entries accept those entries before `place` that are not voided (cancelled).
pub record CanBePlaced (opening : Opening) (rows : List journal.EntryRow) (place : ℕ) : Type 0 where
  pub numbers : HasNumbers opening
  pub places : AreNumbered (latest_first rows)
  pub account : (around : Around) → row_at place (latest_first rows) ≡ Some around
      → HasAccount (installed opening) (entries_in around.before)
