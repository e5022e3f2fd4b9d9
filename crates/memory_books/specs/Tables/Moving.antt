-- The effect of one more record on a meter in the in-memory table of meters.
use Rattle.std.specs.Prelude.{◌≡◌, ◌+◌, ◌≤◌, ◌<◌, ℕ, List, [], ◌∷◌, ◌++◌, length}
use Rattle.energy_core.specs.declared.entries.Last.{Last}
use Rattle.meter_journal.specs.declared.lines.EntryRow.{EntryRow}
use Rattle.meter_journal.specs.Books.{HasAccount}
use Rattle.meter_journal.specs.Journal as journal
use Rattle.meter_journal.specs.Lists as lists
use Rattle.office_events.specs.declared.facts.Opening.{Opening}
use Rattle.office_events.specs.declared.facts.BookedEntry.{BookedEntry}
use Rattle.office_events.specs.declared.facts.Fact.{Fact}
use Rattle.office_books.specs.Ranges.{IsSound}
use Rattle.office_books.specs.Laws.{IsRecorded}
use Rattle.office_books.specs.Steps.{moved_by}
use Rattle.office_books.specs.Lawful.{AreLawful}
use Rattle.office_books.specs.Meters.{opened, installed, standing, rows_of, installation_of}
use Rattle.office_books.specs.Sound.{as_begun, HasNumbers, MayEnter}
use Rattle.memory_books.specs.declared.tables.meter.Meter.{Meter}

-- True if the state of a meter in the table of meters in memory is that directly after its
-- installation, without further entries.
pub record HasBegun (opening : Opening) (meter : Meter) : Type 0 where
  pub row : meter.row ≡ as_begun opening
  pub rows : meter.rows.items ≡ []

-- The effect of an entry on its meter in the table. The meter has one more entry row. The entry
-- advances the meter's state if the state's numbers (count, energy, limits) are in range and the
-- accounting rules accept the entry.
pub record HasEntered (booked : BookedEntry) (old new : Meter) : Type 0 where
  pub row : IsSound old.row → MayEnter old.row booked.entry
      → new.row ≡ moved_by booked.kind booked.entry old.row
  pub rows : new.rows.items
      ≡ old.rows.items
      ++ journal.new_row (lists.latest_first old.rows.items) booked.kind booked.entry ∷ []

-- True if the meters `old` and `new` have the same state and the same entry rows.
pub record IsSame (old new : Meter) : Type 0 where
  pub row : new.row ≡ old.row
  pub rows : new.rows.items ≡ old.rows.items

-- The effect of the void (cancellation) of the entry with sequence number `place` on the meter's
-- entry rows, the latest row first. Nothing is required if the meter has no such entry.
abbrev pub VoidsAt : Last → (place : ℕ) → (before after : List EntryRow) → Type 0
VoidsAt last place before after =
    lists.AreNumbered before → 2 ≤ place → place < length before + 2
    → after ≡ journal.with_void last place before

-- The effect of a void (cancellation of an entry) on its meter in the in-memory table of meters.
-- The entry rows change, and the meter's state is computed again from the changed rows.
pub record HasStruck (place : ℕ) (old new : Meter) : Type 0 where
  pub rows : VoidsAt (opened old.row.opening) place (lists.latest_first old.rows.items)
      (lists.latest_first new.rows.items)
  pub row : HasNumbers old.row.opening
      → HasAccount (installed old.row.opening)
      (journal.entries_in (lists.latest_first new.rows.items))
      → new.row ≡ standing old.row.opening (journal.entries_in (lists.latest_first new.rows.items))
      old.row.ended

-- True if a meter's state and entry rows in memory are those that follow from the store's records.
-- `opening` is the record that installed the meter.
pub record IsAsSaid (known : List Fact) (opening : Opening) (meter : Meter) : Type 0 where
  pub row : meter.row ≡ installation_of known opening
  pub rows : lists.latest_first meter.rows.items ≡ rows_of known opening

-- States that `so` is true of all lawful records and each recorded opening (a meter's first entry)
-- from which the content of this meter's row in the table follows.
abbrev pub WhereSaid : Meter → (List Fact → Opening → Type 0) → Type 0
WhereSaid meter so =
    (known : List Fact) (opening : Opening) → AreLawful known → IsRecorded known opening
    → IsAsSaid known opening meter → so known opening
