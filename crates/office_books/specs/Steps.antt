-- Theorems about how a new record changes the stored state of a meter, if the rules for adding
-- records accept the new record.
use Rattle.std.specs.Prelude.{◌≡◌, ◌+◌, true, false, List, [], ◌∷◌, Some, None, if◌then◌else◌}
use Rattle.energy_core.specs.declared.entries.Entry.{Entry}
use Rattle.energy_core.specs.declared.entries.Step.{Step}
use Rattle.energy_core.specs.Account.{after, energy_of, step_to}
use Rattle.interval_core.specs.Share.{shares_of}
use Rattle.meter_journal.specs.declared.lines.EntryKind.{EntryKind}
use Rattle.meter_journal.specs.Changes as journals
use Rattle.meter_journal.specs.Intervals.{with_shares, with_each}
use Rattle.meter_journal.specs.Journal.{is_closing, new_row}
use Rattle.office_events.specs.declared.facts.Opening.{Opening}
use Rattle.office_events.specs.declared.facts.BookedEntry.{BookedEntry}
use Rattle.office_events.specs.declared.facts.HeldReading.{HeldReading}
use Rattle.office_events.specs.declared.facts.Fact.{Fact}
use Rattle.office_events.specs.declared.facts.Fact.TheVariants as fact
use Rattle.office_events.specs.declared.questions.Installation.{Installation}
use Rattle.office_books.specs.Facts.{opening_of, installed_at}
use Rattle.office_books.specs.Intervals.{rows_of_opening}
use Rattle.office_books.specs.Lawful.{AreLawful}
use Rattle.office_books.specs.Meters.{line_of, opened, installed, journal_of, rows_of, installation_of}

-- True if the record `f` leaves the stored state, the entry rows and the interval rows (energy by
-- quarter hour) of a meter unchanged.
pub record Stays (f : Fact) (facts : List Fact) (opening : Opening) : Type 0 where
  pub installation : installation_of (f ∷ facts) opening ≡ installation_of facts opening
  pub rows : rows_of (f ∷ facts) opening ≡ rows_of facts opening
  pub intervals : rows_of_opening (f ∷ facts) opening ≡ rows_of_opening facts opening

-- Theorem: if a record adds no line to a meter's journal (history), then the record leaves the
-- meter unchanged.
abbrev pub OtherMetersStay : Type 0
OtherMetersStay = (f : Fact) (facts : List Fact) (opening : Opening)
    → line_of opening.meter f ≡ None
    → Stays f facts opening

-- Theorem: a rejected reading leaves every meter unchanged.
abbrev pub HoldsChangeNothing : Type 0
HoldsChangeNothing = (held : HeldReading) (facts : List Fact) (opening : Opening)
    → Stays (fact.Hold held) facts opening

-- States that adding an opening (installation record) installs its meter. The meter is found by its
-- name and by its accounting register (an energy counter). Its counter has the state of the
-- opening, its energy is 0, and it has no later entries and no interval rows.
pub record Begins (facts : List Fact) (opening : Opening) : Type 0 where
  pub by_name : opening_of (fact.Opening opening ∷ facts) opening.meter ≡ Some opening
  pub at_register : installed_at (fact.Opening opening ∷ facts) opening.register ≡ Some opening
  pub installation : installation_of (fact.Opening opening ∷ facts) opening
      ≡ record { opening = opening; last = opened opening; total = 0; ended = false }
  pub rows : rows_of (fact.Opening opening ∷ facts) opening ≡ []
  pub intervals : rows_of_opening (fact.Opening opening ∷ facts) opening ≡ []

-- Theorem: each opening (installation record) that the rules for adding records accept installs its
-- meter with the opening's counter state, an energy of 0 and no rows (`Begins`).
abbrev pub OpeningsBegin : Type 0
OpeningsBegin = (opening : Opening) (facts : List Fact) → AreLawful (fact.Opening opening ∷ facts)
    → Begins facts opening

-- The state of an installed meter after a new entry.
abbrev pub moved_by : EntryKind → Entry → Installation → Installation
moved_by k e row = record {
  opening = row.opening;
  last = after row.last e;
  total = row.total + energy_of row.opening.range row.last e;
  ended = if is_closing k then true else row.ended;
}

-- The step (increase of the counter) from the last entry of an installed meter to a new entry.
abbrev pub step_from : Installation → Entry → Step
step_from row e = step_to row.opening.range row.last e

-- True if a new entry of an open meter adds one entry row, and advances the meter's state by the
-- entry's increase of the counter.
--
-- After a new entry, the energy of the counter's increase is added to the interval rows (energy by
-- quarter hour). Two equal definitions state the result. The first merges the new energy into the
-- last row, and the second adds it to the row of each quarter hour.
pub record MovesOn (booked : BookedEntry) (facts : List Fact) (opening : Opening) : Type 0 where
  pub unended : (installation_of facts opening).ended ≡ false
  pub goes_on : journals.ContinuesJournal (installed opening) (journal_of facts opening.meter)
      booked.kind booked.entry
  pub installation : installation_of (fact.Entry booked ∷ facts) opening
      ≡ moved_by booked.kind booked.entry (installation_of facts opening)
  pub rows : let before = rows_of facts opening in
      rows_of (fact.Entry booked ∷ facts) opening ≡ new_row before booked.kind booked.entry ∷ before
  pub joined : let shares = shares_of (step_from (installation_of facts opening) booked.entry) in
      rows_of_opening (fact.Entry booked ∷ facts) opening
      ≡ with_shares (rows_of_opening facts opening) shares
  pub added : let shares = shares_of (step_from (installation_of facts opening) booked.entry) in
      rows_of_opening (fact.Entry booked ∷ facts) opening
      ≡ with_each shares (rows_of_opening facts opening)

-- Theorem: each entry record that the rules for adding records accept adds one row to its meter.
-- The record advances the meter's state by the entry's increase of the counter (`MovesOn`).
abbrev pub EntriesMoveOn : Type 0
EntriesMoveOn = (booked : BookedEntry) (facts : List Fact) (opening : Opening)
    → AreLawful (fact.Entry booked ∷ facts)
    → opening_of facts booked.meter ≡ Some opening → MovesOn booked facts opening
