-- Theorems about how a void, which cancels an entry, changes the stored state of a meter.
use Rattle.std.specs.Prelude.{◌≡◌, ◌+◌, List, ◌∷◌, map, Some, is_some, if◌then◌else◌}
use Rattle.meter_journal.specs.Intervals.{with_each, without_each, all_shares}
use Rattle.meter_journal.specs.Journal.{Around}
use Rattle.meter_journal.specs.Voids.{last_before, changed_by, energy_in, steps_out, steps_put, rows_until, IsVoided}
use Rattle.office_events.specs.declared.facts.Opening.{Opening}
use Rattle.office_events.specs.declared.facts.VoidedEntry.{VoidedEntry}
use Rattle.office_events.specs.declared.facts.Fact.{Fact}
use Rattle.office_events.specs.declared.facts.Fact.TheVariants as fact
use Rattle.office_books.specs.Facts.{opening_of}
use Rattle.office_books.specs.Intervals.{rows_of_opening}
use Rattle.office_books.specs.Lawful.{AreLawful}
use Rattle.office_books.specs.Meters.{opened, installed, journal_of, rows_of, installation_of, place_in, entry_at}

-- True if a void (cancellation of an entry) changes only the rows of the voided entry and of the
-- next valid entry. If no valid entry follows, the counter returns to its state before the voided
-- entry, otherwise it keeps its state.
--
-- The energy of the steps to and from a voided (cancelled) entry is subtracted from the total
-- energy and from the energy by quarter hour. The energy of the direct step between the entry's
-- neighbors is added.
pub record GivesWay (voided : VoidedEntry) (facts : List Fact) (opening : Opening) : Type 0 where
  pub around : Around
  pub found : entry_at facts voided.meter voided.place ≡ Some (place_in facts opening around)
  pub entry : IsVoided (installed opening) (journal_of facts opening.meter) voided.place around
  pub installation : let before = installation_of facts opening in
      installation_of (fact.Void voided ∷ facts) opening ≡ record {
        opening = opening;
        last = if is_some around.next then before.last else last_before (opened opening) around;
        total = entry.steps.staying + energy_in (steps_put (installed opening) around);
        ended = before.ended;
      }
  pub rows : let change =
      changed_by voided.place around.next (last_before (opened opening) around) in
      rows_of (fact.Void voided ∷ facts) opening ≡ map change (rows_of facts opening)
  pub intervals : let out = all_shares (steps_out (installed opening) around) in
      let put = all_shares (steps_put (installed opening) around) in
      rows_of_opening (fact.Void voided ∷ facts) opening
      ≡ rows_until opening.at (installation_of (fact.Void voided ∷ facts) opening).last.at
      (with_each put (without_each out (rows_of_opening facts opening)))

-- Theorem: each void (cancellation) that the rules for adding records accept changes the state of
-- its meter as `GivesWay` states. The energy of the direct step between the voided entry's
-- neighbors replaces that of the steps to and from the entry.
abbrev pub VoidedEntriesGiveWay : Type 0
VoidedEntriesGiveWay = (voided : VoidedEntry) (facts : List Fact) (opening : Opening)
    → AreLawful (fact.Void voided ∷ facts) → opening_of facts voided.meter ≡ Some opening
    → GivesWay voided facts opening
