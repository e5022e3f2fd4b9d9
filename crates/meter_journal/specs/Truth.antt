-- Defines journals (histories) whose readings come from an honest meter. Its true counts over time
-- are a true run, whose items are pairs of a time and a true count.
use Rattle.std.specs.Prelude.{◌≡◌, ℕ, ℤ, ◌≤◌, ◌%◌, nat_le, true, List, [], ◌∷◌, map, Option, Some, None, if◌then◌else◌}
use Rattle.std.specs.List.{filter_map, cons_option}
use Rattle.energy_core.specs.declared.entries.Last.{Last}
use Rattle.energy_core.specs.declared.entries.Entry.{Entry}
use Rattle.energy_core.specs.declared.entries.Entry.TheVariants as entry
use Rattle.energy_core.specs.declared.verdicts.Reading.{Reading}
use Rattle.energy_core.specs.declared.limits.TheConstants.{INTERVAL_SECONDS}
use Rattle.energy_core.specs.TrueRun.{Item, shown, reported, newest, advance, true_steps, IsTrueRun, IsReadOftenEnough}
use Rattle.meter_journal.specs.declared.lines.Installed.{Installed}
use Rattle.meter_journal.specs.Books.{total_in, steps_in, interval_rows}
use Rattle.meter_journal.specs.Intervals.{energy_before}
use Rattle.meter_journal.specs.Journal.{Entered, Held, Voided, Journal, is_reading, entries_of}

-- The time and count of a `Step` entry (with one count) as a reading with the scale factor `sf`. A
-- `Change` (a reset or a rescale) has no reading (`None`).
abbrev pub reading_by : ℤ → Entry → Option Reading
reading_by sf (entry.Step at raw rolls) = Some (record { at = at; raw = raw; sf = sf })
reading_by sf (entry.Change at before after new) = None

-- The readings that were valid directly after the last void (cancellation), followed by all later
-- readings, including rejected readings. The latest reading comes first.
abbrev pub latest_readings : (opening : Last) → Journal → List Reading
latest_readings opening [] = []
latest_readings opening (Entered k e ∷ lines) =
    cons_option (reading_by opening.sf e) (latest_readings opening lines)
latest_readings opening (Held reading cause ∷ lines) = reading ∷ latest_readings opening lines
latest_readings opening (Voided place ∷ lines) =
    filter_map (reading_by opening.sf) (entries_of opening (Voided place ∷ lines))

-- The readings that were rejected after the last void (cancellation of an entry) in a meter's
-- journal (history).
abbrev pub held_since : Journal → List Reading
held_since [] = []
held_since (Entered k e ∷ lines) = held_since lines
held_since (Held reading cause ∷ lines) = reading ∷ held_since lines
held_since (Voided place ∷ lines) = []

-- States that each entry of the meter's journal (history) is an accepted reading. The journal may
-- also contain rejected readings and voids (cancellations).
abbrev pub AreReadings : Journal → Type 0
AreReadings [] = Unit {0}
AreReadings (Entered k e ∷ lines) = (is_reading k ≡ true) × AreReadings lines
AreReadings (Held reading cause ∷ lines) = AreReadings lines
AreReadings (Voided place ∷ lines) = AreReadings lines

-- States that the readings of the journal (history) are those of an honest meter that is polled
-- often enough (a true run). The opening (first) entry, the readings that were valid directly after
-- the last void (cancellation), and all later readings are the items of the run.
pub record ShowsTrueRun (meter : Installed) (lines : Journal) (first : Item) (items : List Item) :
    Type 0 where
  pub readings_alone : AreReadings lines
  pub opened : meter.opening ≡ shown meter.range meter.opening.sf first
  pub readings : latest_readings meter.opening lines ≡ map (reported meter.range meter.opening.sf) items
  pub true_run : IsTrueRun meter.ceiling meter.opening.sf first items
  pub often : IsReadOftenEnough meter.range meter.ceiling meter.opening.sf first items

-- The true energy up to the last item (a time and a true count) of a run at or before the time
-- `bound`. It is 0 without such an item.
abbrev pub advance_to : ℤ → Item → List Item → (bound : ℕ) → ℕ
advance_to sf first [] bound = 0
advance_to sf first (item ∷ items) bound =
    if nat_le item.at bound then advance sf first item else advance_to sf first items bound

-- The true energy from the item `first` (a time and a true count) to the first of the given items
-- at or after the time `bound`. Without such an item, it is the energy to the latest item.
abbrev pub advance_past : ℤ → Item → List Item → (bound : ℕ) → ℕ
advance_past sf first [] bound = 0
advance_past sf first (item ∷ items) bound =
    if nat_le bound (newest first items).at then advance_past sf first items bound
    else advance sf first item

-- States that the meter's journal (history) records the true energy of a run (a list of items, each
-- a time and a true count). No reading after the last void (cancellation) was rejected, and the
-- steps and the total energy are the true ones. The energy before an interval's start lies between
-- the true energies at the two items around this start.
pub record IsKeptTruly (meter : Installed) (lines : Journal) (first : Item) (items : List Item) :
    Type 0 where
  pub none_held : held_since lines ≡ []
  pub steps : steps_in meter lines ≡ true_steps meter.opening.sf first items
  pub energy : total_in meter lines ≡ advance meter.opening.sf first (newest first items)
  pub no_less : (bound : ℕ) → bound % INTERVAL_SECONDS ≡ 0
      → advance_to meter.opening.sf first items bound
      ≤ energy_before bound (interval_rows meter lines)
  pub no_more : (bound : ℕ) → bound % INTERVAL_SECONDS ≡ 0
      → energy_before bound (interval_rows meter lines)
      ≤ advance_past meter.opening.sf first items bound
