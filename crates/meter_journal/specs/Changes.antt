-- Defines how a new line of a meter's journal (history) changes the meter's state.
use Rattle.std.specs.Prelude.{◌≡◌, ℕ, ◌+◌, ◌%◌, ◌<◌, ◌≤◌, List, ◌∷◌, All, Some, Ok}
use Rattle.energy_core.specs.declared.entries.Entry.{Entry}
use Rattle.energy_core.specs.declared.entries.Step.{Step}
use Rattle.energy_core.specs.declared.limits.TheConstants.{INTERVAL_SECONDS}
use Rattle.energy_core.specs.Account.{after, energy_of, step_to}
use Rattle.energy_core.specs.Admission.{entered}
use Rattle.energy_core.specs.Laws.{IsSound}
use Rattle.interval_core.specs.declared.shares.Share.{Share}
use Rattle.interval_core.specs.Share.{shares_of}
use Rattle.interval_core.specs.Account.{energy_of as energy_in_rows}
use Rattle.meter_journal.specs.declared.lines.Installed.{Installed}
use Rattle.meter_journal.specs.declared.lines.EntryKind.{EntryKind}
use Rattle.meter_journal.specs.Books.{IsWellInstalled, HasAccount, last_after, total_after, last_in, total_in, interval_rows}
use Rattle.meter_journal.specs.Intervals.{with_shares, with_each, without_each}
use Rattle.meter_journal.specs.Journal.{Entered, Voided, Journal, Around, entries_in, rows_of, row_at}
use Rattle.meter_journal.specs.Lists.{MayGoOn}
use Rattle.meter_journal.specs.Fitting.{AreFitting}

-- States that the quarter hour of an interval row overlaps the time from the meter's opening entry,
-- which installed the meter, to its last entry. The last entry is later than the opening entry.
pub record LiesWithin (opened last : ℕ) (row : Share) : Type 0 where
  pub quarter : row.start % INTERVAL_SECONDS ≡ 0
  pub following : opened < row.start + INTERVAL_SECONDS
  pub before : row.start < last
  pub gone_on : opened < last

-- Theorem: the quarter hour of each interval row in a meter's journal (history) overlaps the time
-- from the opening (first) entry to the last valid (not voided) entry.
abbrev pub RowsLieWithin : Type 0
RowsLieWithin = (meter : Installed) (lines : Journal) → IsWellInstalled meter
    → AreFitting meter lines
    → All (LiesWithin meter.opening.at (last_in meter lines).at) (interval_rows meter lines)

-- Theorem: voiding (cancelling) an entry never makes the time of the last valid entry later.
abbrev pub VoidsGoNoFurther : Type 0
VoidsGoNoFurther = (meter : Installed) (lines : Journal) (place : ℕ) → IsWellInstalled meter
    → AreFitting meter (Voided place ∷ lines)
    → (last_in meter (Voided place ∷ lines)).at ≤ (last_in meter lines).at

-- The step (the energy) from the last valid (not voided) entry of a meter's journal (history) to a
-- new entry.
abbrev pub step_on : Installed → Journal → Entry → Step
step_on meter lines e = step_to meter.range (last_in meter lines) e

-- States how a new entry that is added to a meter's journal (history) changes the meter's state.
-- The new entry is the last valid (not voided) entry, and the energy grows by the step to it. The
-- step's energy is split into shares, one for each quarter hour. The fields `joined` and `added`
-- state two ways to add the shares to the interval rows.
pub record ContinuesJournal (meter : Installed) (lines : Journal) (k : EntryKind) (e : Entry) :
    Type 0 where
  pub may : MayGoOn meter (last_in meter lines) (total_in meter lines) e
  pub booked : entered meter.range (total_in meter lines) (last_in meter lines) e
      ≡ Ok (last_in meter (Entered k e ∷ lines), step_on meter lines e)
  pub last : last_in meter (Entered k e ∷ lines) ≡ after (last_in meter lines) e
  pub total : total_in meter (Entered k e ∷ lines)
      ≡ total_in meter lines + energy_of meter.range (last_in meter lines) e
  pub joined : interval_rows meter (Entered k e ∷ lines)
      ≡ with_shares (interval_rows meter lines) (shares_of (step_on meter lines e))
  pub added : interval_rows meter (Entered k e ∷ lines)
      ≡ with_each (shares_of (step_on meter lines e)) (interval_rows meter lines)

-- Theorem: a new entry that the rules for meter entries accept becomes the last valid (not voided)
-- entry. The energy and the interval rows grow by the step (the energy) to the entry
-- (`ContinuesJournal`).
abbrev pub EntriesGoOn : Type 0
EntriesGoOn = (meter : Installed) (lines : Journal) (k : EntryKind) (e : Entry)
    → IsWellInstalled meter
    → AreFitting meter (Entered k e ∷ lines) → ContinuesJournal meter lines k e

-- States that adding shares (energies of single quarter hours) to interval rows increases the
-- energy of the rows by that of the shares. Subtracting shares never increases the energy of the
-- rows.
pub record MoveEnergy (shares rows : List Share) : Type 0 where
  pub added : energy_in_rows (with_each shares rows) ≡ energy_in_rows rows + energy_in_rows shares
  pub taken : energy_in_rows (without_each shares rows) ≤ energy_in_rows rows

-- Theorem: adding shares (energies of quarter hours) to interval rows increases the energy of the
-- rows by that of the shares. Subtracting shares never increases it (`MoveEnergy`).
abbrev pub SharesMoveEnergy : Type 0
SharesMoveEnergy = (shares rows : List Share) → MoveEnergy shares rows

-- States that the valid (not voided) entries before the row `around.row` of a meter's journal
-- (history) obey the rules (`HasAccount`). The energies of the steps between these entries add up
-- to their total energy (`IsSound`).
pub record WasKept (meter : Installed) (around : Around) : Type 0 where
  pub account : HasAccount meter (entries_in around.before)
  pub sound : let es = entries_in around.before in
      IsSound meter.range meter.opening es (last_after meter es) (total_after meter es)

-- Theorem: the valid (not voided) entries before any row of a meter's journal (history) obey the
-- rules (`HasAccount`). The energies of the steps between these entries add up to their total
-- energy.
abbrev pub PlacesWereKept : Type 0
PlacesWereKept = (meter : Installed) (lines : Journal) (place : ℕ) (around : Around)
    → IsWellInstalled meter
    → AreFitting meter lines → row_at place (rows_of meter.opening lines) ≡ Some around
    → WasKept meter around
