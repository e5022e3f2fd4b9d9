-- The state of a meter after a list of entries, and after a journal (its history).
use Rattle.std.specs.Prelude.{ℕ, ◌<◌, List}
use Rattle.energy_core.specs.declared.entries.Last.{Last}
use Rattle.energy_core.specs.declared.entries.Step.{Step}
use Rattle.energy_core.specs.declared.entries.Entry.{Entry}
use Rattle.energy_core.specs.declared.verdicts.Reading.{Reading}
use Rattle.energy_core.specs.declared.verdicts.Verdict.{Verdict}
use Rattle.energy_core.specs.Account.{last_of, whole_energy, steps_of, IsScale, IsAccount}
use Rattle.energy_core.specs.Readings.{verdict_on}
use Rattle.interval_core.specs.declared.shares.Share.{Share}
use Rattle.meter_journal.specs.declared.lines.Installed.{Installed}
use Rattle.meter_journal.specs.Journal.{Journal, entries_of}
use Rattle.meter_journal.specs.Intervals.{rows_of_steps}

-- States that the opening (first) entry of the meter has a count that the counter can show, and a
-- scale factor from -3 to 3.
pub record IsWellInstalled (meter : Installed) : Type 0 where
  pub raw : meter.opening.raw < meter.range
  pub scale : IsScale meter.opening.sf

-- The counter's state after the opening (first) entry of a meter and a list of entries.
abbrev pub last_after : Installed → List Entry → Last
last_after meter es = last_of meter.opening es

-- The total energy in mWh of a meter with a list of entries.
abbrev pub total_after : Installed → List Entry → ℕ
total_after meter es = whole_energy meter.range meter.opening es

-- The steps (energies) between consecutive entries of a meter. The latest step comes first.
abbrev pub steps_after : Installed → List Entry → List Step
steps_after meter es = steps_of meter.range meter.opening es

-- The verdict (accepted or rejected) of the rules for readings on a reading of a meter after a list
-- of entries.
abbrev pub verdict_after : Installed → List Entry → Reading → Verdict
verdict_after meter es reading = verdict_on meter.range meter.ceiling meter.opening es reading

-- States that the entries of a meter obey the rules: each entry may follow the entries before it,
-- and the total energy is within its limit.
abbrev pub HasAccount : Installed → List Entry → Type 0
HasAccount meter es =
    IsAccount meter.range meter.opening es (last_after meter es) (total_after meter es)

-- The counter's state after the last valid (not voided) entry of a meter's journal (history).
abbrev pub last_in : Installed → Journal → Last
last_in meter lines = last_after meter (entries_of meter.opening lines)

-- The energy in mWh of the valid (not voided) entries of a meter's journal (history).
abbrev pub total_in : Installed → Journal → ℕ
total_in meter lines = total_after meter (entries_of meter.opening lines)

-- The steps (energies) between the valid (not voided) entries of a meter's journal (history). The
-- latest step comes first.
abbrev pub steps_in : Installed → Journal → List Step
steps_in meter lines = steps_after meter (entries_of meter.opening lines)

-- The energy by quarter hour of the valid (not voided) entries of a meter's journal (history).
abbrev pub interval_rows : Installed → Journal → List Share
interval_rows meter lines = rows_of_steps (steps_in meter lines)
