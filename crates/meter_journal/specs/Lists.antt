-- Definitions on the entry rows of a meter in a list that begins with the oldest row.
use Rattle.std.specs.Prelude.{◌≡◌, ℕ, ◌+◌, ◌≤◌, ◌<◌, List, [], ◌∷◌, reverse, take, length, Option, Some, None, if◌then◌else◌}
use Rattle.energy_core.specs.declared.limits.TheConstants.{MAX_TOTAL}
use Rattle.energy_core.specs.declared.entries.Last.{Last}
use Rattle.energy_core.specs.declared.entries.Entry.{Entry}
use Rattle.energy_core.specs.declared.entries.Step.{Step}
use Rattle.energy_core.specs.Account.{after, energy_of, step_to, IsScale, Follows}
use Rattle.meter_journal.specs.declared.lines.Installed.{Installed}
use Rattle.meter_journal.specs.declared.lines.EntryRow.{EntryRow}
use Rattle.meter_journal.specs.declared.rows.FoundRow.{FoundRow}
use Rattle.meter_journal.specs.Journal.{rolled, row_at}

-- The rows of a list in reverse order, so that the latest row comes first.
abbrev pub latest_first : List EntryRow → List EntryRow
latest_first rows = reverse rows

-- States that the rows, the latest first, have consecutive sequence numbers. The oldest row has
-- number 2, because the opening (first) entry has number 1.
abbrev pub AreNumbered : List EntryRow → Type 0
AreNumbered [] = Unit {0}
AreNumbered (row ∷ rows) = (row.place ≡ length rows + 2) × AreNumbered rows

-- The counter's state after a row, given the state `last` before the row. A voided (cancelled) row
-- leaves the state unchanged.
abbrev pub following : Last → EntryRow → Last
following last row = if row.stands then after last row.entry else last

-- The step (the energy) from the counter's state `last` to the entry of a row. A voided (cancelled)
-- row has no step (`None`).
abbrev pub step_past : (range : ℕ) → Last → EntryRow → Option Step
step_past range last row = if row.stands then Some (step_to range last row.entry) else None

-- The energy in mWh from the counter's state `last` to the entry of a row. A voided (cancelled) row
-- has energy 0.
abbrev pub energy_past : (range : ℕ) → Last → EntryRow → ℕ
energy_past range last row = if row.stands then energy_of range last row.entry else 0

-- The rows of a meter's journal (its history), the oldest first. The rollovers of each valid (not
-- voided) reading are computed from the valid entry before it.
abbrev pub rolled_on : Last → List EntryRow → List EntryRow
rolled_on last [] = []
rolled_on last (row ∷ rows) = let next = rolled last row in next ∷ rolled_on (following last next) rows

-- States that the rules for meter entries allow the entry after the counter's state `last`, and
-- that the total energy including the entry stays within its limit.
pub record MayGoOn (meter : Installed) (last : Last) (total : ℕ) (e : Entry) : Type 0 where
  pub booked : total ≤ MAX_TOTAL
  pub raw : last.raw < meter.range
  pub scale : IsScale last.sf
  pub follows : Follows meter.range last e
  pub within : total + energy_of meter.range last e ≤ MAX_TOTAL

-- States that `found` is the row with the sequence number `place` in a list, together with the rows
-- before it and the next valid (not voided) row.
abbrev pub IsFound : List EntryRow → (place : ℕ) → FoundRow → Type 0
IsFound rows place found =
    row_at place (latest_first rows)
    ≡ Some (record
    { before = latest_first (take found.index rows); row = found.row; next = found.next })
