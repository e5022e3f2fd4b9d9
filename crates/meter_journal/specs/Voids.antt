-- Defines how the voiding (cancellation) of an entry changes a meter's state.
use Rattle.std.specs.Prelude.{◌≡◌, ℕ, ◌+◌, ◌==◌, ◌≤◌, nat_lt, Bool, false, List, [], ◌∷◌, ◌++◌, map, filter, sum_by, All, Option, Some, None, is_some, if◌then◌else◌}
use Rattle.std.specs.Option.{option_map}
use Rattle.energy_core.specs.declared.entries.Last.{Last}
use Rattle.energy_core.specs.declared.entries.Step.{Step}
use Rattle.energy_core.specs.Account.{after, last_of, step_to}
use Rattle.energy_core.specs.Laws.{IsShareable}
use Rattle.interval_core.specs.declared.shares.Share.{Share}
use Rattle.meter_journal.specs.declared.lines.Installed.{Installed}
use Rattle.meter_journal.specs.declared.lines.EntryRow.{EntryRow}
use Rattle.meter_journal.specs.Books.{IsWellInstalled, last_in, total_in, interval_rows}
use Rattle.meter_journal.specs.Intervals.{with_each, without_share, without_each, all_shares}
use Rattle.meter_journal.specs.Journal.{Voided, Journal, Around, entries_in, rolled, struck, rows_of, row_at}
use Rattle.meter_journal.specs.Fitting.{AreFitting}

-- The counter's state after the valid (not voided) entries before the row `around.row`.
abbrev pub last_before : (opening : Last) → Around → Last
last_before opening around = last_of opening (entries_in around.before)

-- True if `row` has the sequence number of the next valid (not voided) row `next`. False if no next
-- valid row exists.
abbrev pub is_next : (next : Option EntryRow) → EntryRow → Bool
is_next None row = false
is_next (Some next) row = row.place == next.place

-- The new state of a row when the entry with the sequence number `place` is voided (cancelled). The
-- voided entry's row is marked. The next valid row has the rollovers computed from the counter's
-- state `before`. All other rows are unchanged.
abbrev pub changed_by : (place : ℕ) → (next : Option EntryRow) → (before : Last) → EntryRow
    → EntryRow
changed_by place next before row =
    if row.place == place then struck row else if is_next next row then rolled before row else row

-- The step (the energy) from the counter's state `last` to the entry of a row, or no step if the
-- row is missing.
abbrev pub step_if : (range : ℕ) → Last → Option EntryRow → List Step
step_if range last None = []
step_if range last (Some row) = step_to range last row.entry ∷ []

-- The steps (energies between entries) that are removed when an entry is voided (cancelled): the
-- step to this entry, and the step to the next valid entry.
abbrev pub steps_out : Installed → Around → List Step
steps_out meter around =
    let before = last_before meter.opening around in
    step_if meter.range (after before around.row.entry) around.next
    ++ step_to meter.range before around.row.entry ∷ []

-- The step (the energy between two entries) that is added when an entry is voided (cancelled). The
-- step leads from the valid entry before the voided entry to the next valid entry, with updated
-- rollovers.
abbrev pub steps_put : Installed → Around → List Step
steps_put meter around =
    let before = last_before meter.opening around in step_if meter.range before
    (option_map (rolled before) around.next)

-- The sum of the energies of a list of steps (between consecutive entries), in mWh.
abbrev pub energy_in : List Step → ℕ
energy_in steps = sum_by (λ step. step.mwh) steps

-- The interval rows (energies by quarter hour) that begin before `last`, the time of the last valid
-- (not voided) entry. No row remains if the last entry is the opening (first) entry.
abbrev pub rows_until : (opened last : ℕ) → List Share → List Share
rows_until opened last rows =
    if last == opened then [] else filter (λ row. nat_lt row.start last) rows

-- States that the shares (energies of quarter hours) can be subtracted from the interval rows one
-- after another. Each row then has at least the energy that is subtracted from it.
abbrev pub AreTherein : (shares : List Share) → List Share → Type 0
AreTherein [] rows = Unit {0}
AreTherein (share ∷ shares) rows =
    All (λ row. row.start ≡ share.start → share.mwh ≤ row.mwh) rows
    × AreTherein shares (without_share share rows)

-- States that, when an entry is voided (cancelled), the energies of the steps to and from it are
-- removed. The energy of the step that then connects its neighbors is added. All other steps are
-- unchanged. Each removed or added step can be divided among its quarter hours.
pub record ExchangesSteps (meter : Installed) (lines : Journal) (place : ℕ) (around : Around) : Type
    0 where
  pub staying : ℕ
  pub before : total_in meter lines ≡ staying + energy_in (steps_out meter around)
  pub after : total_in meter (Voided place ∷ lines) ≡ staying + energy_in (steps_put meter around)
  pub out : All IsShareable (steps_out meter around)
  pub put : All IsShareable (steps_put meter around)

-- States how voiding (cancelling) an entry changes a meter's interval rows. The energies of
-- `steps_out` (the steps to and from the entry) are subtracted, and those of `steps_put` (the step
-- in their place) are added. Rows that no step touches any more are removed.
pub record ExchangesShares (meter : Installed) (lines : Journal) (place : ℕ) (around : Around) :
    Type 0 where
  pub therein : AreTherein (all_shares (steps_out meter around)) (interval_rows meter lines)
  pub intervals : let rest =
      without_each (all_shares (steps_out meter around)) (interval_rows meter lines) in
      interval_rows meter (Voided place ∷ lines)
      ≡ rows_until meter.opening.at (last_in meter (Voided place ∷ lines)).at
      (with_each (all_shares (steps_put meter around)) rest)

-- States how voiding (cancelling) the entry with the sequence number `place` changes a meter's
-- state. Only its row and the row of the next valid entry change. The last valid entry stays the
-- same unless it is the voided entry. In that case, the valid entry before the voided entry becomes
-- the last.
pub record IsVoided (meter : Installed) (lines : Journal) (place : ℕ) (around : Around) : Type 0
  where
    pub rows : rows_of meter.opening (Voided place ∷ lines)
        ≡ map (changed_by place around.next (last_before meter.opening around))
        (rows_of meter.opening lines)
    pub last : last_in meter (Voided place ∷ lines)
        ≡ (if is_some around.next then last_in meter lines else last_before meter.opening around)
    pub steps : ExchangesSteps meter lines place around
    pub shares : ExchangesShares meter lines place around

-- Theorem: each void (cancellation of an entry) that may follow a journal (history) changes only
-- the entry's row and the next valid row. The steps and the interval rows (energies by quarter
-- hour) change accordingly (`IsVoided`).
abbrev pub VoidsChangeTwoRows : Type 0
VoidsChangeTwoRows = (meter : Installed) (lines : Journal) (place : ℕ) (around : Around)
    → IsWellInstalled meter
    → AreFitting meter (Voided place ∷ lines)
    → row_at place (rows_of meter.opening lines) ≡ Some around
    → IsVoided meter lines place around
