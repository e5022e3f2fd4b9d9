-- Defines which changes voiding (cancelling) an entry makes to its meter. The changes follow from
-- the nearest entries before and after it that are not voided.
use Rattle.std.specs.Prelude.{◌≡◌, ℕ, ◌+◌, ◌<◌, ◌≤◌, ◌==◌, Bool, Option, Some, None, IfSome, is_none, if◌then◌else◌}
use Rattle.energy_core.specs.declared.limits.TheConstants.{MAX_INTERVALS}
use Rattle.energy_core.specs.declared.entries.Entry.{Entry}
use Rattle.energy_core.specs.declared.entries.Entry.TheVariants as entry
use Rattle.energy_core.specs.declared.entries.Last.{Last}
use Rattle.energy_core.specs.declared.entries.Step.{Step}
use Rattle.energy_core.specs.Account.{intervals_touched, step_to}
use Rattle.meter_journal.specs.Journal.{with_rolls}
use Rattle.store_tables.specs.Limits.{greatest_place, latest_moment}
use Rattle.store_tables.specs.Meters.Rows.{IsSoundLast, greatest_total}
use Rattle.store_tables.specs.declared.meters.rows.LastRow.{LastRow}
use Rattle.store_tables.specs.declared.entries.rows.EntryRow.{EntryRow}
use Rattle.store_tables.specs.declared.entries.rows.EntryKind.TheVariants as kind
use Rattle.office_store.specs.Rows.{counter_after, rolls_of}
use Rattle.office_store.specs.declared.bookings.corrections.Correction.{Correction}
use Rattle.office_store.specs.declared.bookings.corrections.Rejoined.{Rejoined}
use Rattle.office_store.specs.declared.bookings.surroundings.Surroundings.{Surroundings}
use Rattle.office_store.specs.Bookings.MeterState.{counter_of, stands_at}

-- True if a row of `entries` encodes a reading, and `e` is this reading in the meter's history.
pub record IsReadingOf (row : EntryRow) (e : Entry) : Type 0 where
  pub kind : row.kind ≡ kind.Reading
  pub step : e ≡ entry.Step row.moment row.raw row.rolls

-- True if the tables allow a step (the energy between two meter entries): its time, its length and
-- its energy are in their ranges.
pub record CanBeShared (step : Step) : Type 0 where
  pub forward : step.from < step.till
  pub intervals : intervals_touched step.from step.till ≤ MAX_INTERVALS
  pub energy : step.mwh ≤ greatest_total
  pub till : step.till ≤ latest_moment

-- True if the tables can store the new counter rollovers and energies of the entry after a voided
-- (cancelled) entry: each value is in the range of its column.
pub record CanBeRejoined (joined : Rejoined) : Type 0 where
  pub place : joined.rollover.place ≤ greatest_place
  pub out : CanBeShared joined.out
  pub put : CanBeShared joined.put

-- True if the values in a correction (the changes that voiding a false reading makes) are in the
-- ranges of the tables.
pub record CanBeBooked (made : Correction) : Type 0 where
  pub out : CanBeShared made.out
  pub next : IfSome made.next CanBeRejoined
  pub last : IsSoundLast made.last
  pub from : made.from ≤ latest_moment

-- True if `joined` has the new counter rollovers and energies of the entry after a voided
-- (cancelled) entry. The rollovers are counted from the counter's state before the voided entry.
pub record Rejoins (range : ℕ) (before voided : Last) (next : EntryRow) (joined : Rejoined) : Type 0
  where
    pub entry : Entry
    pub reading : IsReadingOf next entry
    pub rollover : joined.rollover
        ≡ record { place = next.place; rolls = rolls_of (with_rolls before entry) }
    pub out : joined.out ≡ step_to range voided entry
    pub put : joined.put ≡ step_to range before (with_rolls before entry)

-- True if `joined` has the new counter rollovers and energies of the entry after a voided
-- (cancelled) entry, or is None if no entry follows.
abbrev pub RejoinsNext : (range : ℕ) → (before voided : Last) → Option EntryRow → Option Rejoined
    → Type 0
RejoinsNext range before voided None joined = joined ≡ None
RejoinsNext range before voided (Some next) None = ⊥
RejoinsNext range before voided (Some next) (Some joined) = Rejoins range before voided next joined

-- The energy in mWh that is subtracted when an entry is voided (cancelled). It consists of the
-- energy from the previous entry to this entry, and from this entry to the next entry, if any.
abbrev pub energy_out : Step → Option Rejoined → ℕ
energy_out out None = out.mwh
energy_out out (Some joined) = joined.out.mwh + out.mwh

-- The energy in mWh between the entries before and after a voided (cancelled) entry, which voiding
-- adds. 0 if no entry follows.
abbrev pub energy_put : Option Rejoined → ℕ
energy_put None = 0
energy_put (Some joined) = joined.put.mwh

-- True if `last` has the meter's last entry and total energy after an entry was voided (cancelled).
-- If the voided entry was the meter's last, the entry before it becomes the last entry.
abbrev pub StandsAt : Surroundings → (before : Last) → (total : ℕ) → (is_last : Bool) → LastRow
    → Type 0
StandsAt found before total is_last last =
    last ≡ stands_at (if is_last then before else counter_of found.standing.last) total

-- The time from which a meter's rows of `intervals` are deleted when an entry is voided
-- (cancelled). It is the time of the meter's last entry, or 0 if only the opening (the first entry)
-- remains.
abbrev pub gone_from : (opened last : ℕ) → ℕ
gone_from opened last = if last == opened then 0 else last

-- True if `made` has the changes that voiding (cancelling) a meter entry makes. `found` has this
-- entry, the entries before and after it, and the meter's state.
pub record Corrects (found : Surroundings) (made : Correction) : Type 0 where
  pub entry : Entry
  pub reading : IsReadingOf found.near.entry entry
  pub out : made.out
      ≡ step_to found.standing.range (counter_after found.near.before) entry
  pub next : RejoinsNext found.standing.range (counter_after found.near.before)
      (counter_after found.near.entry) found.near.next made.next
  pub total : ℕ
  pub sum : total + energy_out made.out made.next
      ≡ found.standing.last.total + energy_put made.next
  pub last : StandsAt found (counter_after found.near.before) total (is_none made.next) made.last
  pub from : made.from ≡ gone_from found.opened made.last.moment
