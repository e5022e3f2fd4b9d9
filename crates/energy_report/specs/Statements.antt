-- The statement (billing report) of a meter for a range of days. The statement has the counter's
-- state at the first and the last entry, the number of corrections, and the energy.
use Rattle.std.specs.Prelude.{ℕ, ℤ, int_lt, ◌-◌, ◌^◌, min, Bool, true, false, not, ◌&&◌, ◌||◌, List, filter, reverse, sum_by, Option, Some, None, if◌then◌else◌}
use Rattle.std.specs.List.{count_by, find}
use Rattle.std.specs.Option.{option_map}
use Rattle.jiff_core.specs.declared.civil.date.Date.{Date}
use Rattle.energy_core.specs.declared.entries.Entry.{Entry}
use Rattle.energy_core.specs.declared.entries.Entry.TheVariants as step
use Rattle.energy_core.specs.declared.entries.Last.{Last}
use Rattle.energy_core.specs.declared.limits.TheConstants.{MAX_SCALE, MIN_SCALE}
use Rattle.energy_core.specs.Value.{value_of}
use Rattle.interval_core.specs.declared.shares.Share.{Share}
use Rattle.interval_core.specs.declared.zone.Zone.{Zone}
use Rattle.meter_journal.specs.declared.lines.EntryKind.{EntryKind}
use Rattle.meter_journal.specs.declared.lines.EntryKind.TheVariants as kind
use Rattle.office_books.specs.declared.entries.MeterEntry.{MeterEntry}
use Rattle.office_books.specs.declared.entries.MeterEntry.TheVariants as entry
use Rattle.office_events.specs.declared.questions.Installation.{Installation}
use Rattle.interval_core.specs.declared.day_range.DayRange.{DayRange}
use Rattle.energy_report.specs.declared.tallies.EntryTally.{EntryTally}
use Rattle.interval_core.specs.Ranges.{ends_after, has_moment}
use Rattle.energy_report.specs.RowLines.{counted}

-- The state of a meter's counter after an entry. `sf` is the scale factor after the entry.
abbrev pub stand_after : Entry → (sf : ℤ) → Last
stand_after (step.Step at raw rolls) sf = record { at = at; raw = raw; sf = sf }
stand_after (step.Change at before after set) sf = record { at = at; raw = after; sf = sf }

-- The state of the counter after an entry of a meter, which may be the opening (first) entry.
abbrev pub counter_after_entry : MeterEntry → Last
counter_after_entry (entry.Opening last) = last
counter_after_entry (entry.Later row sf) = stand_after row.entry sf

-- True if an entry is valid, which means that the entry was not voided (cancelled). An opening
-- (first) entry is always valid.
abbrev pub stands : MeterEntry → Bool
stands (entry.Opening last) = true
stands (entry.Later row sf) = row.stands

-- True if the kind of an entry is a reading by hand.
abbrev pub is_manual : EntryKind → Bool
is_manual kind.Manual = true
is_manual _ = false

-- True if the kind of an entry is a reset of the counter.
abbrev pub is_reset : EntryKind → Bool
is_reset kind.Reset = true
is_reset _ = false

-- True if the kind of an entry is a rescale (a change of the counter's scale factor).
abbrev pub is_rescale : EntryKind → Bool
is_rescale kind.Rescale = true
is_rescale _ = false

-- True if the kind of an entry is a closing (the last entry of a meter).
abbrev pub is_closing : EntryKind → Bool
is_closing kind.Closing = true
is_closing _ = false

-- True if the kind of a meter entry passes the test `is`. False for an opening (first) entry.
abbrev pub has_kind : (EntryKind → Bool) → MeterEntry → Bool
has_kind is (entry.Opening last) = false
has_kind is (entry.Later row sf) = is row.kind

-- True if a meter entry is the opening (first entry) of the meter.
abbrev pub is_opening : MeterEntry → Bool
is_opening (entry.Opening last) = true
is_opening (entry.Later row sf) = false

-- True if the timestamp of a meter entry is in the range of days.
abbrev pub is_within : Zone → DayRange → MeterEntry → Bool
is_within zone range e = has_moment zone range (counter_after_entry e).at

-- True if a meter entry is valid (not voided) and its timestamp is in the range of days.
abbrev pub stands_within : Zone → DayRange → MeterEntry → Bool
stands_within zone range e = is_within zone range e && stands e

-- True if a meter entry is valid (not voided), its timestamp is in the range, and its kind passes
-- the test `is`.
abbrev pub is_corrected : Zone → DayRange → (EntryKind → Bool) → MeterEntry → Bool
is_corrected zone range is e = stands_within zone range e && has_kind is e

-- True if a meter entry is an opening (first entry) and its timestamp is in the range of days.
abbrev pub opens_within : Zone → DayRange → MeterEntry → Bool
opens_within zone range e = stands_within zone range e && is_opening e

-- True if a meter entry is voided (cancelled) and its timestamp is in the range of days.
abbrev pub is_voided : Zone → DayRange → MeterEntry → Bool
is_voided zone range e = is_within zone range e && not (stands e)

-- The number of entries that pass the test `does`. The number saturates at 2^64 - 1.
abbrev pub count_of : (MeterEntry → Bool) → List MeterEntry → ℕ
count_of does entries = counted (count_by does entries)

-- The tally of a meter's entries in a range of days: the counter's state after the first and after
-- the last valid entry, and the numbers of corrections, openings and closings. A voided (cancelled)
-- entry counts if its own timestamp is in the range, whenever it was voided.
abbrev pub tally_of : Zone → DayRange → List MeterEntry → EntryTally
tally_of zone range entries = record {
  first = option_map counter_after_entry (find (stands_within zone range) entries);
  last = option_map counter_after_entry (find (stands_within zone range) (reverse entries));
  by_hand = count_of (is_corrected zone range is_manual) entries;
  resets = count_of (is_corrected zone range is_reset) entries;
  rescales = count_of (is_corrected zone range is_rescale) entries;
  voids = count_of (is_voided zone range) entries;
  openings = count_of (opens_within zone range) entries;
  closings = count_of (is_corrected zone range is_closing) entries;
}

-- The energy in mWh of the quarter hours that start in the range of days. The sum saturates at
-- 2^128 - 1.
abbrev pub energy_within : Zone → DayRange → List Share → ℕ
energy_within zone range rows =
    min (sum_by (λ row. row.mwh) (filter (λ row. has_moment zone range row.start) rows))
    (2 ^ 128 - 1)

-- The energy in mWh that the state of a counter shows, or 0 if its scale factor is out of range. No
-- recorded state has such a scale factor.
abbrev pub worth_of : Last → ℕ
worth_of last =
    if int_lt last.sf MIN_SCALE || int_lt MAX_SCALE last.sf then 0 else value_of last

-- True if the first day `from` of a range is before the end `till`, or if one of these bounds is
-- `None`, which means no bound.
abbrev pub begins_before : (from till : Option Date) → Bool
begins_before None till = true
begins_before (Some from) till = ends_after till from

-- True if the first day of a range is before its end, so that the range contains at least one day.
-- Also true if the range lacks one of these bounds.
abbrev pub has_a_day : DayRange → Bool
has_a_day range = begins_before range.from range.till

-- True if a meter was installed on at least one day in a range, by the clocks of the time zone.
-- This means that the range contains a day, and that the meter was installed before the end of the
-- range, and was not closed before the beginning of the range.
abbrev pub was_installed : Zone → DayRange → Installation → Bool
was_installed zone range row =
    has_a_day range
    && has_moment zone (record { from = None; till = range.till }) row.opening.at
    && (not row.ended || has_moment zone (record { from = range.from; till = None }) row.last.at)
