-- The number of rejected readings of a meter in a range of days, by cause.
use Rattle.std.specs.Prelude.{ℕ, Bool, ◌&&◌, ◌==◌, List, [], ◌∷◌}
use Rattle.std.specs.List.{count_by}
use Rattle.energy_core.specs.declared.verdicts.Cause.{Cause}
use Rattle.energy_core.specs.declared.verdicts.Cause.TheVariants as cause
use Rattle.energy_core.specs.Verdict.{cause_number}
use Rattle.interval_core.specs.declared.day_range.DayRange.{DayRange}
use Rattle.interval_core.specs.declared.zone.Zone.{Zone}
use Rattle.interval_core.specs.Ranges.{has_moment}
use Rattle.office_events.specs.declared.facts.HeldReading.{HeldReading}
use Rattle.energy_report.specs.declared.held_counts.HeldCount.{HeldCount}
use Rattle.energy_report.specs.declared.held_counts.RejectedCounts.{RejectedCounts}
use Rattle.energy_report.specs.RowLines.{counted, one_more_if}

-- True if two causes of rejections are equal.
abbrev pub is_one : (one other : Cause) → Bool
is_one one other = cause_number one == cause_number other

-- True if the timestamp of a rejected reading is in the range of days, and the cause of the
-- rejection is `why`.
abbrev pub is_held_within : Zone → DayRange → (why : Cause) → HeldReading → Bool
is_held_within zone range why held = has_moment zone range held.at && is_one held.cause why

-- The number of readings that were rejected for the cause `why` and have a timestamp in the range
-- of days. The number saturates at 2^64 - 1.
abbrev pub held_for : Zone → DayRange → List HeldReading → (why : Cause) → ℕ
held_for zone range holds why = counted (count_by (is_held_within zone range why) holds)

-- The numbers of rejected readings of a meter with timestamps in the range of days, by cause.
abbrev pub held_within : Zone → DayRange → List HeldReading → RejectedCounts
held_within zone range holds = record {
  not_accumulated = held_for zone range holds cause.NotAccumulated;
  scale_changed = held_for zone range holds cause.ScaleChanged;
  not_later = held_for zone range holds cause.NotLater;
  span_too_long = held_for zone range holds cause.SpanTooLong;
  gap_too_long = held_for zone range holds cause.GapTooLong;
  too_fast = held_for zone range holds cause.TooFast;
  total_full = held_for zone range holds cause.TotalFull;
  not_below_range = held_for zone range holds cause.NotBelowRange;
}

-- Each cause for which readings are rejected, with the number of readings rejected for this cause,
-- in the order of the causes' numeric codes.
abbrev pub by_cause : RejectedCounts → List HeldCount
by_cause counts =
    record { cause = cause.NotAccumulated; count = counts.not_accumulated }
    ∷ record { cause = cause.ScaleChanged; count = counts.scale_changed }
    ∷ record { cause = cause.NotLater; count = counts.not_later }
    ∷ record { cause = cause.SpanTooLong; count = counts.span_too_long }
    ∷ record { cause = cause.GapTooLong; count = counts.gap_too_long }
    ∷ record { cause = cause.TooFast; count = counts.too_fast }
    ∷ record { cause = cause.TotalFull; count = counts.total_full }
    ∷ record { cause = cause.NotBelowRange; count = counts.not_below_range }
    ∷ []

-- The counts of rejected readings before any reading was rejected, which are all 0.
abbrev pub none_held : RejectedCounts
none_held = record {
  not_accumulated = 0;
  scale_changed = 0;
  not_later = 0;
  span_too_long = 0;
  gap_too_long = 0;
  too_fast = 0;
  total_full = 0;
  not_below_range = 0;
}

-- The counts of rejected readings after one more reading, which was rejected for the cause `why`.
-- If `counts` is true, the count for this cause grows by one. The other counts are unchanged.
abbrev pub with_one : RejectedCounts → (counts : Bool) → (why : Cause) → RejectedCounts
with_one old counts why = record {
  not_accumulated = one_more_if (counts && is_one why cause.NotAccumulated) old.not_accumulated;
  scale_changed = one_more_if (counts && is_one why cause.ScaleChanged) old.scale_changed;
  not_later = one_more_if (counts && is_one why cause.NotLater) old.not_later;
  span_too_long = one_more_if (counts && is_one why cause.SpanTooLong) old.span_too_long;
  gap_too_long = one_more_if (counts && is_one why cause.GapTooLong) old.gap_too_long;
  too_fast = one_more_if (counts && is_one why cause.TooFast) old.too_fast;
  total_full = one_more_if (counts && is_one why cause.TotalFull) old.total_full;
  not_below_range = one_more_if (counts && is_one why cause.NotBelowRange) old.not_below_range;
}
