-- Definitions of ranges of civil days, and of the days that are in a range.
use Rattle.std.specs.Prelude.{ℕ, ℤ, nat_le, Bool, true, false, not, ◌&&◌, Option, Some, None, List, filter}
use Rattle.std.specs.Ordering.{int_cmp, is_le, is_lt}
use Rattle.jiff_core.specs.declared.civil.date.Date.{Date}
use Rattle.jiff.specs.Words.{epoch_day}
use Rattle.interval_core.specs.Zone.{day_at}
use Rattle.interval_core.specs.declared.limits.TheConstants.{LAST_MOMENT}
use Rattle.interval_core.specs.declared.totals.DayTotal.{DayTotal}
use Rattle.interval_core.specs.declared.zone.Zone.{Zone}
use Rattle.interval_core.specs.declared.day_range.DayRange.{DayRange}

-- True if a day is not before `from`, the first day of a range. `None` means a range without a
-- first day.
abbrev pub begins_by : (from : Option Date) → Date → Bool
begins_by None day = true
begins_by (Some from) day = is_le (int_cmp (epoch_day from) (epoch_day day))

-- True if a day is before `till`, the end of a range. `None` means a range without an end.
abbrev pub ends_after : (till : Option Date) → Date → Bool
ends_after None day = true
ends_after (Some till) day = is_lt (int_cmp (epoch_day day) (epoch_day till))

-- True if a civil day is in a range of days: not before its first day, and before its end. Each of
-- these two limits may be missing.
abbrev pub is_in : DayRange → Date → Bool
is_in range day = begins_by range.from day && ends_after range.till day

-- The range of all civil days.
abbrev pub all_days : DayRange
all_days = record { from = None; till = None }

-- True if both bounds of a range of days exist, and the end is before the first day.
abbrev pub ends_before : (from till : Option Date) → Bool
ends_before from None = false
ends_before from (Some till) = not (begins_by from till)

-- True if the end of a range of days is before its first day.
abbrev pub is_backward : DayRange → Bool
is_backward range = ends_before range.from range.till

-- The energies of the civil days in a list that are in the range, in the order of the list.
abbrev pub days_in : DayRange → List DayTotal → List DayTotal
days_in range days = filter (λ total. is_in range total.day) days

-- True if a day, given as the number of days since 1970-01-01, is not before `from`. `None` means a
-- range without a first day.
abbrev pub begins_by_number : (from : Option Date) → ℤ → Bool
begins_by_number None day = true
begins_by_number (Some from) day = is_le (int_cmp (epoch_day from) day)

-- True if a day, given as the number of days since 1970-01-01, is before `till`. `None` means a
-- range without an end.
abbrev pub ends_after_number : (till : Option Date) → ℤ → Bool
ends_after_number None day = true
ends_after_number (Some till) day = is_lt (int_cmp day (epoch_day till))

-- True if a day, given as the number of days since 1970-01-01, is in the range.
abbrev pub has_day : DayRange → ℤ → Bool
has_day range day = begins_by_number range.from day && ends_after_number range.till day

-- True if the civil day of a timestamp in the time zone is in the range of days. A timestamp after
-- `LAST_MOMENT` (the beginning of 2100) has no day, and is in no range.
abbrev pub has_moment : Zone → DayRange → (moment : ℕ) → Bool
has_moment zone range moment = nat_le moment LAST_MOMENT && has_day range (day_at zone moment)
