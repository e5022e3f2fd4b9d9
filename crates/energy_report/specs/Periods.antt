-- The civil days of a calendar period, which is a day, a month or a year.
use Rattle.std.specs.Prelude.{◌≡◌, ◌↔◌, ℤ, ◌≤ℤ◌, Bool, true, ◌&&◌, pos}
use Rattle.std.specs.Ordering.{int_eq}
use Rattle.jiff_core.specs.Calendar.{days_from_civil}
use Rattle.jiff_core.specs.declared.civil.date.Date.{Date}
use Rattle.jiff.specs.Words.{epoch_day, month_length}
use Rattle.energy_report.specs.declared.form.Period.{Period}
use Rattle.energy_report.specs.declared.form.Period.TheVariants as period

-- True if two civil days are in the same day, month or year, depending on the period.
abbrev pub is_same : Period → (one other : Date) → Bool
is_same period.Day one other = int_eq (epoch_day one) (epoch_day other)
is_same period.Month one other =
    int_eq one.year other.year && int_eq (pos one.month) (pos other.month)
is_same period.Year one other = int_eq one.year other.year

-- The last day of the period (day, month or year) that contains a day, as its number of days since
-- 1970-01-01.
abbrev pub last_day : Period → Date → ℤ
last_day period.Day day = epoch_day day
last_day period.Month day = days_from_civil day.year day.month (month_length day)
last_day period.Year day = days_from_civil day.year 12 31

-- Theorem: let a day be the same as or later than a given day. Then the day is in the given day's
-- period (day, month or year) if and only if it is not after the period's last day.
abbrev pub PeriodsEndWithTheirLastDay : Type 0
PeriodsEndWithTheirLastDay = (period : Period) (day other : Date)
    → epoch_day day ≤ℤ epoch_day other
    → (is_same period day other ≡ true) ↔ (epoch_day other ≤ℤ last_day period day)
