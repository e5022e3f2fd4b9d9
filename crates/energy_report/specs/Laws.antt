-- Theorems about the rows of a report, for any list of days.
use Rattle.std.specs.Prelude.{◌≡◌, ℕ, ◌+◌, ◌<◌, ◌^◌, false, List, [], ◌∷◌, map, filter, All, Option, Some, sum_by}
use Rattle.jiff_core.specs.declared.civil.date.Date.{Date}
use Rattle.interval_core.specs.Days.{account_of, AreInOrder}
use Rattle.interval_core.specs.Lines.{days_text}
use Rattle.interval_core.specs.declared.totals.DayTotal.{DayTotal}
use Rattle.energy_report.specs.declared.form.Period.{Period}
use Rattle.energy_report.specs.declared.form.ReportForm.{ReportForm}
use Rattle.interval_core.specs.declared.day_range.DayRange.{DayRange}
use Rattle.energy_report.specs.declared.row.Row.{Row}
use Rattle.energy_report.specs.Periods.{is_same}
use Rattle.interval_core.specs.Ranges.{days_in, ends_before}
use Rattle.energy_report.specs.Rows.{rows_by, rows_in, shown_rows}
use Rattle.energy_report.specs.Texts.{report_text}
use Rattle.energy_report.specs.Words.{plain_form}

-- The total energy of a list of days, in mWh.
abbrev pub energy_of_days : List DayTotal → ℕ
energy_of_days days = sum_by (λ total. total.mwh) days

-- The total number of intervals (quarter hours) of a list of civil days.
abbrev pub intervals_of_days : List DayTotal → ℕ
intervals_of_days days = sum_by (λ total. total.count) days

-- The total energy of a list of report rows, in mWh.
abbrev pub energy_of_rows : List Row → ℕ
energy_of_rows rows = sum_by (λ row. row.mwh) rows

-- The total number of intervals (quarter hours) of a list of report rows.
abbrev pub intervals_of_rows : List Row → ℕ
intervals_of_rows rows = sum_by (λ row. row.count) rows

-- Theorem: for any period, the rows of a report add up to the energy and number of quarter hours of
-- the requested days.
abbrev pub RowsAddUp : Type 0
RowsAddUp = (form : ReportForm) (days : List DayTotal)
    → (energy_of_rows (rows_in form days) ≡ energy_of_days (days_in form.range days))
    × (intervals_of_rows (rows_in form days) ≡ intervals_of_days (days_in form.range days))

-- Theorem: suppose that the days in the requested range of a report have fewer than 2^64 intervals
-- and less than 2^128 mWh in total. Then no count or energy of a printed row is cut off at the
-- limit of its type.
abbrev pub RowsAreShown : Type 0
RowsAreShown = (form : ReportForm) (days : List DayTotal)
    → intervals_of_days (days_in form.range days) < 2 ^ 64
    → energy_of_days (days_in form.range days) < 2 ^ 128
    → shown_rows form days ≡ rows_in form days

-- The range of days from the day `from` up to, but not including, the day `till`. If one of them is
-- `None`, the range is open at this end.
abbrev pub range : (from till : Option Date) → DayRange
range from till = record { from = from; till = till }

-- Theorem: if a range of days is cut in two at a day, then the energies of both parts add up to the
-- energy of the range. No day is lost or counted twice.
abbrev pub RangesAddUp : Type 0
RangesAddUp = (from till : Option Date) (cut : Date) (days : List DayTotal)
    → ends_before from (Some cut) ≡ false → ends_before (Some cut) till ≡ false
    → energy_of_days (days_in (range from (Some cut)) days)
    + energy_of_days (days_in (range (Some cut) till) days)
    ≡ energy_of_days (days_in (range from till) days)

-- The days of a list that are in the period (day, month or year) of a report row.
abbrev pub days_of_row : Period → Row → List DayTotal → List DayTotal
days_of_row period row days = filter (λ total. is_same period row.first total.day) days

-- True if no two report rows of the list are of the same period.
abbrev pub AreApart : Period → List Row → Type 0
AreApart period [] = Unit {0}
AreApart period (row ∷ rows) =
    All (λ later. is_same period row.first later.first ≡ false) rows × AreApart period rows

-- True if the report row has the energy of all days in the list that belong to the row's period.
abbrev pub HasItsDays : Period → List DayTotal → Row → Type 0
HasItsDays period days row = row.mwh ≡ energy_of_days (days_of_row period row days)

-- Theorem: suppose that the days of a report are in order. Then each period with days has exactly
-- one row, which has the energy of all days of the period.
abbrev pub RowsAreWhole : Type 0
RowsAreWhole = (period : Period) (days : List DayTotal) → AreInOrder (map account_of days)
    → All (HasItsDays period days) (rows_by period days) × AreApart period (rows_by period days)

-- True if the number of quarter hours of a day fits in 32 bits, and the day's energy in mWh fits in
-- 128 bits.
abbrev pub IsHeld : DayTotal → Type 0
IsHeld total = (total.count < 2 ^ 32) × (total.mwh < 2 ^ 128)

-- Theorem: suppose that the days are in order, and that their counts and energies fit in their
-- types. Then the report without options (all days, one row for each day, mWh, text) is the text
-- `days_text`: a line for each day, and a last line with the number of days.
abbrev pub PlainReportsAreListsOfDays : Type 0
PlainReportsAreListsOfDays = (days : List DayTotal) → AreInOrder (map account_of days)
    → All IsHeld days → report_text plain_form days ≡ days_text days
