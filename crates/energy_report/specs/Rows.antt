-- The rows of a report. Each row adds up the days of one period.
use Rattle.std.specs.Prelude.{◌+◌, ◌-◌, ◌^◌, min, List, [], ◌∷◌, map, if◌then◌else◌}
use Rattle.interval_core.specs.declared.totals.DayTotal.{DayTotal}
use Rattle.energy_report.specs.declared.form.Period.{Period}
use Rattle.energy_report.specs.declared.form.ReportForm.{ReportForm}
use Rattle.energy_report.specs.declared.row.Row.{Row}
use Rattle.interval_core.specs.Ranges.{days_in}
use Rattle.energy_report.specs.Periods.{is_same}

-- The row of a report for a single day.
abbrev pub row_of : DayTotal → Row
row_of total = record { first = total.day; count = total.count; mwh = total.mwh }

-- The row that adds up two report rows of the same period. Its first day is the first day of the
-- earlier row.
abbrev pub joined : Row → Row → Row
joined row next = record {
  first = row.first;
  count = row.count + next.count;
  mwh = row.mwh + next.mwh;
}

-- A list of report rows with an earlier row added in front. If the earlier row is of the same
-- period as the next row, both rows are merged.
abbrev pub before : Period → Row → List Row → List Row
before period row [] = row ∷ []
before period row (next ∷ rows) =
    if is_same period row.first next.first then joined row next ∷ rows else row ∷ next ∷ rows

-- The report rows of a list of days. Consecutive days of the same period (day, month or year) form
-- one row.
abbrev pub rows_by : Period → List DayTotal → List Row
rows_by period [] = []
rows_by period (total ∷ days) = before period (row_of total) (rows_by period days)

-- The rows of a report: the days in the requested range, added up by the requested period (day,
-- month or year).
abbrev pub rows_in : ReportForm → List DayTotal → List Row
rows_in form days = rows_by form.period (days_in form.range days)

-- A report row as it is printed, with a count of at most 2^64 - 1 and an energy of at most 2^128 -
-- 1 mWh.
abbrev pub shown : Row → Row
shown row = record {
  first = row.first;
  count = min row.count (2 ^ 64 - 1);
  mwh = min row.mwh (2 ^ 128 - 1);
}

-- The rows that a report on a list of days prints.
abbrev pub shown_rows : ReportForm → List DayTotal → List Row
shown_rows form days = map shown (rows_in form days)
