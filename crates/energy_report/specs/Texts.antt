-- The text of an energy report: its rows in one of three formats, with energies in mWh or kWh.
use Rattle.std.specs.Prelude.{ℕ, zero, suc, Bool, true, false, ◌++◌, ◌∷◌, negsuc, List, [], length, codes}
use Rattle.std.specs.List.{join_by}
use Rattle.std.specs.Fmt.{decimal}
use Rattle.jiff.specs.Words.{date_text}
use Rattle.jiff_fmt.specs.Text.{pad2, year_text}
use Rattle.jiff_core.specs.declared.civil.date.Date.{Date}
use Rattle.sun_points.specs.Decimal.{magnitude_text}
use Rattle.interval_core.specs.Report.{right}
use Rattle.interval_core.specs.Lines.{end_line}
use Rattle.interval_core.specs.declared.totals.DayTotal.{DayTotal}
use Rattle.energy_report.specs.declared.form.Period.{Period}
use Rattle.energy_report.specs.declared.form.Period.TheVariants as period
use Rattle.energy_report.specs.declared.form.EnergyUnit.{EnergyUnit}
use Rattle.energy_report.specs.declared.form.EnergyUnit.TheVariants.{MilliwattHours, KilowattHours}
use Rattle.energy_report.specs.declared.form.Format.{Format}
use Rattle.energy_report.specs.declared.form.Format.TheVariants.{Text, Csv, Json}
use Rattle.energy_report.specs.declared.form.ReportForm.{ReportForm}
use Rattle.energy_report.specs.declared.row.Row.{Row}
use Rattle.energy_report.specs.Rows.{shown_rows}

-- The name of a period (day, month or year) in headers and JSON members.
abbrev pub period_word : Period → List ℕ
period_word period.Day = codes "day"
period_word period.Month = codes "month"
period_word period.Year = codes "year"

-- The name of a unit of energy in headers and JSON members.
abbrev pub unit_word : EnergyUnit → List ℕ
unit_word MilliwattHours = codes "mwh"
unit_word KilowattHours = codes "kwh"

-- The text of the period that contains a day, such as `2026-11-25`, `2026-11` or `2026`.
abbrev pub period_text : Period → Date → List ℕ
period_text period.Day day = date_text day
period_text period.Month day = year_text day.year ++ codes "-" ++ pad2 day.month
period_text period.Year day = year_text day.year

-- The text of an energy, as a whole number of mWh or as kWh with six decimals.
abbrev pub energy_text : EnergyUnit → (mwh : ℕ) → List ℕ
energy_text MilliwattHours mwh = decimal mwh
energy_text KilowattHours mwh = magnitude_text mwh (negsuc 5)

-- The width in columns of the number of quarter hours in a report row. A day has up to 100
-- intervals, a month up to 2,980 and a year up to 35,136.
abbrev pub count_width : Period → ℕ
count_width period.Day = 3
count_width period.Month = 4
count_width period.Year = 5

-- A row of a report as a line of text. Spaces (32) separate period, number of intervals and energy,
-- and a line feed (10) ends the line.
abbrev pub text_row : ReportForm → Row → List ℕ
text_row form row =
    period_text form.period row.first ++ 32
    ∷ (right (count_width form.period) (decimal row.count) ++ 32
    ∷ (right 24 (energy_text form.unit row.mwh) ++ 10 ∷ []))

-- A row of a report as a CSV record, whose fields need no quotes.
abbrev pub csv_row : ReportForm → Row → List ℕ
csv_row form row =
    period_text form.period row.first ++ codes "," ++ energy_text form.unit row.mwh
    ++ codes "\r\n"

-- A row of a report as a JSON object.
abbrev pub json_row : ReportForm → Row → List ℕ
json_row form row =
    codes "{\"" ++ period_word form.period ++ codes "\":\"" ++ period_text form.period row.first
    ++ codes "\",\"" ++ unit_word form.unit ++ codes "\":\"" ++ energy_text form.unit row.mwh
    ++ codes "\"}"

-- A row of a report in a given format.
abbrev pub row_by : Format → ReportForm → Row → List ℕ
row_by Text = text_row
row_by Csv = csv_row
row_by Json = json_row

-- A row of an energy report as text, in the requested format: plain text, CSV or JSON.
abbrev pub row_text : ReportForm → Row → List ℕ
row_text form row = row_by form.format form row

-- The header of a report in CSV.
abbrev pub csv_header : Period → EnergyUnit → List ℕ
csv_header period unit = period_word period ++ codes ",energy_" ++ unit_word unit ++ codes "\r\n"

-- The text before the first row of a report in a given format.
abbrev pub opening_by : Format → Period → EnergyUnit → List ℕ
opening_by Text period unit = []
opening_by Csv period unit = csv_header period unit
opening_by Json period unit = codes "["

-- The text before the first row of a report, in the requested format.
abbrev pub opening : ReportForm → List ℕ
opening form = opening_by form.format form.period form.unit

-- The text between two rows of a report in a given format.
abbrev pub separator_by : Format → List ℕ
separator_by Text = []
separator_by Csv = []
separator_by Json = codes ",\n"

-- The text between two rows of a report in the requested format.
abbrev pub separator : ReportForm → List ℕ
separator form = separator_by form.format

-- The text after the last of `count` rows of a report in a given format.
abbrev pub ending_by : Format → (count : ℕ) → List ℕ
ending_by Text count = end_line count
ending_by Csv count = []
ending_by Json count = codes "]\n"

-- The text after the last of `count` rows of a report in the requested format.
abbrev pub ending : ReportForm → (count : ℕ) → List ℕ
ending form count = ending_by form.format count

-- The text before a row of a report. Before the first row, this text is the beginning of the
-- report, otherwise the text between two rows.
abbrev pub lead : (is_first : Bool) → ReportForm → List ℕ
lead true form = opening form
lead false form = separator form

-- The text that a report writes at its end, after `count` rows. If `count` is 0, this text also
-- contains the beginning of the report.
abbrev pub last_text : ReportForm → (count : ℕ) → List ℕ
last_text form zero = opening form ++ ending form 0
last_text form (suc count) = ending form (suc count)

-- The complete text of a report with the given rows.
abbrev pub rows_text : ReportForm → List Row → List ℕ
rows_text form rows =
    opening form ++ join_by (row_text form) (separator form) rows ++ ending form (length rows)

-- The complete text of a report on a list of days.
abbrev pub report_text : ReportForm → List DayTotal → List ℕ
report_text form days = rows_text form (shown_rows form days)
