-- Defines the arguments on the command line that select the range, period, unit and format of an
-- energy report.
use Rattle.std.specs.Prelude.{ℕ, List, Option, Some, None, codes, if◌then◌else◌}
use Rattle.std.specs.Str.{bytes_eq}
use Rattle.energy_report.specs.declared.form.Period.{Period}
use Rattle.energy_report.specs.declared.form.Period.TheVariants as period
use Rattle.energy_report.specs.declared.form.EnergyUnit.{EnergyUnit}
use Rattle.energy_report.specs.declared.form.EnergyUnit.TheVariants.{MilliwattHours, KilowattHours}
use Rattle.energy_report.specs.declared.form.Format.{Format}
use Rattle.energy_report.specs.declared.form.Format.TheVariants.{Text, Csv, Json}
use Rattle.energy_report.specs.declared.form.ReportForm.{ReportForm}
use Rattle.interval_core.specs.Ranges.{all_days}

-- The period (day, month or year) that a command line argument selects, or `None` for any other
-- argument.
abbrev pub period_of : List ℕ → Option Period
period_of word =
    if bytes_eq word (codes "day") then Some period.Day
    else (if bytes_eq word (codes "month") then Some period.Month
    else (if bytes_eq word (codes "year") then Some period.Year else None))

-- The unit of energy that a command line argument selects, or `None` for any other argument.
abbrev pub unit_of : List ℕ → Option EnergyUnit
unit_of word =
    if bytes_eq word (codes "mwh") then Some MilliwattHours
    else (if bytes_eq word (codes "kwh") then Some KilowattHours else None)

-- The output format that a command line argument selects, or `None` for any other argument.
abbrev pub format_of : List ℕ → Option Format
format_of word =
    if bytes_eq word (codes "text") then Some Text
    else (if bytes_eq word (codes "csv") then Some Csv
    else (if bytes_eq word (codes "json") then Some Json else None))

-- The settings of a report without options: all days, one row for each day, energy in mWh, as text.
abbrev pub plain_form : ReportForm
plain_form = record { range = all_days; period = period.Day; unit = MilliwattHours; format = Text }
