-- Defines the options of a report or a statement, from the command line options.
use Rattle.std.specs.Prelude.{◌≡◌, List, ℕ, Option, Some, None, ◌⊎◌, true, false}
use Rattle.std.specs.Borrow.{Bor}
use Rattle.interval_core.specs.declared.day_range.DayRange.{DayRange}
use Rattle.energy_report.specs.Days.{IsRange, IsRangeFault}
use Rattle.energy_report.specs.declared.spelled_range.RangeFault.TheVariants as fault
use Rattle.energy_report.specs.declared.form.ReportForm.{ReportForm}
use Rattle.energy_report.specs.declared.form.StatementForm.{StatementForm}
use Rattle.energy_report.specs.declared.form.Format.TheVariants.{Text}
use Rattle.energy_report.specs.declared.form.Period.TheVariants.{Day}
use Rattle.energy_report.specs.declared.form.EnergyUnit.TheVariants.{MilliwattHours}
use Rattle.command_words.specs.declared.line.FormWords.{FormWords}
use Rattle.stored_files.specs.declared.ends.ending.Ending.{Ending}
use Rattle.stored_files.specs.declared.ends.ending.Ending.TheVariants.{NoDay, Backward}
use Rattle.file_commands.specs.declared.forms.Wanted.{Wanted}
use Rattle.file_commands.specs.declared.forms.Wanted.TheVariants.{Plain, Report, Statement}

-- The value of an option, or its default if the option is not given.
abbrev pub or_else : {T : Type 0} → Option T → T → T
or_else None other = other
or_else (Some value) other = value

-- The options of a report. Without the corresponding command line options, the report has a row for
-- each day, energies in mWh, and the text format.
abbrev pub form_of : FormWords → DayRange → ReportForm
form_of words range = record {
  range = range;
  period = or_else words.period Day;
  unit = or_else words.unit MilliwattHours;
  format = or_else words.format Text;
}

-- The options of a statement (billing report). Without the corresponding command line options, the
-- statement has energies in mWh, and the text format.
abbrev pub statement_of : FormWords → DayRange → StatementForm
statement_of words range = record {
  range = range;
  unit = or_else words.unit MilliwattHours;
  format = or_else words.format Text;
}

-- States that the options `--from` and `--till` select no range of days: one of them is not a day,
-- or the last day is before the first.
abbrev pub IsNoRange : (from till : Option (Bor (List ℕ))) → Ending → Type 0
IsNoRange from till (NoDay option word) =
    IsRangeFault from till fault.From ⊎ IsRangeFault from till fault.Till
IsNoRange from till Backward = IsRangeFault from till fault.Backward
IsNoRange from till _ = ⊥

-- States that no option sets the range, the period, the unit or the output format of a report.
pub record HasNoOption (words : FormWords) : Type 0 where
  pub from : words.from ≡ None
  pub till : words.till ≡ None
  pub period : words.period ≡ None
  pub unit : words.unit ≡ None
  pub format : words.format ≡ None

-- States what the options request of the command `report` over one database file. The options
-- `--from` and `--till` select the days of `range`.
abbrev pub IsWanted : FormWords → Wanted → Type 0
IsWanted words Plain = (words.statement ≡ false) × HasNoOption words
IsWanted words (Report form) = (words.statement ≡ false)
    × (range : DayRange) × IsRange words.from words.till range × (form ≡ form_of words range)
IsWanted words (Statement form) = (words.statement ≡ true)
    × (range : DayRange) × IsRange words.from words.till range × (form ≡ statement_of words range)
