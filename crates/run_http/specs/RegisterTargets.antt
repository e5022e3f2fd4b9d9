-- The request targets for an accounting register (a named energy counter).
-- `/registers/NAME/days/FROM/TILL` returns the register's energy on the days from FROM on and
-- before TILL. `/registers/NAME/months` returns the energy of all days by month.
-- `/registers/NAME/meters` returns the present and earlier meters.
use Rattle.std.specs.Prelude.{◌≡◌, ◌⊎◌, ℕ, ◌+◌, Bool, true, false, List, take, drop, bytes_eq, is_some, Option, Some, None, codes}
use Rattle.jiff_core.specs.declared.civil.date.Date.{Date}
use Rattle.energy_report.specs.Days.{IsReadAs, Spells}
use Rattle.interval_core.specs.Ranges.{all_days, is_backward}
use Rattle.energy_report.specs.declared.form.EnergyUnit.TheVariants.{MilliwattHours}
use Rattle.energy_report.specs.declared.form.Format.TheVariants.{Text}
use Rattle.energy_report.specs.declared.form.Period.{Period}
use Rattle.energy_report.specs.declared.form.Period.TheVariants as period
use Rattle.energy_report.specs.declared.form.ReportForm.{ReportForm}
use Rattle.interval_core.specs.declared.day_range.DayRange.{DayRange}
use Rattle.office_http.specs.declared.messages.status.Status.TheVariants.{BadRequest}
use Rattle.office_events.specs.Names.{named}
use Rattle.run_http.specs.MeterTargets.{after, slash_in}
use Rattle.run_http.specs.declared.route.RunRoute.{RunRoute}
use Rattle.run_http.specs.declared.route.RunRoute.TheVariants.{Own, Energy, Meters}
use Rattle.run_http.specs.declared.route.StatusRoute.TheVariants.{Rejected}

-- Definitions of the ranges of days that request targets spell.

-- The range of days that begins with `first` and ends before `last`.
abbrev pub from_till : (first last : Date) → DayRange
from_till first last = record { from = Some first; till = Some last }

-- States that the two texts spell the first day and the end day of the range. `backward` is true if
-- the end day is before the first day.
abbrev pub SpellRange : (from till : List ℕ) → DayRange → (backward : Bool) → Type 0
SpellRange from till range backward =
    (first last : Date) × Spells from first × Spells till last × (range ≡ from_till first last)
    × (is_backward range ≡ backward)

-- The range of days that two texts spell: it begins with the first day and ends before the second.
-- None if a text does not spell a day, or if the second day is before the first.
abbrev pub IsRangeOf : (from till : List ℕ) → Option DayRange → Type 0
IsRangeOf from till (Some range) = SpellRange from till range false
IsRangeOf from till None =
    IsReadAs from None ⊎ IsReadAs till None
    ⊎ ((range : DayRange) × SpellRange from till range true)

-- Definitions of the routes of request targets for an accounting register (a named energy counter).

-- The format of an energy report with one plain-text line for each period (such as a day), in mWh.
abbrev pub lines_of : DayRange → Period → ReportForm
lines_of range period =
    record { range = range; period = period; unit = MilliwattHours; format = Text }

-- The route to the daily energy in a range of days, or status 400 if the target has no valid range.
-- An invalid name in the target counts as the name of no accounting register (a named energy
-- counter).
abbrev pub days_asked : (name : List ℕ) → Option DayRange → RunRoute
days_asked name None = Own (Rejected BadRequest)
days_asked name (Some range) = Energy (named name) (lines_of range period.Day)

-- The route to the energy of an accounting register (a named energy counter) by month, over all its
-- days.
abbrev pub months_asked : (name : List ℕ) → RunRoute
months_asked name = Energy (named name) (lines_of all_days period.Month)

-- The route to daily energy between two days. If `goes_on` is true, the target has too many
-- segments and no route.
abbrev pub IsDaysUnless : (goes_on : Bool) → (name from till : List ℕ) → Option RunRoute → Type 0
IsDaysUnless true name from till route = route ≡ None
IsDaysUnless false name from till route =
    (range : Option DayRange) × IsRangeOf from till range × (route ≡ Some (days_asked name range))

-- The route to daily energy between the days in two texts. If the second text has a slash, there is
-- no route.
abbrev pub IsDaysTill : (name from till : List ℕ) → Option RunRoute → Type 0
IsDaysTill name from till route = IsDaysUnless (is_some (slash_in till)) name from till route

-- The route of a request target to daily energy, given its text after `days/`, which is split at
-- its first slash into two days.
abbrev pub IsDaysCut : (name text : List ℕ) → (at : Option ℕ) → Option RunRoute → Type 0
IsDaysCut name text None route = route ≡ None
IsDaysCut name text (Some at) route = IsDaysTill name (take at text) (drop (at + 1) text) route

-- The route of a request target to daily energy, given its text after `days/`.
abbrev pub IsDaysIn : (name text : List ℕ) → Option RunRoute → Type 0
IsDaysIn name text route = IsDaysCut name text (slash_in text) route

-- The route of a request target to daily energy, given its text after `days/`, or none if the
-- target has no segment `days`.
abbrev pub IsDaysAsked : (name : List ℕ) → (days : Option (List ℕ)) → Option RunRoute → Type 0
IsDaysAsked name None route = route ≡ None
IsDaysAsked name (Some text) route = IsDaysIn name text route

-- The route to the energy of an accounting register (a named energy counter): by month if
-- `is_months` is true, otherwise by day.
abbrev pub IsEnergyAsked : (is_months : Bool) → (name text : List ℕ) → Option RunRoute → Type 0
IsEnergyAsked true name text route = route ≡ Some (months_asked name)
IsEnergyAsked false name text route = IsDaysAsked name (after (codes "days/") text) route

-- The route to the energy of an accounting register (a named energy counter), for the text after
-- `/registers/NAME/`.
abbrev pub IsEnergyIn : (name text : List ℕ) → Option RunRoute → Type 0
IsEnergyIn name text route = IsEnergyAsked (bytes_eq text (codes "months")) name text route

-- The route to the meters of an accounting register (a named energy counter) if `is_meters` is
-- true, otherwise to its energy.
abbrev pub IsRowsAsked : (is_meters : Bool) → (name text : List ℕ) → Option RunRoute → Type 0
IsRowsAsked true name text route = route ≡ Some (Meters (named name))
IsRowsAsked false name text route = IsEnergyIn name text route

-- The route of a request target, given its text after `/registers/NAME/`.
abbrev pub IsRowsIn : (name text : List ℕ) → Option RunRoute → Type 0
IsRowsIn name text route = IsRowsAsked (bytes_eq text (codes "meters")) name text route

-- The route of a request target, given its text after `/registers/`, which is split at its first
-- slash. A text without a slash has no route.
abbrev pub IsRegisterCut : (text : List ℕ) → (at : Option ℕ) → Option RunRoute → Type 0
IsRegisterCut text None route = route ≡ None
IsRegisterCut text (Some at) route = IsRowsIn (take at text) (drop (at + 1) text) route

-- The route of a request target, given its text after `/registers/`.
abbrev pub IsRegisterIn : (text : List ℕ) → Option RunRoute → Type 0
IsRegisterIn text route = IsRegisterCut text (slash_in text) route

-- The route of a target that begins with `/registers/`. Other targets have no route of this kind.
abbrev pub IsRegisterAsked : Option (List ℕ) → Option RunRoute → Type 0
IsRegisterAsked None route = route ≡ None
IsRegisterAsked (Some text) route = IsRegisterIn text route

-- The route of a request target for an accounting register (a named energy counter). Other targets
-- have no route of this kind.
abbrev pub IsRegisterTarget : (target : List ℕ) → Option RunRoute → Type 0
IsRegisterTarget target route = IsRegisterAsked (after (codes "/registers/") target) route
