-- Defines when a calendar period (a day, month or year) ends in a time zone.
use Rattle.std.specs.Prelude.{ℕ, ℤ, ◌<◌, ◌≤◌, ◌<ℤ◌, ◌≤ℤ◌, Option, Some, None}
use Rattle.jiff_core.specs.declared.civil.date.Date.{Date}
use Rattle.interval_core.specs.Zone.{day_at}
use Rattle.interval_core.specs.declared.limits.TheConstants.{LAST_MOMENT}
use Rattle.interval_core.specs.declared.zone.Zone.{Zone}
use Rattle.energy_report.specs.declared.form.Period.{Period}
use Rattle.energy_report.specs.Periods.{last_day}

-- States that `next` is the first time after `moment` at which a day after `last` has begun in the
-- time zone.
pub record IsFirstPast (zone : Zone) (last : ℤ) (moment next : ℕ) : Type 0 where
  pub later : moment < next
  pub bound : next ≤ LAST_MOMENT
  pub past : last <ℤ day_at zone next
  pub first : (at : ℕ) → moment < at → at < next → day_at zone at ≤ℤ last

-- States that, after `moment` and up to `LAST_MOMENT` (the latest supported time), no day after
-- `last` begins in the time zone.
abbrev pub IsNeverPast : Zone → (last : ℤ) → (moment : ℕ) → Type 0
IsNeverPast zone last moment =
    (at : ℕ) → moment < at → at ≤ LAST_MOMENT → day_at zone at ≤ℤ last

-- The first time after `moment` at which a day after `last` has begun in the time zone. None if no
-- such day begins by `LAST_MOMENT` (the latest supported time).
abbrev pub IsPastFrom : Zone → (last : ℤ) → (moment : ℕ) → Option ℕ → Type 0
IsPastFrom zone last moment (Some next) = IsFirstPast zone last moment next
IsPastFrom zone last moment None = IsNeverPast zone last moment

-- The first time after `moment` at which the period that contains `day` is over: a day after the
-- last day of the period has begun.
abbrev pub IsPeriodEnd : Zone → Period → Date → (moment : ℕ) → (next : Option ℕ) → Type 0
IsPeriodEnd zone period day moment next = IsPastFrom zone (last_day period day) moment next
