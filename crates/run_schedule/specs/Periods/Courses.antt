-- Defines what the command `run --carry`, which begins a new database file for each period (such as
-- a month), does with its current file. Also defines when the command decides again.
use Rattle.std.specs.Prelude.{◌≡◌, ℕ, ◌≤◌, ◌<◌, List, Option, None}
use Rattle.std.specs.Borrow.{Bor}
use Rattle.jiff.specs.Words.{epoch_day}
use Rattle.jiff_core.specs.declared.civil.date.Date.{Date}
use Rattle.interval_core.specs.Zone.{day_at}
use Rattle.interval_core.specs.declared.limits.TheConstants.{LAST_MOMENT}
use Rattle.interval_core.specs.declared.zone.Zone.{Zone}
use Rattle.energy_report.specs.Texts.{period_text}
use Rattle.run_schedule.specs.Periods.Plans.{IsPeriodUntil, next_try, plan_of}
use Rattle.run_schedule.specs.declared.periods.plans.Plan.TheVariants as plan
use Rattle.run_schedule.specs.declared.periods.courses.Course.{Course}
use Rattle.run_schedule.specs.declared.periods.courses.Course.TheVariants.{Stay, StayAhead, Wait, Carry}
use Rattle.run_schedule.specs.declared.periods.courses.Rollover.{Rollover}

-- States what the program does on a calendar day with the current database file, whose period (such
-- as a month) is `led`. A new file has the period that contains this day. The program decides again
-- soon after the end of this period, or soon after the next full hour if it waits.
abbrev pub IsCourseOn : Zone → Rollover → (led : Option (Bor (List ℕ))) → (last_entry : ℕ) → Date
    → (now : ℕ) → Course → Type 0
IsCourseOn zone by led last_entry day now (Stay until) =
    (plan_of led (period_text by.period day) last_entry now ≡ plan.Stay)
    × IsPeriodUntil zone by.period day by.every now until
IsCourseOn zone by led last_entry day now (StayAhead until) =
    (plan_of led (period_text by.period day) last_entry now ≡ plan.StayAhead)
    × IsPeriodUntil zone by.period day by.every now until
IsCourseOn zone by led last_entry day now (Wait until) =
    (plan_of led (period_text by.period day) last_entry now ≡ plan.Wait)
    × (until ≡ next_try by.every now)
IsCourseOn zone by led last_entry day now (Carry period until) =
    (plan_of led (period_text by.period day) last_entry now ≡ plan.Carry)
    × (period ≡ period_text by.period day)
    × IsPeriodUntil zone by.period day by.every now until

-- States what the program does at the time `now` with the current file, whose period (such as a
-- month) is `led`. After `LAST_MOMENT` (the latest supported time) there are no days, so the
-- program stays in the current file.
pub record IsCourse (zone : Zone) (by : Rollover) (led : Option (Bor (List ℕ)))
    (last_entry now : ℕ) (course : Course) : Type 0 where
  pub on_a_day : now ≤ LAST_MOMENT → (day : Date) × (epoch_day day ≡ day_at zone now)
      × IsCourseOn zone by led last_entry day now course
  pub after_all_days : LAST_MOMENT < now → course ≡ Stay None
