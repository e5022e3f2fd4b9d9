-- Decides whether to record energy in the current file or to begin a new file, and when to decide
-- again.
use Rattle.std.specs.Prelude.{◌≡◌, ℕ, ◌+◌, ◌*◌, ◌/◌, ◌≤◌, min, nat_lt, Bool, if◌then◌else◌}
use Rattle.std.specs.Prelude.{List, length, take, Option, Some, None}
use Rattle.std.specs.Borrow.{Bor}
use Rattle.std.specs.Str.{bytes_eq}
use Rattle.jiff_core.specs.declared.civil.date.Date.{Date}
use Rattle.interval_core.specs.declared.limits.TheConstants.{LAST_MOMENT}
use Rattle.interval_core.specs.declared.zone.Zone.{Zone}
use Rattle.energy_report.specs.declared.form.Period.{Period}
use Rattle.run_schedule.specs.Periods.Ends.{IsPeriodEnd}
use Rattle.run_schedule.specs.Periods.Led.{number_in}
use Rattle.run_schedule.specs.declared.periods.plans.Plan.{Plan}
use Rattle.run_schedule.specs.declared.periods.plans.Plan.TheVariants.{Stay, StayAhead, Wait, Carry}

-- The text of a period such as `2026-11`, cut to the length of the text `other` if `other` is
-- shorter. For comparison with a year, a month is cut to its year.
abbrev pub as_far_as : (other text : List ℕ) → List ℕ
as_far_as other text = take (min (length text) (length other)) text

-- True if the period `text` is later than the period `other`, such as `2026-11` and `2026-10`. A
-- month and a year are compared by year only.
abbrev pub is_later : (text other : List ℕ) → Bool
is_later text other = nat_lt (number_in (as_far_as text other)) (number_in (as_far_as other text))

-- The decision for a file whose period is over: `Carry` (continue all meters in a new file), unless
-- the clock is before the file's latest record, whose timestamp is `last_entry`.
abbrev pub plan_of_past : (last_entry now : ℕ) → Plan
plan_of_past last_entry now = if nat_lt now last_entry then Wait else Carry

-- The decision for the current file. The program continues in the file if the file's period is the
-- current period or a later period. A file without a period counts as a file whose period is over.
abbrev pub plan_of : Option (Bor (List ℕ)) → (current : List ℕ) → (last_entry now : ℕ) → Plan
plan_of None current last_entry now = plan_of_past last_entry now
plan_of (Some led) current last_entry now =
    if bytes_eq led.now current then Stay
    else (if is_later led.now current then StayAhead else plan_of_past last_entry now)

-- Theorem: if the program continues all meters in a new file, then the old file's period is not
-- later than the current period. No record in the old file is then later than the clock.
abbrev pub NothingGoesBack : Type 0
NothingGoesBack = (led : Bor (List ℕ)) (current : List ℕ) (last_entry now : ℕ)
    → plan_of (Some led) current last_entry now ≡ Carry
    → (number_in (as_far_as current led.now) ≤ number_in (as_far_as led.now current))
    × (last_entry ≤ now)

-- The time at which the program changes from a period's file to a new file: the period's end plus a
-- wait for the last poll. The wait is half of the polling interval `every`, at most 30 s. None if
-- the period does not end by `LAST_MOMENT` (the latest supported time).
abbrev pub IsPeriodUntil : Zone → Period → Date → (every now : ℕ) → Option ℕ → Type 0
IsPeriodUntil zone period day every now (Some until) =
    (next : ℕ) × IsPeriodEnd zone period day now (Some next) × (until ≡ next + min (every / 2) 30)
IsPeriodUntil zone period day every now None = IsPeriodEnd zone period day now None

-- The time of the next attempt after the program failed to begin a new file: the next full hour
-- plus a wait for a poll. The wait is half of the polling interval `every`, at most 30 s. None if
-- `now` is after `LAST_MOMENT` (the latest supported time).
abbrev pub next_try : (every now : ℕ) → Option ℕ
next_try every now =
    if nat_lt LAST_MOMENT now then None
    else Some ((now / 3600 + 1) * 3600 + min (every / 2) 30)
