-- The program's own time in milliseconds, which setting the system's clock does not change.
use Rattle.std.specs.Prelude.{ℕ, ◌+◌, ◌-◌, ◌^◌, max, min}
use Rattle.run_schedule.specs.declared.timing.run_time.RunTime.{RunTime}

-- The program's time when the monotonic clock reads `even`: the start time plus the monotonic time
-- since the start. The program's time never goes back.
abbrev pub time_by : RunTime → (even : ℕ) → ℕ
time_by time even =
    max time.latest (min (time.base + (even - time.began)) (2 ^ 64 - 1))
