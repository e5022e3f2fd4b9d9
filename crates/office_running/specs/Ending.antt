-- Defines when a run (one execution of `sunreg run`) ends.
use Rattle.std.specs.Prelude.{ℕ, nat_le, ◌||◌, ◌+◌, ◌-◌, ◌^◌, min, Bool, Option, Some, None}
use Rattle.office_running.specs.declared.event_loop.End.{End}
use Rattle.office_running.specs.declared.http.moments.Now.{Now}

-- True if an execution of `sunreg run` must end: its end time has come by the run's own clock, or
-- its end timestamp by the system clock.
abbrev pub has_come : End → Now → Bool
has_come end now = nat_le end.time now.time || nat_le end.moment now.moment

-- The largest 64-bit number. A run (one execution of `sunreg run`) with this end time never ends by
-- itself.
abbrev pub never : ℕ
never = 2 ^ 64 - 1

-- The time at which a run ends, by the run's own clock. The run begins at `now` and takes `lasts`
-- seconds, or has no end if `lasts` is `None`.
abbrev pub time_after : (lasts : Option ℕ) → (now : ℕ) → ℕ
time_after None now = never
time_after (Some seconds) now = min (now + seconds) never

-- The timestamp at which a run ends, or the largest 64-bit number if the run ends at no timestamp.
abbrev pub moment_of : (ends : Option ℕ) → ℕ
moment_of None = never
moment_of (Some moment) = moment
