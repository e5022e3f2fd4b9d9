-- Defines the timestamps that the program takes from a clock that may be set back.
use Rattle.std.specs.Prelude.{ℕ, ◌-◌, max, nat_lt, not, ◌&&◌, Bool, Option, Some, None, if◌then◌else◌}
use Rattle.run_schedule.specs.declared.timing.steady_clock.ClockReading.{ClockReading}
use Rattle.run_schedule.specs.declared.timing.steady_clock.SteadyClock.{SteadyClock}

-- The number of seconds by which the clock is before the latest timestamp. None except at the first
-- reading after the clock was set back.
abbrev pub set_back_by : SteadyClock → ℕ → Option ℕ
set_back_by steady_clock now =
    if nat_lt now steady_clock.latest && not steady_clock.is_back
    then Some (steady_clock.latest - now) else None

-- The latest timestamp, if the clock has jumped to more than 60 seconds after it, otherwise none.
abbrev pub ahead_by : (latest now : ℕ) → Option ℕ
ahead_by latest now = if nat_lt 60 (now - latest) then Some latest else None

-- The reading of the clock when it shows `now`. The timestamp of the reading is the clock's time or
-- the latest timestamp, whichever is later.
abbrev pub read_by : SteadyClock → ℕ → ClockReading
read_by steady_clock now = record {
  moment = max steady_clock.latest now;
  set_back = set_back_by steady_clock now;
  ahead_from = ahead_by steady_clock.latest now;
}

-- The state of the clock after a reading at which it shows `now`.
abbrev pub clock_after : SteadyClock → ℕ → SteadyClock
clock_after steady_clock now =
    record { latest = max steady_clock.latest now; is_back = nat_lt now steady_clock.latest }
