-- Decides when to connect to a device, and when a connection attempt or a polling round has timed
-- out.
use Rattle.std.specs.Prelude.{◌≡◌, ℕ, ◌+◌, ◌-◌, ◌*◌, ◌^◌, ◌<◌, ◌≤◌, max, min, nat_le, Bool, false}
use Rattle.run_schedule.specs.Timing.Pauses as pauses
use Rattle.run_schedule.specs.declared.timing.timing.Phase.{Phase}
use Rattle.run_schedule.specs.declared.timing.timing.Phase.TheVariants.{Resting, Connecting, Polling}
use Rattle.run_schedule.specs.declared.timing.timing.Timing.{Timing}

-- The pause in seconds after one more failed connection attempt.
abbrev pub pause_after : ℕ → ℕ
pause_after before = pauses.pause_after before

-- States that `at` is the first multiple of the polling interval `every` after `now`.
pub record IsDue (every now at : ℕ) : Type 0 where
  pub later : now < at
  pub grid : (k : ℕ) × (at ≡ k * every)
  pub first : (k : ℕ) → now < k * every → at ≤ k * every

-- States that `at` is when to reconnect to a device whose connection failed at `now`: after `pause`
-- seconds, but no later than at the device's next poll.
pub record IsRetried (every now pause at : ℕ) : Type 0 where
  pub due : ℕ
  pub is_due : IsDue every now due
  pub is : at ≡ min (min (now + pause) (2 ^ 64 - 1)) due

-- True if the device has no connection, and `at`, the time of the next attempt, has come.
abbrev pub due_in : Phase → (at now : ℕ) → Bool
due_in Resting at now = nat_le at now
due_in Connecting at now = false
due_in Polling at now = false

-- True if the connection attempt or the polling round of a device has passed its deadline `at`.
abbrev pub over_in : Phase → (at now : ℕ) → Bool
over_in Resting at now = false
over_in Connecting at now = nat_le at now
over_in Polling at now = nat_le at now

-- True if the device has no connection, and the time of its next connection attempt has come.
abbrev pub is_due : (now : ℕ) → Timing → Bool
is_due now timing = due_in timing.phase timing.at now

-- True if the connection attempt or the polling round of the device has passed its deadline.
abbrev pub is_over : (now : ℕ) → Timing → Bool
is_over now timing = over_in timing.phase timing.at now

-- The state of a device whose connection attempt begins. The deadline of the attempt is five
-- seconds later.
abbrev pub begun : (now : ℕ) → Timing → Timing
begun now timing =
    record { phase = Connecting; at = min (now + 5) (2 ^ 64 - 1); pause = timing.pause }

-- The state of a device whose polling round begins. The deadline of the round is `every` seconds
-- later, or 60 seconds later if `every` is less.
abbrev pub stands : (every now : ℕ) → Timing
stands every now = record { phase = Polling; at = min (now + max every 60) (2 ^ 64 - 1); pause = 0 }
