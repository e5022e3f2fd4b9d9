-- The pauses between attempts to connect to a device.
use Rattle.std.specs.Prelude.{ℕ, ◌*◌, ◌==◌, min, if◌then◌else◌}

-- The pause after one more failed connection attempt: 1 second at first, then twice the previous
-- pause, at most 60 seconds.
abbrev pub pause_after : ℕ → ℕ
pause_after before = if before == 0 then 1 else min (before * 2) 60
