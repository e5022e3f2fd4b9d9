-- States that no event of a device's Modbus session is later than a given timestamp.
use Rattle.std.specs.Prelude.{ℕ, ◌≤◌, List, Option, Some, None}
use Rattle.poll_core.specs.Settling as session
use Rattle.poll_core.specs.Standing.{last_moment}

-- True if the device has no Modbus session, or no event of the session is later than the timestamp.
abbrev pub none_later : ℕ → Option (List session.Event) → Type 0
none_later at None = Unit {0}
none_later at (Some events) = last_moment events ≤ at
