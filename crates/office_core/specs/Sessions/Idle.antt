-- The condition that a session (the connection of a device) has no further outcomes of polls to
-- report.
use Rattle.std.specs.Prelude.{Bool, true, Option, Some, None, is_none}
use Rattle.poll_core.specs.Standing.{State}

-- True if there is no Modbus session, or if the session has no further outcomes to report.
abbrev pub is_idle : Option State → Bool
is_idle None = true
is_idle (Some session) = is_none session.settling
