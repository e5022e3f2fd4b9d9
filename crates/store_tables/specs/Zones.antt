-- Defines which texts are valid time zones of a store: POSIX time zone rules of at most 64 bytes.
use Rattle.std.specs.Prelude.{◌≤◌, ℕ, List, length, IsSome}
use Rattle.interval_core.specs.declared.limits.TheConstants.{MAX_ZONE_TEXT}
use Rattle.jiff_tz.specs.PosixReader.{read_whole}

-- True if a text is a POSIX time zone rule of at most 64 bytes.
abbrev pub IsZone : List ℕ → Type 0
IsZone text = IsSome (read_whole text) × (length text ≤ MAX_ZONE_TEXT)
