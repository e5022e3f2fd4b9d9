-- Defines time zones and civil days. The crate `jiff` defines the UTC offset of a zone.
use Rattle.std.specs.Prelude.{◌≡◌, ◌≤◌, ℕ, ℤ, pos, ◌+ℤ◌, ◌*ℤ◌, IsSome, List, length}
use Rattle.std.specs.Int.{int_div_euclid}
use Rattle.jiff.specs.Words.{offset_at, plain_zone}
use Rattle.jiff.specs.Placed.{IsPosixZone}
use Rattle.jiff_tz.specs.PosixReader.{read_whole}
use Rattle.jiff.specs.declared.tz.timezone.TimeZone.{TimeZone}
use Rattle.interval_core.specs.declared.limits.TheConstants.{MAX_ZONE_TEXT}
use Rattle.interval_core.specs.declared.zone.Zone.{Zone}

-- The time zone as a `TimeZone` of the crate `jiff`.
abbrev pub rule_of : Zone → TimeZone
rule_of zone = zone.rule

-- States that `jiff` parses a text as the POSIX rule of a time zone.
abbrev pub HasRule : List ℕ → Zone → Type 0
HasRule text zone = IsPosixZone text (plain_zone (rule_of zone))

-- States that a text describes a time zone: `jiff` parses it as a POSIX rule, and it has at most 64
-- bytes (`MAX_ZONE_TEXT`).
abbrev pub IsZoneText : List ℕ → Type 0
IsZoneText text = IsSome (read_whole text) × (length text ≤ MAX_ZONE_TEXT)

-- The UTC offset of the time zone at a timestamp, in seconds.
abbrev pub offset_of : Zone → ℕ → ℤ
offset_of zone moment = offset_at (plain_zone (rule_of zone)) (pos moment *ℤ pos 1_000_000_000)

-- The civil day of a timestamp, counted from 1970-01-01: the timestamp plus the UTC offset, divided
-- by 86,400 seconds.
abbrev pub day_at : Zone → ℕ → ℤ
day_at zone moment = int_div_euclid (pos moment +ℤ offset_of zone moment) (pos 86_400)

-- Theorem: two time zones that were parsed from the same text have the same civil day at every
-- timestamp.
abbrev pub ZonesAreOne : Type 0
ZonesAreOne = (text : List ℕ) (a b : Zone) → HasRule text a → HasRule text b → (moment : ℕ)
    → day_at a moment ≡ day_at b moment
