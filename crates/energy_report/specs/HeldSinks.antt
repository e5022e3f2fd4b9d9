-- Definitions for `RejectedWithin`, which receives rejected readings one by one and counts them.
use Rattle.std.specs.Prelude.{◌≡◌}
use Rattle.interval_core.specs.declared.day_range.DayRange.{DayRange}
use Rattle.interval_core.specs.declared.zone.Zone.{Zone}
use Rattle.interval_core.specs.Ranges.{has_moment}
use Rattle.office_events.specs.declared.facts.HeldReading.{HeldReading}
use Rattle.energy_report.specs.declared.held_within.RejectedWithin.{RejectedWithin}
use Rattle.energy_report.specs.Held.{none_held, with_one}

-- True if a `RejectedWithin` (which counts rejected readings) is new, with the given time zone, the
-- given range of days, and counts that are all 0.
pub record HasCountedNone (zone : Zone) (range : DayRange) (new : RejectedWithin) : Type 0 where
  pub zone_is : new.zone ≡ zone
  pub range_is : new.range ≡ range
  pub none : new.counts ≡ none_held

-- The effect of receiving a rejected reading. If the reading's timestamp is in the range of days,
-- the count of readings rejected for the same cause grows by one. Other readings change nothing.
pub record CountsReading (old : RejectedWithin) (held : HeldReading) (new : RejectedWithin) : Type 0 where
  pub zone : new.zone ≡ old.zone
  pub range : new.range ≡ old.range
  pub counts : new.counts
      ≡ with_one old.counts (has_moment old.zone old.range held.at) held.cause
