-- The numeric codes of the faults of time zones and civil days.
use Rattle.std.specs.Prelude.{ℕ}
use Rattle.interval_core.specs.declared.zone.ZoneFault.{ZoneFault}
use Rattle.interval_core.specs.declared.zone.ZoneFault.TheVariants as zone
use Rattle.interval_core.specs.declared.day.DayFault.{DayFault}
use Rattle.interval_core.specs.declared.day.DayFault.TheVariants as day

-- The numeric code of each reason why a text does not describe a time zone.
abbrev pub zone_fault_number : ZoneFault → ℕ
zone_fault_number zone.Text = 1
zone_fault_number zone.Memory = 2

-- The numeric code of each reason why a timestamp has no civil day.
abbrev pub day_fault_number : DayFault → ℕ
day_fault_number day.Zone = 1
day_fault_number day.Memory = 2
