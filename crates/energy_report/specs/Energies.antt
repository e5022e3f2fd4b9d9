-- Definitions for `EnergyWithin`, which receives interval rows (energies of quarter hours) one by
-- one and adds up their energy.
use Rattle.std.specs.Prelude.{◌≡◌, ◌+◌, ◌-◌, ◌^◌, min, if◌then◌else◌}
use Rattle.interval_core.specs.declared.shares.Share.{Share}
use Rattle.interval_core.specs.declared.zone.Zone.{Zone}
use Rattle.energy_report.specs.declared.energy_within.EnergyWithin.{EnergyWithin}
use Rattle.interval_core.specs.declared.day_range.DayRange.{DayRange}
use Rattle.interval_core.specs.Ranges.{has_moment}

-- True if an accumulator `EnergyWithin` is new, with the given time zone, the given range of days
-- and an energy of 0.
pub record IsFresh (zone : Zone) (range : DayRange) (new : EnergyWithin) : Type 0 where
  pub zone_is : new.zone ≡ zone
  pub range_is : new.range ≡ range
  pub none : new.mwh ≡ 0

-- The effect of adding an interval row (the energy of a quarter hour). If the quarter hour starts
-- in the range of days, its energy is added to the sum, up to 2^128 - 1 mWh. Other rows change
-- nothing.
pub record AddsShare (old : EnergyWithin) (row : Share) (new : EnergyWithin) : Type 0 where
  pub zone : new.zone ≡ old.zone
  pub range : new.range ≡ old.range
  pub mwh : new.mwh ≡ min (old.mwh
      + (if has_moment old.zone old.range row.start then row.mwh else 0)) (2 ^ 128 - 1)
