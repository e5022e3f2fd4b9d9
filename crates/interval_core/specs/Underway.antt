-- The state of the iterator over the shares of a step: the energy between two readings, by quarter
-- hour.
use Rattle.std.specs.Prelude.{◌≡◌, ◌+◌, ◌-◌, ◌*◌, ◌/◌, ◌<◌, ◌≤◌, max, List, map}
use Rattle.std.specs.List.{range_with_len}
use Rattle.energy_core.specs.declared.limits.TheConstants.{INTERVAL_SECONDS}
use Rattle.interval_core.specs.Share.{running_energy, share_of}
use Rattle.interval_core.specs.declared.shares.Share.{Share}
use Rattle.interval_core.specs.declared.shares.Shares.TheInside.{Inside}

-- The invariant of the iterator over the shares (by quarter hour) of a step, the energy between two
-- readings. The step touches the next quarter hour, or the next quarter hour is the first after the
-- step. The field `reached` has the step's energy up to the start of the next quarter hour.
pub record IsUnderway (s : Inside) : Type 0 where
  pub begun : s.spread.step.from / INTERVAL_SECONDS ≤ s.interval
  pub end_is : s.end ≡ (s.spread.step.till - 1) / INTERVAL_SECONDS + 1
  pub within : s.interval ≤ s.end
  pub reached_is : s.interval < s.end
      → s.reached
      ≡ running_energy s.spread.step (max (s.interval * INTERVAL_SECONDS) s.spread.step.from)

-- The shares of a step (the energy between two readings), by quarter hour, that the iterator has
-- not returned yet.
abbrev pub left : Inside → List Share
left s = map (share_of s.spread.step) (range_with_len s.interval (s.end - s.interval))
