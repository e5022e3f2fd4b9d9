-- The spread of a step (the energy between two consecutive readings) over the quarter hours that it
-- touches. Quarter hour number n begins n * 900 seconds after 1970-01-01 UTC.
use Rattle.std.specs.Prelude.{ℕ, ◌+◌, ◌-◌, ◌*◌, ◌/◌, min, max, List, map}
use Rattle.std.specs.List.{range_with_len}
use Rattle.energy_core.specs.Account.{intervals_touched}
use Rattle.energy_core.specs.declared.entries.Step.{Step}
use Rattle.energy_core.specs.declared.limits.TheConstants.{INTERVAL_SECONDS}
use Rattle.interval_core.specs.declared.shares.Share.{Share}

-- The energy of a step (between two readings) up to a time, spread evenly over its seconds and
-- rounded down to whole mWh.
abbrev pub running_energy : Step → ℕ → ℕ
running_energy step moment = step.mwh * (moment - step.from) / (step.till - step.from)

-- The energy of a step (between two readings) in the quarter hour with this start: the energy up to
-- the quarter hour's end less the energy up to its start.
abbrev pub share_at : Step → ℕ → ℕ
share_at step start =
    running_energy step (min (start + INTERVAL_SECONDS) step.till)
    - running_energy step (max start step.from)

-- The share of a step (the energy between two readings) in the quarter hour `interval`: the quarter
-- hour's start and the step's energy in it.
abbrev pub share_of : Step → ℕ → Share
share_of step interval = let start = interval * INTERVAL_SECONDS in
    record { start = start; mwh = share_at step start }

-- The energy of a step (between two readings) in each quarter hour that it touches, in order.
abbrev pub shares_of : Step → List Share
shares_of step = map (share_of step)
    (range_with_len (step.from / INTERVAL_SECONDS) (intervals_touched step.from step.till))
