-- The energy by quarter hour of a list of steps (energies between consecutive entries), as interval
-- rows.
use Rattle.std.specs.Prelude.{ℕ, ◌+◌, ◌-◌, ◌==◌, nat_lt, List, [], ◌∷◌, map, if◌then◌else◌}
use Rattle.std.specs.List.{flat_map}
use Rattle.energy_core.specs.declared.entries.Step.{Step}
use Rattle.interval_core.specs.declared.shares.Share.{Share}
use Rattle.interval_core.specs.Share.{shares_of}

-- An interval row (the energy of a quarter hour), followed by the shares (energies by quarter hour)
-- of a later step. If the first share is in the row's quarter hour, the share is merged into the
-- row.
abbrev pub joined : Share → List Share → List Share
joined row [] = row ∷ []
joined row (share ∷ shares) =
    if row.start == share.start
    then record { start = row.start; mwh = row.mwh + share.mwh } ∷ shares
    else row ∷ share ∷ shares

-- Interval rows followed by the shares of a later step, which are the step's energies by quarter
-- hour. If the first share is in the last row's interval, it is merged into that row.
abbrev pub with_shares : List Share → List Share → List Share
with_shares [] shares = shares
with_shares (row ∷ []) shares = joined row shares
with_shares (row ∷ next ∷ rows) shares = row ∷ with_shares (next ∷ rows) shares

-- The interval rows (energies of quarter hours) of a list of steps, the latest step first. Each
-- interval that a step touches has one row, in order.
abbrev pub rows_of_steps : List Step → List Share
rows_of_steps [] = []
rows_of_steps (step ∷ steps) = with_shares (rows_of_steps steps) (shares_of step)

-- The energy of the interval rows that start before the time `bound`.
abbrev pub energy_before : (bound : ℕ) → List Share → ℕ
energy_before bound [] = 0
energy_before bound (row ∷ rows) =
    (if nat_lt row.start bound then row.mwh else 0) + energy_before bound rows

-- The interval rows that result when a share (an energy in one quarter hour) is added to the row of
-- its interval. Without such a row, the share becomes the last row.
abbrev pub with_share : Share → List Share → List Share
with_share share [] = share ∷ []
with_share share (row ∷ rows) =
    if row.start == share.start
    then record { start = row.start; mwh = row.mwh + share.mwh } ∷ rows
    else row ∷ with_share share rows

-- The interval rows that result when each share (an energy in one quarter hour) of a list is added
-- to the row of its interval.
abbrev pub with_each : (shares : List Share) → List Share → List Share
with_each [] rows = rows
with_each (share ∷ shares) rows = with_each shares (with_share share rows)

-- An interval row less the energy of a share (an energy in one quarter hour), if the share is in
-- the row's interval.
abbrev pub less : Share → Share → Share
less share row =
    if row.start == share.start then record { start = row.start; mwh = row.mwh - share.mwh }
    else row

-- The interval rows that result when a share (an energy in one quarter hour) is subtracted from the
-- row of its interval.
abbrev pub without_share : Share → List Share → List Share
without_share share rows = map (less share) rows

-- The interval rows that result when each share (an energy in one quarter hour) of a list is
-- subtracted from the row of its interval.
abbrev pub without_each : (shares : List Share) → List Share → List Share
without_each [] rows = rows
without_each (share ∷ shares) rows = without_each shares (without_share share rows)

-- The shares (energies by quarter hour) of all steps of a list, in the order of the steps.
abbrev pub all_shares : List Step → List Share
all_shares steps = flat_map shares_of steps
