-- The energy of a list of steps, added up by quarter hour. A step is the energy between two
-- consecutive readings of a meter.
use Rattle.std.specs.Prelude.{◌≡◌, ◌↔◌, ℕ, ◌+◌, ◌%◌, ◌<◌, ◌≤◌, ◌⊎◌, List, [], ◌∷◌, map, All, Any, Contains, sum_by}
use Rattle.energy_core.specs.declared.entries.Step.{Step}
use Rattle.energy_core.specs.declared.limits.TheConstants.{INTERVAL_SECONDS}
use Rattle.interval_core.specs.declared.shares.Share.{Share}
use Rattle.interval_core.specs.Share.{share_at, shares_of}

-- States that a step (the energy between two readings) touches the quarter hour with this start:
-- the two have a second in common.
abbrev pub Touches : Step → ℕ → Type 0
Touches step start = (start % INTERVAL_SECONDS ≡ 0) × (start < step.till)
    × (step.from < start + INTERVAL_SECONDS)

-- The start times of the quarter hours in a list of interval rows (energies of quarter hours).
abbrev pub starts_of : List Share → List ℕ
starts_of rows = map (λ row. row.start) rows

-- The sum of the energies of interval rows (energies of quarter hours), in mWh.
abbrev pub energy_of : List Share → ℕ
energy_of rows = sum_by (λ row. row.mwh) rows

-- States that the numbers of a list ascend strictly: each number is less than all numbers after it.
abbrev pub IsAscending : List ℕ → Type 0
IsAscending [] = Unit {0}
IsAscending (n ∷ ns) = All (λ later. n < later) ns × IsAscending ns

-- States that `shares` has the energy of a step (between two readings) in each quarter hour that it
-- touches, in order. The shares add up to the step's energy. The step has no energy in any other
-- quarter hour.
pub record IsSpread (step : Step) (shares : List Share) : Type 0 where
  pub in_order : IsAscending (starts_of shares)
  pub touched : (start : ℕ) → Contains (starts_of shares) start ↔ Touches step start
  pub each : All (λ share. share.mwh ≡ share_at step share.start) shares
  pub outside : (start : ℕ) → (start + INTERVAL_SECONDS ≤ step.from) ⊎ (step.till ≤ start)
      → share_at step start ≡ 0
  pub whole : energy_of shares ≡ step.mwh

-- Theorem: the division of a step's energy (between two readings) into quarter hours is exact. The
-- shares (the energies of the quarter hours) are in order and add up to the step's energy.
abbrev pub SharesAddUp : Type 0
SharesAddUp = (step : Step) → step.from < step.till → IsSpread step (shares_of step)

-- States that `rows` contains one row for each quarter hour that at least one of the steps
-- (energies between two readings) touches, in order. Each row is the sum of all steps' energies in
-- its quarter hour.
pub record IsAccount (steps : List Step) (rows : List Share) : Type 0 where
  pub in_order : IsAscending (starts_of rows)
  pub touched : (start : ℕ)
      → Contains (starts_of rows) start ↔ Any (λ step. Touches step start) steps
  pub each : All (λ row. row.mwh ≡ sum_by (λ step. share_at step row.start) steps) rows

-- Theorem: suppose that each interval row is the sum of the energies of all steps (between
-- readings) in its quarter hour. Then the rows have the same total energy as the steps.
abbrev pub AccountsAddUp : Type 0
AccountsAddUp = (steps : List Step) (rows : List Share) → All (λ step. step.from < step.till) steps
    → IsAccount steps rows
    → energy_of rows ≡ sum_by (λ step. step.mwh) steps
