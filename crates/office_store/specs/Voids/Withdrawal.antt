-- Defines the rows of `intervals` after the energy between two consecutive entries of a meter was
-- subtracted, split into the quarter hours between the entries.
use Rattle.std.specs.Prelude.{◌≡◌, ℕ, ◌-◌, ◌≤◌, nat_le, true, Bool, ◌&&◌, List, [], ◌∷◌}
use Rattle.std.specs.List.{AllByRecursion}
use Rattle.interval_core.specs.declared.shares.Share.{Share}
use Rattle.store_tables.specs.Content.{Content, Edits, changed_where, without_where}
use Rattle.store_tables.specs.Meters.Rows.{greatest_total}
use Rattle.office_store.specs.Intervals.Trees.{intervals}
use Rattle.office_store.specs.Intervals.Rows.{Interval, interval_columns, is_of, is_at, start_of}
use Rattle.office_store.specs.Intervals.StepShares.{EditsIf}

-- The row of `intervals` after its energy was reduced by `mwh`, in mWh.
abbrev pub lowered : (mwh : ℕ) → Interval → Interval
lowered mwh i = record i { share = record i.share { mwh = i.share.mwh - mwh } }

-- The rows of `intervals` after a share (a meter's energy in one quarter hour) was subtracted from
-- the meter's row for this quarter hour.
abbrev pub without_share : (meter : List ℕ) → Share → List Interval → List Interval
without_share meter share rows = changed_where (is_at meter share.start) (lowered share.mwh) rows

-- The rows of `intervals` after the energy of several quarter hours of a meter was subtracted.
abbrev pub without_shares : (meter : List ℕ) → List Share → List Interval → List Interval
without_shares meter [] rows = rows
without_shares meter (share ∷ shares) rows =
    without_shares meter shares (without_share meter share rows)

-- States that the meter's row for the quarter hour of a share (the energy in one quarter hour) has
-- at least the share's energy. Therefore this energy can be subtracted. The row's energy is also at
-- most the greatest total of a meter.
abbrev pub HasShare : (meter : List ℕ) → Share → Interval → Type 0
HasShare meter share i =
    is_at meter share.start i ≡ true
    → (share.mwh ≤ i.share.mwh) × (i.share.mwh ≤ greatest_total)

-- True if a meter's energy in several quarter hours can be subtracted one after another: each time,
-- the row of the quarter hour has at least the energy to subtract.
abbrev pub HaveShares : (meter : List ℕ) → List Share → List Interval → Type 0
HaveShares meter [] rows = Unit {0}
HaveShares meter (share ∷ shares) rows =
    AllByRecursion (HasShare meter share) rows
    × HaveShares meter shares (without_share meter share rows)

-- The effect of subtracting a meter's energy by quarter hours from the table `intervals`. The rows
-- lose the energy if each row has at least the energy to subtract.
abbrev pub TakesShares : (meter : List ℕ) → List Share → Content → Content → Type 0
TakesShares meter shares = EditsIf (HaveShares meter shares) (without_shares meter shares)

-- True if a row of `intervals` belongs to the meter `meter`, and its quarter hour starts at `from`
-- or later.
abbrev pub starts_from : (meter : List ℕ) → (from : ℕ) → Interval → Bool
starts_from meter from i = is_of meter i && nat_le from (start_of i)

-- The effect of deleting a meter's rows of `intervals` that start at `from` or later. Every other
-- row and table is unchanged.
abbrev pub DropsRows : (meter : List ℕ) → (from : ℕ) → Content → Content → Type 0
DropsRows meter from = Edits intervals interval_columns (without_where (starts_from meter from))
