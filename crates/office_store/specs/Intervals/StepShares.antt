-- Defines the rows of `intervals` after the energy between two consecutive entries of a meter was
-- added, split into the quarter hours between the entries.
use Rattle.std.specs.Prelude.{◌≡◌, ◌≢◌, ℕ, ◌+◌, ◌≤◌, List, [], ◌∷◌, if◌then◌else◌}
use Rattle.std.specs.List.{list_any, AllByRecursion}
use Rattle.interval_core.specs.declared.shares.Share.{Share}
use Rattle.store_tables.specs.Content.{Content, HasRows, changed_where}
use Rattle.office_store.specs.Intervals.Trees.{intervals}
use Rattle.store_tables.specs.Meters.Rows.{greatest_total}
use Rattle.office_store.specs.Intervals.Rows.{Interval, interval_columns, is_at}

-- The row of `intervals` after its energy was increased by `mwh`, in mWh.
abbrev pub raised : (mwh : ℕ) → Interval → Interval
raised mwh i = record i { share = record i.share { mwh = i.share.mwh + mwh } }

-- The rows of `intervals` after a share (the energy in one quarter hour) was added to the meter's
-- row for this quarter hour. If no such row exists, the share becomes a new row.
abbrev pub with_share : (meter : List ℕ) → Share → List Interval → List Interval
with_share meter share rows =
    if list_any (is_at meter share.start) rows
    then changed_where (is_at meter share.start) (raised share.mwh) rows
    else (record { meter = meter; share = share }) ∷ rows

-- The rows of `intervals` after the energy of several quarter hours of a meter was added.
abbrev pub with_shares : (meter : List ℕ) → List Share → List Interval → List Interval
with_shares meter [] rows = rows
with_shares meter (share ∷ shares) rows = with_shares meter shares (with_share meter share rows)

-- True if no row of `intervals` has more energy than the greatest total energy that a meter may
-- have.
abbrev pub AreSmall : List Interval → Type 0
AreSmall = AllByRecursion (λ i. i.share.mwh ≤ greatest_total)

-- The effect of a write on the table `intervals`: if its rows have the property `May`, the write
-- changes them by the function `edit`. Every other table is unchanged.
pub record EditsIf (May : List Interval → Type 0) (edit : List Interval → List Interval)
    (content after : Content) : Type 0 where
  pub rows : (is : List Interval) → HasRows intervals interval_columns is content → May is
      → HasRows intervals interval_columns (edit is) after
  pub others : (t : ℕ) → t ≢ intervals → after t ≡ content t

-- The effect of adding a meter's energy by quarter hours to the table `intervals`. The rows get the
-- energy if afterwards no row exceeds the greatest total energy of a meter.
abbrev pub BooksShares : (meter : List ℕ) → List Share → Content → Content → Type 0
BooksShares meter shares =
    EditsIf (λ is. AreSmall (with_shares meter shares is)) (with_shares meter shares)
