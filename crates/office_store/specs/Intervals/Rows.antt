-- Defines the rows of `intervals` (a meter's energy by quarter hour), their columns, and the ranges
-- of their values.
use Rattle.std.specs.Prelude.{ℕ, pos, ◌≤◌, List, [], ◌∷◌, Bool, bytes_eq, ◌&&◌, ◌==◌, Result, Ok}
use Rattle.sqlite.specs.declared.types.Value.TheVariants.{Int, Text}
use Rattle.sqlite.specs.Order.{Row, column}
use Rattle.interval_core.specs.declared.shares.Share.{Share}
use Rattle.store_tables.specs.declared.faults.RowFault.{RowFault}
use Rattle.store_tables.specs.Limits.{latest_moment}
use Rattle.store_tables.specs.Meters.Rows.{greatest_total}
use Rattle.store_tables.specs.Columns.{whole_in, or_damaged, and_then}

-- The energy of a meter in a quarter hour, as a row of the table `intervals`.
pub record Interval : Type 0 where
  pub meter : List ℕ
  pub share : Share

-- The values of one row of the table `intervals`: a meter's energy in one quarter hour.
abbrev pub interval_columns : Interval → Row
interval_columns i = Text i.meter ∷ Int (pos i.share.start) ∷ Int (pos i.share.mwh) ∷ []

-- The columns that a SELECT from `intervals` returns for the energy of a quarter hour.
abbrev pub share_shown : Interval → Row
share_shown i = Int (pos i.share.start) ∷ Int (pos i.share.mwh) ∷ []

-- True if a row of `intervals` belongs to the meter `meter`.
abbrev pub is_of : (meter : List ℕ) → Interval → Bool
is_of meter i = bytes_eq i.meter meter

-- True if a row of `intervals` belongs to the meter `meter` and the quarter hour that begins at
-- `start`.
abbrev pub is_at : (meter : List ℕ) → (start : ℕ) → Interval → Bool
is_at meter start i = bytes_eq i.meter meter && (i.share.start == start)

-- The start of the quarter hour of a row of `intervals`, in seconds since 1970-01-01 UTC.
abbrev pub start_of : Interval → ℕ
start_of i = i.share.start

-- True if the start and the energy of a quarter hour are in the ranges that the columns of the
-- table `intervals` allow.
pub record IsSoundShare (share : Share) : Type 0 where
  pub start : share.start ≤ latest_moment
  pub mwh : share.mwh ≤ greatest_total

-- True if every value of a row of `intervals` is in the range that its column allows.
abbrev pub IsSoundInterval : Interval → Type 0
IsSoundInterval i = IsSoundShare i.share

-- The energy of a quarter hour in a result row, or `Damaged` if a column is out of its range.
abbrev pub share_in : Row → Result Share RowFault
share_in row =
    and_then (or_damaged (whole_in 0 latest_moment (column row 0))) (λ start.
    and_then (or_damaged (whole_in 0 greatest_total (column row 1))) (λ mwh.
    Ok (record { start = start; mwh = mwh })))
