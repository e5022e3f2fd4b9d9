-- Definitions about queries inside a transaction: for the index of the next row, and for the row
-- with a key.
use Rattle.std.specs.Prelude.{◌≡◌, ℕ, ◌+◌, Bool, nat_le, List, Option, Some, None, Result, Ok, Err, ⊤, if◌then◌else◌}
use Rattle.std.specs.List.{slice_get}
use Rattle.sqlite.specs.Order.{Row, column}
use Rattle.store_tables.specs.declared.faults.RowFault.{RowFault}
use Rattle.store_tables.specs.declared.faults.RowFault.TheVariants.{Damaged}
use Rattle.store_tables.specs.Columns.{whole_in, or_damaged, and_then}
use Rattle.store_tables.specs.Answer.{IsFound}
use Rattle.store_tables.specs.Content.{Content, HasRows}
use Rattle.store_tables.specs.Limits.{greatest_place}
use Rattle.store_tables.specs.declared.meters.rows.LastRow.{LastRow}
use Rattle.store_tables.specs.Meters.Rows.{Installed}

-- The index after a given index, or `Damaged` if the given index is the greatest index that the
-- tables allow.
abbrev pub one_on : ℕ → Result ℕ RowFault
one_on place = if nat_le greatest_place place then Err Damaged else Ok (place + 1)

-- The index that follows the index in the first column of a row, or `Damaged` if the row's index is
-- out of its range.
abbrev pub following_place : Row → Result ℕ RowFault
following_place row = and_then (or_damaged (whole_in 1 greatest_place (column row 0))) one_on

-- The index that follows the index in the given row, or 1 if there is no row.
abbrev pub place_after : Option Row → Result ℕ RowFault
place_after None = Ok 1
place_after (Some row) = following_place row

-- The index that follows the index in the first row of a query's result, or 1 if the result has no
-- row.
abbrev pub next_in : List Row → Result ℕ RowFault
next_in rows = place_after (slice_get rows 0)

-- States that, if a call inside a transaction returns `Ok`, the relation `Makes` holds between the
-- answer, the tables before the call, and the tables after it. States nothing after an error.
abbrev pub Answered : {X E : Type 0} → Result X E → (X → Content → Content → Type 0) → Content
    → Content → Type 0
Answered (Ok x) Makes = Makes x
Answered (Err e) Makes = λ content after. ⊤

-- True if a query found its answer in the only row that passes a test, and changed nothing.
pub record IsSeenIn {X A : Type 0} (tree : ℕ) (columns : X → Row) (passes : X → Bool)
    (IsSeen : X → A → Type 0) (answer : A) (content after : Content) : Type 0 where
  pub same : after ≡ content
  pub seen : (rows : List X) → HasRows tree columns rows content
      → IsFound passes IsSeen rows (Some answer)

-- True if the last meter entry that a query returned equals the last entry in a row of
-- `installations`.
abbrev pub StandsThere : Installed → LastRow → Type 0
StandsThere i last = last ≡ i.row.last
