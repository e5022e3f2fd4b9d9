-- Checks that the value of a column is in its range. A value out of its range is reported as
-- `Damaged`.
use Rattle.std.specs.Prelude.{ℕ, suc, ℤ, pos, negsuc, Bool, nat_le, ◌&&◌, ◌==◌, if◌then◌else◌, List, Option, Some, None, Result, Ok, Err}
use Rattle.std.specs.List.{slice_get}
use Rattle.std.specs.Option.{option_and_then}
use Rattle.mb_wire.specs.declared.span.ReadFunction.{ReadFunction}
use Rattle.mb_wire.specs.declared.span.ReadFunction.TheVariants.{HoldingRegisters, InputRegisters}
use Rattle.sqlite.specs.Order.{Row, column}
use Rattle.sqlite.specs.declared.types.Value.{Value}
use Rattle.sqlite.specs.declared.types.Value.TheVariants.{Null, Int, Real, Text, Blob}
use Rattle.store_tables.specs.declared.faults.RowFault.{RowFault}
use Rattle.store_tables.specs.declared.faults.RowFault.TheVariants.{Damaged}

-- The integer in a column, or None if the column has no integer from `low` to `high`.
abbrev pub whole_in : (low high : ℕ) → Value → Option ℕ
whole_in low high (Int (pos n)) = if nat_le low n && nat_le n high then Some n else None
whole_in low high (Int (negsuc n)) = None
whole_in low high Null = None
whole_in low high (Real x) = None
whole_in low high (Text t) = None
whole_in low high (Blob b) = None

-- True if an integer is from `-bound` to `bound`.
abbrev pub is_within : (bound : ℕ) → ℤ → Bool
is_within bound (pos n) = nat_le n bound
is_within bound (negsuc n) = nat_le (suc n) bound

-- The integer in a column, or None if the column has no integer from `-bound` to `bound`.
abbrev pub within : (bound : ℕ) → Value → Option ℤ
within bound (Int n) = if is_within bound n then Some n else None
within bound Null = None
within bound (Real x) = None
within bound (Text t) = None
within bound (Blob b) = None

-- The Modbus read function with a function code (3 or 4), or None for any other code.
abbrev pub function_of : ℕ → Option ReadFunction
function_of code =
    if code == 3 then Some HoldingRegisters else if code == 4 then Some InputRegisters else None

-- The Modbus read function whose function code (3 or 4) is in a column, or None for any other
-- value.
abbrev pub function_in : Value → Option ReadFunction
function_in v = option_and_then function_of (whole_in 3 4 v)

-- Ok with the value of a column, or `Damaged` if the column has no valid value.
abbrev pub or_damaged : {X : Type 0} → Option X → Result X RowFault
or_damaged None = Err Damaged
or_damaged (Some x) = Ok x

-- Continues with the next column of a row if this column is Ok, and otherwise returns the fault of
-- this column.
abbrev pub and_then : {X Y : Type 0} → Result X RowFault → (X → Result Y RowFault)
    → Result Y RowFault
and_then (Err e) next = Err e
and_then (Ok x) next = next x

-- The integer in the first column of a row, or None without a row. An integer outside `low` to
-- `high` is reported as `Damaged`.
abbrev pub first_of : (low high : ℕ) → Option Row → Result (Option ℕ) RowFault
first_of low high None = Ok None
first_of low high (Some row) =
    and_then (or_damaged (whole_in low high (column row 0))) (λ n. Ok (Some n))

-- The integer in the first column of a result's first row, or None without rows. An integer outside
-- `low` to `high` is reported as `Damaged`.
abbrev pub first_in : (low high : ℕ) → List Row → Result (Option ℕ) RowFault
first_in low high rows = first_of low high (slice_get rows 0)
