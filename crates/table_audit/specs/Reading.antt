-- Parses the rows that the tables have for a meter.
use Rattle.std.specs.Prelude.{◌≡◌, ℕ, ◌==◌, Bool, List, [], ◌∷◌, Option, Some, None, Result, Ok, Vec, String, if◌then◌else◌}
use Rattle.std.specs.Prelude.{IsUtf8, string_bytes}
use Rattle.std.specs.List.{list_any}
use Rattle.std.specs.Option.{option_and_then}
use Rattle.energy_core.specs.declared.limits.TheConstants.{MAX_RANGE, MAX_SHOWN, MAX_TOTAL, MIN_RANGE}
use Rattle.interval_core.specs.declared.shares.Share.{Share}
use Rattle.meter_journal.specs.declared.audit.rows.RowKind.{RowKind}
use Rattle.meter_journal.specs.declared.audit.rows.RowKind.TheVariants.{Opening, Reading, Manual, Closing, Reset, Rescale}
use Rattle.meter_journal.specs.declared.audit.rows.TableRow.{TableRow}
use Rattle.office_events.specs.Names.{named}
use Rattle.sqlite.specs.declared.types.Value.{Value}
use Rattle.sqlite.specs.declared.types.Value.TheVariants.{Null, Int, Real, Text, Blob}
use Rattle.sqlite.specs.Order.{Row, column}
use Rattle.store_tables.specs.declared.faults.RowFault.{RowFault}
use Rattle.store_tables.specs.Columns.{whole_in, within, or_damaged, and_then}
use Rattle.store_tables.specs.Limits.{greatest_place, latest_moment}
use Rattle.table_audit.specs.declared.rows.VoidRow.{VoidRow}

-- The entry kind with the number `n` in the tables, or None if no kind has this number.
abbrev pub kind_of : ℕ → Option RowKind
kind_of n =
    if n == 1 then Some Opening else
    if n == 2 then Some Reading else
    if n == 3 then Some Manual else
    if n == 4 then Some Closing else
    if n == 5 then Some Reset else
    if n == 6 then Some Rescale else None

-- Parses the kind of a meter entry from the value of a column. Returns None if no kind has this
-- value.
abbrev pub kind_in : Value → Option RowKind
kind_in v = option_and_then kind_of (whole_in 1 6 v)

-- True if one of a meter's voids (cancellations) names the entry at index `place`.
abbrev pub is_named : (voids : List VoidRow) → (place : ℕ) → Bool
is_named voids place = list_any (λ v. v.place == place) voids

-- Parses a meter entry from a result row. If one of the meter's voids names the entry, the entry is
-- marked as voided (cancelled). If a column is out of its range, the result is the error that
-- reports a damaged file.
abbrev pub entry_in : (voids : List VoidRow) → Row → Result TableRow RowFault
entry_in voids row =
    and_then (or_damaged (whole_in 1 greatest_place (column row 0))) (λ place.
    and_then (or_damaged (kind_in (column row 1))) (λ kind.
    and_then (or_damaged (whole_in 0 latest_moment (column row 2))) (λ moment.
    and_then (or_damaged (whole_in 0 MAX_SHOWN (column row 3))) (λ raw.
    and_then (or_damaged (whole_in 0 255 (column row 4))) (λ rolls.
    and_then (or_damaged (whole_in 0 MAX_SHOWN (column row 5))) (λ after.
    and_then (or_damaged (within 3 (column row 6))) (λ sf.
    Ok (record {
      place = place;
      kind = kind;
      moment = moment;
      raw = raw;
      rolls = rolls;
      after = after;
      sf = sf;
      is_voided = is_named voids place;
    }))))))))

-- Parses a void (a cancellation of an entry) from a result row. If a column is out of its range,
-- the result is the error that reports a damaged file.
abbrev pub void_in : Row → Result VoidRow RowFault
void_in row =
    and_then (or_damaged (whole_in 1 greatest_place (column row 0))) (λ place.
    and_then (or_damaged (whole_in 0 latest_moment (column row 1))) (λ moment.
    Ok (record { place = place; moment = moment })))

-- Parses the start and the energy of a quarter hour from a result row. If a column is out of its
-- range, the result is the error that reports a damaged file.
abbrev pub share_in : Row → Result Share RowFault
share_in row =
    and_then (or_damaged (whole_in 0 latest_moment (column row 0))) (λ start.
    and_then (or_damaged (whole_in 0 MAX_TOTAL (column row 1))) (λ mwh.
    Ok (record { start = start; mwh = mwh })))

-- Parses a counter's range from a result row. If the program does not allow the range, the result
-- is the error that reports a damaged file.
abbrev pub range_in : Row → Result ℕ RowFault
range_in row = or_damaged (whole_in MIN_RANGE MAX_RANGE (column row 0))

-- Parses all rows of a list with the function `read`. If `read` fails for a row, the result is the
-- error of the first such row.
abbrev pub all_in : {X : Type 0} → (Row → Result X RowFault) → List Row
    → Result (List X) RowFault
all_in read [] = Ok []
all_in read (row ∷ rows) =
    and_then (read row) (λ x. and_then (all_in read rows) (λ xs. Ok (x ∷ xs)))

-- States that a result has the values that `read` returns for all rows. If `read` fails for one of
-- the rows, the result must be None.
abbrev pub AreRead : {X Z : Type 0} → (Row → Result X RowFault) → List Row → Option (Vec X Z)
    → Type 0
AreRead {X} read rows None = (xs : List X) → all_in read rows ≡ Ok xs → ⊥
AreRead read rows (Some found) = all_in read rows ≡ Ok found.items

-- States that a result is the UTF-8 text of a column, or None because the column has no UTF-8 text.
abbrev pub IsTextIn : {Z : Type 0} → Value → Option (String Z) → Type 0
IsTextIn v None = (text : List ℕ) → IsUtf8 text → v ≡ Text text → ⊥
IsTextIn v (Some text) = v ≡ Text (string_bytes text)

-- The name of a device, register or meter in a column. The result is None if the column has no
-- text, or a text that is no valid name.
abbrev pub name_in : Value → Option (List ℕ)
name_in (Text text) = named text
name_in Null = None
name_in (Int n) = None
name_in (Real x) = None
name_in (Blob bytes) = None
