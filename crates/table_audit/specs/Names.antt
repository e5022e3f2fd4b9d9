-- Defines which rows of `devices`, `points` and `registers` have no valid name or another value out
-- of its range, and the discrepancies that an audit reports for them.
use Rattle.std.specs.Prelude.{◌≡◌, ◌↔◌, ℕ, suc, Bool, true, false, List, [], ◌∷◌, ◌++◌, if◌then◌else◌}
use Rattle.std.specs.List.{list_all}
use Rattle.office_events.specs.Names.{is_name}
use Rattle.point_list.specs.Names.{is_name as is_point_name}
use Rattle.sqlite.specs.declared.types.Value.{Value}
use Rattle.sqlite.specs.declared.types.Value.TheVariants.{Null, Int, Real, Text, Blob}
use Rattle.sqlite.specs.Order.{Row, column}
use Rattle.store_tables.specs.Answer.{AnyOrder, every}
use Rattle.store_tables.specs.Asking.{Shows}
use Rattle.store_tables.specs.Content.{Content}
use Rattle.store_tables.specs.Devices.Trees as device_tree
use Rattle.table_audit.specs.declared.differences.Difference.{Difference}
use Rattle.table_audit.specs.declared.differences.Difference.TheVariants.{Unnamed, Unreadable}
use Rattle.table_audit.specs.declared.differences.NamedTable.{NamedTable}
use Rattle.table_audit.specs.declared.differences.NamedTable.TheVariants as table
use Rattle.table_audit.specs.declared.findings.Findings.{Findings}
use Rattle.table_audit.specs.DeviceValues.{has_values}
use Rattle.table_audit.specs.Named.{IsReported}
use Rattle.table_audit.specs.Showing.{InPlace}

-- True if a text is a valid name in the rows of a table. Names of points may be longer than other
-- names, and may have dots.
abbrev pub is_name_of : NamedTable → List ℕ → Bool
is_name_of table.Installations text = is_name text
is_name_of table.Devices text = is_name text
is_name_of table.Registers text = is_name text
is_name_of table.Points text = is_point_name text

-- True if an SQL value is a text that is a valid name in the rows of a table.
abbrev pub names_one : NamedTable → Value → Bool
names_one of_table (Text text) = is_name_of of_table text
names_one of_table Null = false
names_one of_table (Int n) = false
names_one of_table (Real x) = false
names_one of_table (Blob bytes) = false

-- True if the second column of a result row has a valid name.
abbrev pub has_name : NamedTable → Row → Bool
has_name of_table row = names_one of_table (column row 1)

-- A list with one discrepancy if the result row with the number `n` has no valid name, otherwise an
-- empty list.
abbrev pub unnamed_row : NamedTable → (n : ℕ) → Row → List Difference
unnamed_row of_table n row = if has_name of_table row then [] else Unnamed of_table n ∷ []

-- A list with one discrepancy if the result row with the number `n` has a valid name, but another
-- value out of its range. Otherwise an empty list.
abbrev pub unreadable_row : NamedTable → (n : ℕ) → Row → List Difference
unreadable_row of_table n row =
    if has_name of_table row
    then (if has_values of_table row then [] else Unreadable of_table n ∷ [])
    else []

-- The discrepancies of all result rows, where `of_row` has those of one row. The rows are numbered
-- from `n`.
abbrev pub of_each : (of_row : ℕ → Row → List Difference) → (n : ℕ) → List Row → List Difference
of_each of_row n [] = []
of_each of_row n (row ∷ rows) = of_row n row ++ of_each of_row (suc n) rows

-- The discrepancies of all result rows that have no valid name. The rows are numbered from 1.
abbrev pub unnamed_in : NamedTable → List Row → List Difference
unnamed_in of_table rows = of_each (unnamed_row of_table) 1 rows

-- The discrepancies of all result rows that have a valid name, but another value out of its range.
-- The rows are numbered from 1.
abbrev pub unreadable_in : NamedTable → List Row → List Difference
unreadable_in of_table rows = of_each (unreadable_row of_table) 1 rows

-- The result row of a query for a device: its index, its name, and its other columns.
abbrev pub device_shown : Row → Row
device_shown row =
    column row 0 ∷ column row 2 ∷ column row 3 ∷ column row 4 ∷ column row 5 ∷ []

-- The result row of a query for a point: its index and its name. Rows of `points` have no rowid
-- column.
abbrev pub point_shown : Row → Row
point_shown row = column row 1 ∷ column row 2 ∷ []

-- The result row of a query for an accounting register (a named energy counter): its index, its
-- name, and its other columns.
abbrev pub register_shown : Row → Row
register_shown row =
    column row 0 ∷ column row 2 ∷ column row 3 ∷ column row 4 ∷ column row 5 ∷ column row 6
    ∷ column row 7 ∷ []

-- True if a query returns all devices, in the order of their indices.
abbrev pub ShowsDevices : Content → List Row → Type 0
ShowsDevices content rows = Shows every InPlace device_shown (content device_tree.devices) rows

-- True if a query returns the indices and names of all points, in any order.
abbrev pub ShowsPoints : Content → List Row → Type 0
ShowsPoints content rows = Shows every AnyOrder point_shown (content device_tree.points) rows

-- True if a query returns all registers, in the order of their indices.
abbrev pub ShowsRegisters : Content → List Row → Type 0
ShowsRegisters content rows =
    Shows every InPlace register_shown (content device_tree.registers) rows

-- The discrepancies of all devices, points and registers: first the rows without a valid name, then
-- the devices and registers with another value out of its range.
abbrev pub found_in_all : (devices points registers : List Row) → List Difference
found_in_all devices points registers =
    unnamed_in table.Devices devices ++ unnamed_in table.Points points
    ++ unnamed_in table.Registers registers
    ++ unreadable_in table.Devices devices ++ unreadable_in table.Registers registers

-- States that all devices, points and registers have valid names, and that all other values of
-- devices and registers are in their ranges.
pub record AreReadable (devices points registers : List Row) : Type 0 where
  pub devices_named : list_all (has_name table.Devices) devices ≡ true
  pub points_named : list_all (has_name table.Points) points ≡ true
  pub registers_named : list_all (has_name table.Registers) registers ≡ true
  pub devices_valid : list_all (has_values table.Devices) devices ≡ true
  pub registers_valid : list_all (has_values table.Registers) registers ≡ true

-- The contract of the audit of names. It reports each device, point and register that has no valid
-- name, and each device and register with another value out of its range. It reports nothing if and
-- only if there are none.
pub record ReportsNames (old new : Findings) (content : Content) : Type 0 where
  pub devices : List Row
  pub points : List Row
  pub registers : List Row
  pub devices_shown : ShowsDevices content devices
  pub points_shown : ShowsPoints content points
  pub registers_shown : ShowsRegisters content registers
  pub each : IsReported (found_in_all devices points registers) old new
  pub reported : (new.first.items ≡ [])
      ↔ ((old.first.items ≡ []) × AreReadable devices points registers)
