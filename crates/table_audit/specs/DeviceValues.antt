-- Defines which rows of `devices` and `registers` have a value that `sunreg` can't read.
use Rattle.std.specs.Prelude.{Bool, true, ◌&&◌, is_ok, is_some}
use Rattle.sqlite.specs.Order.{Row, column}
use Rattle.store_tables.specs.Devices.Rows.{device_in, register_in}
use Rattle.table_audit.specs.declared.differences.NamedTable.{NamedTable}
use Rattle.table_audit.specs.declared.differences.NamedTable.TheVariants as table
use Rattle.table_audit.specs.Reading.{name_in}

-- True if all values of a result row, other than its name, are in the ranges in which `sunreg`
-- reads them. A register needs the valid name of its device too. The audit checks no values of
-- points.
abbrev pub has_values : NamedTable → Row → Bool
has_values table.Devices row = is_ok (device_in row)
has_values table.Registers row = is_ok (register_in row) && is_some (name_in (column row 2))
has_values table.Installations row = true
has_values table.Points row = true
