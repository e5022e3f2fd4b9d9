-- Conversions of query results: from the types of the SQL tables' functions to the types of the
-- store's interface. For example, a row with a value out of its range becomes the fault `Damaged`.
use Rattle.std.specs.Prelude.{Result, Ok, Err}
use Rattle.sqlite.specs.declared.error.ErrorCode.TheVariants.{OutOfMemory}
use Rattle.sqlite.specs.declared.error.Error.TheVariants.{SqliteFailure}
use Rattle.store_tables.specs.declared.faults.RowFault.{RowFault}
use Rattle.store_tables.specs.declared.faults.RowFault.TheVariants as row
use Rattle.office_books.specs.declared.faults.StoreFault.TheVariants.{Refused, Damaged}
use Rattle.office_books.specs.declared.faults.BooksFault.{BooksFault}
use Rattle.office_books.specs.declared.faults.BooksFault.TheVariants.{Store, Memory}

-- The error of the store's interface for an error of the tables. A row with a value out of its
-- range gives `Damaged`, lack of memory gives `Memory`, and any other error gives `Refused`.
abbrev pub fault_of : RowFault → BooksFault
fault_of row.Damaged = Store Damaged
fault_of (row.Sql (SqliteFailure OutOfMemory)) = Memory
fault_of (row.Sql _) = Store Refused

-- The result of a function of the store's interface. Its value is that of the called function on
-- the tables, and `fault_of` converts that function's error.
abbrev pub answer_of : {T : Type 0} → Result T RowFault → Result T BooksFault
answer_of (Ok answer) = Ok answer
answer_of (Err fault) = Err (fault_of fault)
