-- Defines which faults of an audit are about the tables of the database file, and not about the
-- rows of these tables.
use Rattle.std.specs.Prelude.{◌≢◌}
use Rattle.sqlite.specs.Schema.{Schema}
use Rattle.store_tables.specs.Schema.{books_schema}
use Rattle.table_audit.specs.SchemaForms.{NamesDifference}
use Rattle.stored_files.specs.declared.audits.AuditFault.{AuditFault}
use Rattle.stored_files.specs.declared.audits.AuditFault.TheVariants.{NotOurs, Earlier, Store, Memory}
use Rattle.stored_files.specs.declared.audits.AuditFault.TheVariants.{Schema as Other}
use Rattle.store_tables.specs.declared.faults.RowFault.{RowFault}
use Rattle.store_tables.specs.declared.faults.RowFault.TheVariants.{Sql, Damaged}
use Rattle.sqlite.specs.declared.error.Error.{Error}
use Rattle.sqlite.specs.declared.error.Error.TheVariants.{SqliteFailure}
use Rattle.sqlite.specs.declared.error.ErrorCode.TheVariants.{OutOfMemory}

-- States that the fault of an audit is about the file's tables: foreign tables, tables of an
-- earlier version, or a schema that is not the program's. If the schema differs, the fault names
-- the first table that differs, if there is one.
abbrev pub IsOfTables : Schema → AuditFault → Type 0
IsOfTables schema NotOurs = Unit {0}
IsOfTables schema Earlier = Unit {0}
IsOfTables schema (Other fault) =
    (schema ≢ books_schema) × NamesDifference schema.tables fault
IsOfTables schema _ = ⊥

-- The fault of an audit for a fault of reading rows: out of memory if SQLite ran out of memory, and
-- otherwise a failed database.
abbrev pub fault_of : RowFault → AuditFault
fault_of (Sql (SqliteFailure OutOfMemory)) = Memory
fault_of _ = Store
