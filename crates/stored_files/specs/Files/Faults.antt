-- Maps errors of SQLite to the faults of opening a database file.
use Rattle.std.specs.Prelude.{ℕ}
use Rattle.sqlite.specs.declared.error.ErrorCode.TheVariants.{DatabaseBusy, NotADatabase, DatabaseCorrupt, OutOfMemory}
use Rattle.sqlite.specs.declared.error.Error.{Error}
use Rattle.sqlite.specs.declared.error.Error.TheVariants.{SqliteFailure}
use Rattle.stored_files.specs.declared.files.faults.FileFault.{FileFault}
use Rattle.stored_files.specs.declared.files.faults.FileFault.TheVariants.{Missing, Busy, NoDatabase, Unreadable, Irregular, Log, Memory}

-- The numeric code (from 1) of each fault of opening a database file.
abbrev pub file_fault_number : FileFault → ℕ
file_fault_number Missing = 1
file_fault_number Busy = 2
file_fault_number NoDatabase = 3
file_fault_number Unreadable = 4
file_fault_number Memory = 5
file_fault_number Irregular = 6
file_fault_number (Log fault) = 7

-- The fault of a database file that can't be opened because of an SQLite error.
abbrev pub fault_of : Error → FileFault
fault_of (SqliteFailure DatabaseBusy) = Busy
fault_of (SqliteFailure NotADatabase) = NoDatabase
fault_of (SqliteFailure DatabaseCorrupt) = NoDatabase
fault_of (SqliteFailure OutOfMemory) = Memory
fault_of _ = Unreadable
