-- Maps errors to the reasons why a database file can't be copied: errors of opening the copy, or of
-- merging the copy's write-ahead log into the copy.
use Rattle.sqlite.specs.declared.error.ErrorCode.TheVariants as code
use Rattle.sqlite.specs.declared.error.Error.{Error}
use Rattle.sqlite.specs.declared.error.Error.TheVariants.{SqliteFailure}
use Rattle.stored_files.specs.declared.files.faults.FileFault.{FileFault}
use Rattle.stored_files.specs.declared.files.faults.FileFault.TheVariants as file
use Rattle.stored_files.specs.declared.backups.faults.CopyFault.{CopyFault}
use Rattle.stored_files.specs.declared.backups.faults.CopyFault.TheVariants.{Changing, Torn, Unwritable, Memory}

-- The reason why copying a database file failed, if opening the copy failed with a `FileFault` (the
-- reason why a database file can't be opened).
abbrev pub copy_fault_of : FileFault → CopyFault
copy_fault_of file.NoDatabase = Torn
copy_fault_of file.Memory = Memory
copy_fault_of (file.Log fault) = Changing
copy_fault_of _ = Unwritable

-- The reason why copying failed, if merging the copy's write-ahead log into the copy failed with an
-- SQLite error.
abbrev pub close_fault_of : Error → CopyFault
close_fault_of (SqliteFailure code.DatabaseCorrupt) = Torn
close_fault_of (SqliteFailure code.OutOfMemory) = Memory
close_fault_of _ = Unwritable
