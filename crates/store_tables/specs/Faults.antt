-- The reasons why a database file is not opened or not created, and the numeric codes of these
-- reasons.
use Rattle.std.specs.Prelude.{⊤, ◌≤◌, ◌⊎◌, ℕ, IsSome}
use Rattle.sqlite.specs.State.{State}
use Rattle.sqlite.specs.declared.error.ErrorCode.TheVariants.{OutOfMemory}
use Rattle.sqlite.specs.declared.error.Error.{Error}
use Rattle.sqlite.specs.declared.error.Error.TheVariants.{SqliteFailure}
use Rattle.store_tables.specs.Failing.{HasFailed}
use Rattle.store_tables.specs.declared.open_faults.OpenFault.{OpenFault}
use Rattle.store_tables.specs.declared.open_faults.OpenFault.TheVariants.{NotOurs, Zone, Store, Memory}

-- The numeric code of a fault in opening or creating a file.
abbrev pub open_fault_number : OpenFault → ℕ
open_fault_number NotOurs = 1
open_fault_number Zone = 2
open_fault_number Store = 3
open_fault_number Memory = 4

-- True if a fault of opening a file came from the database, not from the file's content. Either the
-- database was closed, its disk failed, it reached SQLite's limit of steps, or memory ran out.
abbrev pub IsOwnFault : (old new : State) → OpenFault → Type 0
IsOwnFault old new Store =
    (old.faults ≤ new.faults) × (HasFailed old new ⊎ IsSome old.step_limit)
IsOwnFault old new Memory = ⊤
IsOwnFault old new NotOurs = ⊥
IsOwnFault old new Zone = ⊥

-- The fault of opening a file for an error of SQLite: `Memory` for out of memory, `Store` for any
-- other error.
abbrev pub fault_of : Error → OpenFault
fault_of (SqliteFailure OutOfMemory) = Memory
fault_of _ = Store
