-- Definitions of the permitted causes of an error of a call on the store's tables, such as out of
-- memory or a failed disk.
use Rattle.std.specs.Prelude.{◌≡◌, ◌≤◌, ◌⊎◌, false, IsTrue, IsSome}
use Rattle.sqlite.specs.declared.error.ErrorCode.TheVariants.{OutOfMemory, OperationInterrupted}
use Rattle.sqlite.specs.declared.error.Error.{Error}
use Rattle.sqlite.specs.declared.error.Error.TheVariants.{SqliteFailure}
use Rattle.sqlite.specs.State.{State}
use Rattle.sqlite_disk.specs.Disk.{MoreFaults}
use Rattle.store_tables.specs.declared.faults.RowFault.{RowFault}
use Rattle.store_tables.specs.declared.faults.RowFault.TheVariants.{Sql, Damaged}

-- True if the database was closed before a call, or its disk failed or refused an access during the
-- call.
abbrev pub HasFailed : (old new : State) → Type 0
HasFailed old new = (old.is_open ≡ false) ⊎ MoreFaults old.faults new.faults

-- SQLite's error for out of memory.
abbrev pub want_of_memory : Error
want_of_memory = SqliteFailure OutOfMemory

-- True if an error has a permitted cause: out of memory, a closed database, a failed disk, or
-- SQLite's limit of computing steps.
abbrev pub IsStoreError : (old new : State) → Error → Type 0
IsStoreError old new e =
    (e ≡ want_of_memory)
    ⊎ (HasFailed old new
    ⊎ ((e ≡ SqliteFailure OperationInterrupted) × IsSome old.step_limit))

-- True if this fault is permitted for a query. An error of SQLite must have a permitted cause, such
-- as out of memory. `Damaged` is permitted only if a row has a value out of its range.
abbrev pub IsFault : (old new : State) → (IsSound : Type 0) → RowFault → Type 0
IsFault old new IsSound (Sql e) = IsStoreError old new e
IsFault old new IsSound Damaged = ¬ IsSound

-- True if this fault is permitted for a row's reader: out of memory, or `Damaged` if the row has a
-- value out of its range.
abbrev pub IsRowFault : (IsSound : Type 0) → RowFault → Type 0
IsRowFault IsSound (Sql e) = e ≡ want_of_memory
IsRowFault IsSound Damaged = ¬ IsSound

-- The state of a database connection after a call. Earlier disk failures stay counted, only a new
-- failure closes the database, and SQLite's limit of computing steps is unchanged.
pub record StateAfterCall (old new : State) : Type 0 where
  pub faults : old.faults ≤ new.faults
  pub closes : IsTrue old.is_open → IsTrue new.is_open ⊎ MoreFaults old.faults new.faults
  pub limit : new.step_limit ≡ old.step_limit
