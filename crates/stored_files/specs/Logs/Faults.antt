-- Defines the reasons why a database's write-ahead log is rejected.
use Rattle.std.specs.Prelude.{◌≡◌, ℕ, List, ⊤}
use Rattle.sqlite_wal.specs.declared.error.Error.{Error}
use Rattle.sqlite_wal.specs.declared.error.Error.TheVariants.{Corrupt}
use Rattle.sqlite_wal.specs.Format.{IsHeader}
use Rattle.sqlite_wal.specs.Recovery.{Replays, frame_at, header}
use Rattle.stored_files.specs.declared.logs.check.LogFault.{LogFault}
use Rattle.stored_files.specs.declared.logs.check.LogFault.TheVariants.{Header, Count, Commits, Memory}
use Rattle.stored_files.specs.Logs.Damage.{HasRoom, LosesFrom}

-- States what is wrong with a write-ahead log that was rejected with a given `LogFault`. For
-- `Memory`, states nothing.
abbrev pub IsCause : ℕ → List ℕ → LogFault → Type 0
IsCause page_size log Header = HasRoom log × (¬ IsHeader page_size (header log))
IsCause page_size log Count = (k : ℕ) → ¬ Replays page_size log k
IsCause page_size log (Commits at) = (k : ℕ) × (at ≡ frame_at page_size k) × LosesFrom page_size log k
IsCause page_size log Memory = ⊤

-- States why SQLite's recovery could not read the frames of a write-ahead log, if reading them
-- failed with a given `LogFault`. For `Memory`, states nothing.
abbrev pub IsUnread : ℕ → List ℕ → LogFault → Type 0
IsUnread page_size log Count = (k : ℕ) → ¬ Replays page_size log k
IsUnread page_size log Memory = ⊤
IsUnread page_size log Header = ⊥
IsUnread page_size log (Commits at) = ⊥

-- The reason for rejecting a write-ahead log, if reading the log's frames failed with an SQLite
-- error.
abbrev pub fault_of : Error → LogFault
fault_of Corrupt = Count
fault_of _ = Memory
