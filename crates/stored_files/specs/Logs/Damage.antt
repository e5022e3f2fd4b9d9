-- Defines write-ahead logs that have lost commits after they were on the disk (SQLite's file
-- format, section 4).
use Rattle.std.specs.Prelude.{◌≡◌, ◌≢◌, ◌⊎◌, ℕ, ◌+◌, ◌-◌, ◌<◌, ◌≤◌, List, [], length, slice_index, slice_set}
use Rattle.sqlite_wal.specs.Format.{count_page, commit_size, page_number, IsSigned, IsHeader}
use Rattle.sqlite_wal.specs.Recovery.{Passes, Replays, frame, frame_at, header, pages_after}

-- States that the write-ahead log is long enough for its header and the header of a frame. A
-- shorter log has no commit.
abbrev pub HasRoom : List ℕ → Type 0
HasRoom log = 32 + 24 ≤ length log

-- States that frame `i` of a write-ahead log begins a transaction directly after another
-- transaction. The frame before frame `i` ends a commit, and frame `i` continues this frame's
-- checksum.
pub record Begins (page_size : ℕ) (log : List ℕ) (i : ℕ) : Type 0 where
  pub commits : commit_size (frame page_size log (i - 1)) ≢ 0
  pub passes : Passes page_size log i

-- States that the first salt byte in frame `k` of a write-ahead log equals the first salt byte in
-- the log's header.
abbrev pub IsOpen : ℕ → List ℕ → ℕ → Type 0
IsOpen page_size log k = slice_index log (frame_at page_size k + 8) ≡ slice_index log 16

-- States that a transaction begins at frame `i`, but that recovery ends earlier, at frame `k`. A
-- transaction begins only after the previous one is on the disk. The transaction at frame `k` was
-- therefore complete, and was damaged later. One of two facts must confirm this. Either the first
-- salt byte of frame `k`, which a commit without a count frame writes last, equals that of the
-- log's header. Or frame `i` is a count frame (an extra first frame that counts the zero bytes of a
-- commit).
pub record IsCutOff (page_size : ℕ) (log : List ℕ) (k i : ℕ) : Type 0 where
  pub behind : k < i
  pub begins : Begins page_size log i
  pub complete : IsOpen page_size log k ⊎ (page_number (frame page_size log i) ≡ count_page)

-- States that SQLite's recovery replays only the first `k` frames of the write-ahead log, and loses
-- a transaction that was on the disk.
pub record LosesFrom (page_size : ℕ) (log : List ℕ) (k : ℕ) : Type 0 where
  pub taken : Replays page_size log k
  pub lost : (i : ℕ) × IsCutOff page_size log k i

-- States that SQLite's recovery loses no transaction that the bytes of the write-ahead log show: no
-- other transaction follows the frames that recovery replays (`IsCutOff`).
pub record IsWhole (page_size : ℕ) (log : List ℕ) : Type 0 where
  pub head : IsHeader page_size (header log)
  pub taken : ℕ
  pub replays : Replays page_size log taken
  pub none_lost : (i : ℕ) → ¬ IsCutOff page_size log taken i

-- States that the write-ahead log is too short for a commit, or that recovery replays every
-- transaction that was on the disk.
abbrev pub IsSound : ℕ → List ℕ → Type 0
IsSound page_size log = (length log < 32 + 24) ⊎ IsWhole page_size log

-- Definitions of write-ahead logs whose first byte a checkpoint has changed.

-- States that the first byte of a write-ahead log is not that of an SQLite log. A checkpoint
-- changes this byte once the database file has all pages of the log. The checkpoint restores the
-- byte when the log's new header is on the disk.
abbrev pub IsShut : List ℕ → Type 0
IsShut log = slice_index log 0 ≢ 0x37

-- The write-ahead log with the first byte that it had before a checkpoint changed this byte.
abbrev pub opened : List ℕ → List ℕ
opened log = slice_set log 0 0x37

-- States that replaying the first `k` frames of the write-ahead log would leave each page of the
-- database file unchanged.
abbrev pub KeepsPages : ℕ → List ℕ → List ℕ → ℕ → Type 0
KeepsPages page_size log db k =
    (n : ℕ) → pages_after page_size log db k n ≡ pages_after page_size [] db 0 n

-- States that the database file already has all committed pages of the write-ahead log, so that
-- ignoring the log loses nothing.
pub record KeepsAll (page_size : ℕ) (log db : List ℕ) : Type 0 where
  pub head : IsHeader page_size (header log)
  pub taken : ℕ
  pub replays : Replays page_size log taken
  pub keeps : KeepsPages page_size log db taken

-- States that SQLite loses nothing by ignoring a write-ahead log whose first byte a checkpoint
-- changed.
abbrev pub IsEmptied : ℕ → List ℕ → List ℕ → Type 0
IsEmptied page_size log db = KeepsAll page_size (opened log) db

-- Defines the valid log headers that differ from a damaged header in one byte.

-- States that `other` is a valid header of a write-ahead log that differs from the header `head` in
-- at most one byte.
pub record IsMended (page_size : ℕ) (head other : List ℕ) : Type 0 where
  pub is_header : IsHeader page_size other
  pub at : ℕ
  pub byte : ℕ
  pub within : at < 32
  pub changed : other ≡ slice_set head at byte
