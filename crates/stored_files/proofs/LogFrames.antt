-- Lemmas on the frames in SQLite's write-ahead log: the next frame's offset is one frame length
-- greater, and each frame's checksum continues that of the frame before it.
use Rattle.std.proofs.Common.{◌≡◌, ◌≢◌, ◌⊎◌, ℕ, zero, suc, ◌+◌, ◌-◌, ◌*◌, ◌/◌, ◌≤◌, ◌<◌, List, [], ◌∷◌, length, sym, refl, ◌∙◌, ap, inl, inr, arith, add-one, div-mul-le_self, le-div_iff_mul-le, le-mul_of_pos_right, mul-le-mul_right}
use Rattle.std.proofs.lemmas.List.{nil_from_length}
use Rattle.sqlite_disk.specs.Disk.{Holds, Torn}
use Rattle.sqlite_wal.specs.declared.error.Error.{Error}
use Rattle.sqlite_wal.specs.declared.error.Error.TheVariants.{Io, OutOfMemory, Closed, NoSuchPage, Full, Corrupt, Exists}
use Rattle.sqlite_wal.specs.Format.{stored_sum}
use Rattle.sqlite_wal.specs.Opening.{RefusesLog}
use Rattle.sqlite_wal.specs.Outcome.{HasCause}
use Rattle.sqlite_wal.specs.Recovery.{Replays, frame, frame_at, frames_len, sum_before}
use Rattle.sqlite_wal.proofs.PartLemmas.{frames_len-zero, frames_len-suc, frames_len-le, held_is_part, part_whole}
use Rattle.stored_files.specs.declared.logs.check.LogFault.{LogFault}
use Rattle.stored_files.specs.declared.logs.check.LogFault.TheVariants.{Header, Count, Commits, Memory}
use Rattle.stored_files.specs.Logs.Damage.{KeepsAll}
use Rattle.stored_files.specs.Logs.Faults.{IsCause, IsUnread, fault_of}

-- The offset of frame `i` + 1 in a write-ahead log is the offset of frame `i` plus a frame's
-- length.
pub frame_ends : (page_size i : ℕ) → frame_at page_size (i + 1) ≡ frame_at page_size i + (24 + page_size)
frame_ends page_size i =
    let next = ap (frames_len page_size) (add-one i) ∙ frames_len-suc page_size i in
    omega (arith, next)

-- If `i` is at most `j`, then the offset of frame `i` in a write-ahead log is at most the offset of
-- frame `j`.
pub frame_at-le : (page_size i j : ℕ) → i ≤ j → frame_at page_size i ≤ frame_at page_size j
frame_at-le page_size i j low = omega (arith, frames_len-le page_size i j low)

-- The checksum that frame `i` of a write-ahead log must continue is stored in frame `i` - 1.
pub sum_behind : (page_size : ℕ) (log : List ℕ) (i : ℕ) → 0 < i
    → sum_before page_size log i ≡ stored_sum (frame page_size log (i - 1)) 16
sum_behind page_size log zero some = absurd (omega arith)
sum_behind page_size log (suc j) some =
    let last : suc j - 1 ≡ j = omega arith in
    ap (λ k. stored_sum (frame page_size log k) 16) (sym last)

-- After some bytes are written to an empty file, the file has exactly these bytes.
pub written_whole : (bytes new : List ℕ) → Torn 0 (length bytes) [] new
    → (0 < length bytes → Holds new 0 bytes) → new ≡ bytes
written_whole [] new torn holds = nil_from_length new (omega (arith, torn.no_longer))
written_whole (x ∷ xs) new torn holds =
    let held = holds (omega arith) in
    let len : length new ≡ length (x ∷ xs) = omega (arith, torn.no_longer, held.within) in
    sym (part_whole new _ len) ∙ held_is_part new (x ∷ xs) 0 _ held refl

few : (page_size k : ℕ) → k ≤ frames_len page_size k
unfolding frames_len
few page_size k = le-mul_of_pos_right k (omega arith)

-- If SQLite's recovery replays `k` frames of a write-ahead log, then the log file contains all
-- these frames.
pub taken_within : (page_size : ℕ) (log : List ℕ) (k : ℕ) → 32 ≤ length log → Replays page_size log k
    → frame_at page_size k ≤ length log
taken_within page_size log k room (inl ignored) =
    let none = ap (frame_at page_size) ignored.1 in
    omega (arith, none, frames_len-zero page_size)
taken_within page_size log zero room (inr taken) = omega (arith, frames_len-zero page_size)
taken_within page_size log (suc k) room (inr taken) =
    let last = taken.0.valid k (omega arith) in
    omega (arith, last.within, frames_len-suc page_size k)

-- If SQLite's recovery replays `k` frames of a write-ahead log, then `k` is at most the length of
-- the log in bytes.
pub taken_few : (page_size : ℕ) (log : List ℕ) (k : ℕ) → 32 ≤ length log → Replays page_size log k
    → k ≤ length log
taken_few page_size log k room taken =
    let within = taken_within page_size log k room taken in
    omega (arith, within, few page_size k)

-- If SQLite's recovery of a write-ahead log fails with an error, then the log has the defect that
-- this error reports, or memory ran out.
pub caused : (page_size : ℕ) (log : List ℕ) (old new : ℕ) (e : Error)
    → HasCause old new (RefusesLog page_size log) e → IsUnread page_size log (fault_of e)
caused page_size log old new (Io e) cause = tt
caused page_size log old new OutOfMemory cause = tt
caused page_size log old new Closed cause = tt
caused page_size log old new NoSuchPage cause = tt
caused page_size log old new Full cause = tt
caused page_size log old new Corrupt (inl counts) = counts.1
caused page_size log old new Corrupt (inr full) = grind (arith, full.0)
caused page_size log old new Exists cause = tt

-- A write-ahead log of `len` bytes completely contains every frame with an index below (`len` - 32)
-- / (24 + page size).
pub fits_below : (page_size len i : ℕ) → 32 ≤ len → i < (len - 32) / (24 + page_size)
    → frame_at page_size (i + 1) ≤ len
unfolding frames_len
fits_below page_size len i room low =
    let all = div-mul-le_self (len - 32) (24 + page_size) in
    let some : (i + 1) * (24 + page_size) ≤ (len - 32) / (24 + page_size) * (24 + page_size) =
    mul-le-mul_right (24 + page_size) (omega arith) in
    omega arith

pub low_if_fits : (page_size len j : ℕ) → frame_at page_size j + (24 + page_size) ≤ len
    → j < (len - 32) / (24 + page_size)
unfolding frames_len
low_if_fits page_size len j within =
    let all : (j + 1) * (24 + page_size) ≤ len - 32 = omega arith in
    let some = (le-div_iff_mul-le (omega arith)).1 all in
    omega (arith, some)

-- If SQLite's recovery can't read a write-ahead log for some reason, then the contract of the
-- function `check_log` allows that function to reject the log for this reason.
pub unread_causes : (page_size : ℕ) (log : List ℕ) (fault : LogFault) → IsUnread page_size log fault
    → IsCause page_size log fault
unread_causes page_size log Header unread = absurd unread
unread_causes page_size log Count unread = unread
unread_causes page_size log (Commits at) unread = absurd unread
unread_causes page_size log Memory unread = unread

-- If SQLite's recovery can't read a write-ahead log, then memory ran out, or `KeepsAll` is false.
-- `KeepsAll` states that the database file has all committed pages of the log.
pub unread_refuses : (page_size : ℕ) (log db : List ℕ) (fault : LogFault) → IsUnread page_size log fault
    → (fault ≡ Memory) ⊎ (¬ KeepsAll page_size log db)
unread_refuses page_size log db Header unread = absurd unread
unread_refuses page_size log db Count unread = inr (λ it. unread it.taken it.replays)
unread_refuses page_size log db (Commits at) unread = absurd unread
unread_refuses page_size log db Memory unread = inl refl
