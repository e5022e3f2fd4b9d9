-- The bytes of a request that a buffer has read from a client's connection.
use Rattle.std.specs.Prelude.{◌≡◌, ◌+◌, ◌-◌, ◌^◌, min, ℕ, Bool, true, false, List, ◌++◌, length, take, Option, Some, None, option_map, Result, Ok, Err}
use Rattle.std.specs.Io.KnownBytes.{Consumes, IsAtEnd, Keeps}
use Rattle.mb_wire.specs.declared.link.LastTake.{LastTake}
use Rattle.mb_wire.specs.declared.link.Took.{Took}
use Rattle.mb_wire.specs.declared.link.Took.TheVariants.{Bytes, End, Idle}
use Rattle.mb_wire.specs.declared.link.LinkFailed.{LinkFailed}
use Rattle.office_http.specs.declared.messages.reading.inbox.Inbox.{Inbox}
use Rattle.office_http.specs.declared.messages.reading.inbox.TakeFault.{TakeFault}
use Rattle.office_http.specs.declared.messages.reading.inbox.TakeFault.TheVariants.{Read, Short, TurnsUsed}

-- The bytes in the buffer: all bytes that the buffer has read from the client's connection.
abbrev pub bytes_in : Inbox → List ℕ
bytes_in inbox = take inbox.filled inbox.room.now

-- The capacity of a request's buffer in bytes.
abbrev pub room_of : Inbox → ℕ
room_of inbox = length inbox.room.now

-- True if the connection's count of reads is `base` plus the reads of this buffer. The count
-- saturates at 2^64 - 1.
abbrev pub IsCounted : ℕ → ℕ → Inbox → Type 0
IsCounted base taken inbox = taken ≡ min (base + inbox.takes) (2 ^ 64 - 1)

-- True if the buffer's capacity is unchanged, and its count includes each read of the connection.
-- After the fault TurnsUsed, the buffer has made 100,000 reads.
pub record CountsTakes {X : Type 0} (result : Result X TakeFault) (old new : Inbox)
    (before after : ℕ) : Type 0 where
  pub room : room_of new ≡ room_of old
  pub counts : (base : ℕ) → IsCounted base before old → IsCounted base after new
  pub used : result ≡ Err TurnsUsed → new.takes ≡ 100000

-- True if the buffer has its old bytes, followed by the bytes that the client's connection
-- delivered.
pub record Came (old new : List ℕ) (before after : Option (List ℕ)) : Type 0 where
  pub chunk : List ℕ
  pub bytes : new ≡ old ++ chunk
  pub consumed : Consumes before after chunk

-- States the effect of reading once more from the client's connection. If reading fails, the buffer
-- gets no bytes. The fault Short means that the input has ended.
abbrev pub TakesOn : {X : Type 0} → Result X TakeFault → List ℕ → List ℕ → Option (List ℕ)
    → Option (List ℕ) → Type 0
TakesOn (Ok x) old new before after = Came old new before after
TakesOn (Err Read) old new before after = (new ≡ old) × Keeps before after
TakesOn (Err Short) old new before after = (new ≡ old) × Keeps before after × IsAtEnd after
TakesOn (Err TurnsUsed) old new before after = (new ≡ old) × Keeps before after

-- True if reading ended because a read from the client's connection failed.
abbrev pub is_read_fault : {X : Type 0} → Result X TakeFault → Bool
is_read_fault (Ok x) = false
is_read_fault (Err Read) = true
is_read_fault (Err Short) = false
is_read_fault (Err TurnsUsed) = false

-- States that after the fault Read, the connection's last read failed. States that after Short, the
-- last read reported the end of the input.
abbrev pub EndedBy : {X : Type 0} → Result X TakeFault → Option LastTake → Type 0
EndedBy (Ok x) last = Unit {0}
EndedBy (Err Read) last = option_map (λ t. t.answer) last ≡ Some (Err (record {}))
EndedBy (Err Short) last = option_map (λ t. t.answer) last ≡ Some (Ok End)
EndedBy (Err TurnsUsed) last = Unit {0}

-- The number of bytes that a read returned, or 0 if the read failed.
abbrev pub brought_by : Result Took LinkFailed → ℕ
brought_by (Ok (Bytes n)) = n
brought_by (Ok End) = 0
brought_by (Ok Idle) = 0
brought_by (Err failed) = 0

-- The number of bytes that the last read of the client's connection returned, or 0 if there was no
-- read.
abbrev pub brought : Option LastTake → ℕ
brought None = 0
brought (Some take) = brought_by take.answer
