-- The contents of the buffer after the head or body of a request was read.
use Rattle.std.specs.Prelude.{◌≡◌, ◌<◌, ◌≤◌, ℕ, false, ◌⊎◌, List, ◌++◌, length, Option, Result, Ok, Err}
use Rattle.std.specs.Io.KnownBytes.{IsAtEnd}
use Rattle.office_http.specs.Messages.Head.Heads.{IsOpenHead, Looks, is_open}
use Rattle.office_http.specs.declared.messages.head.head.HeadState.{HeadState}
use Rattle.office_http.specs.Messages.Reading.Taking.{Came, brought, bytes_in}
use Rattle.mb_wire.specs.declared.link.LastTake.{LastTake}
use Rattle.office_http.specs.declared.messages.reading.inbox.Inbox.{Inbox}
use Rattle.office_http.specs.declared.messages.reading.inbox.TakeFault.{TakeFault}
use Rattle.office_http.specs.declared.messages.reading.inbox.TakeFault.TheVariants.{Read, Short, TurnsUsed}

-- States that if reading failed with Short (the input ended early), then the input has no bytes
-- left. States nothing for other faults.
abbrev pub EndsAt : TakeFault → Option (List ℕ) → Type 0
EndsAt Read after = Unit {0}
EndsAt Short after = IsAtEnd after
EndsAt TurnsUsed after = Unit {0}

-- True if the buffer has a complete or an invalid request head, or reading failed while the head
-- was incomplete.
abbrev pub ReadsHead : Result HeadState TakeFault → List ℕ → List ℕ → Option (List ℕ)
    → Option (List ℕ) → Type 0
ReadsHead (Ok head_state) old new before after =
    Came old new before after × Looks new head_state × (is_open head_state ≡ false)
ReadsHead (Err fault) old new before after =
    Came old new before after × IsOpenHead new × EndsAt fault after

-- True if the buffer has at least `count` bytes, or reading failed and the buffer has fewer.
abbrev pub ReadsUpTo : ℕ → {X : Type 0} → Result X TakeFault → List ℕ → List ℕ → Option (List ℕ)
    → Option (List ℕ) → Type 0
ReadsUpTo count (Ok x) old new before after = Came old new before after × (count ≤ length new)
ReadsUpTo count (Err fault) old new before after =
    Came old new before after × (length new < count) × EndsAt fault after

-- True if the buffer made no read: its count of reads, its bytes, and the last read of the client's
-- connection are unchanged.
pub record TakesNothing (old new : Inbox) (was now : Option LastTake) : Type 0 where
  pub takes : new.takes ≡ old.takes
  pub bytes : bytes_in new ≡ bytes_in old
  pub last : now ≡ was

-- True if the last read was necessary: before that read, the bytes in the buffer were incomplete,
-- as the condition `GoesOn` defines.
pub record TakesWhatLacks (GoesOn : List ℕ → Type 0) (old new : List ℕ) (now : Option LastTake) :
    Type 0 where
  pub earlier : List ℕ
  pub chunk : List ℕ
  pub goes_on : GoesOn (old ++ earlier)
  pub bytes : new ≡ (old ++ earlier) ++ chunk
  pub size : length chunk ≡ brought now

-- True if the buffer made no read after its bytes were complete: it made no read at all, or its
-- bytes were incomplete before the last read.
abbrev pub StopsAtOnce : (List ℕ → Type 0) → Inbox → Inbox → (was now : Option LastTake) → Type 0
StopsAtOnce GoesOn old new was now =
    TakesNothing old new was now ⊎ TakesWhatLacks GoesOn (bytes_in old) (bytes_in new) now
