-- The contracts of reads and writes on a link, which is a byte stream such as a TCP connection:
-- their effects on the link's input bytes, output bytes and counts of calls.
use Rattle.std.specs.Prelude.{◌≡◌, ℕ, ◌+◌, ◌-◌, ◌^◌, ◌<◌, ◌≤◌, ◌==◌, ◌&&◌, nat_lt, min, Bool, true, false, if◌then◌else◌, List, ◌++◌, length, take, Ok, Err, Some, None}
use Rattle.std.specs.Io.KnownBytes.{Appends, Consumes, IsAtEnd, Keeps}
use Rattle.std.specs.declared.result.Result.{Result}
use Rattle.std.specs.declared.option.Option.{Option}
use Rattle.mb_wire.specs.declared.link.LinkFailed.{LinkFailed}
use Rattle.mb_wire.specs.declared.link.Took.{Took}
use Rattle.mb_wire.specs.declared.link.Took.TheVariants.{Bytes, End, Idle}

-- The limits on the number of bytes that a successful read returns. The number is at most the size
-- of the buffer, and at least one if the buffer is not empty.
abbrev pub TakesAtMost : Result Took LinkFailed → List ℕ → Type 0
TakesAtMost (Ok (Bytes n)) piece = (n ≤ length piece) × (0 < length piece → 0 < n)
TakesAtMost (Ok End) piece = Unit {0}
TakesAtMost (Ok Idle) piece = Unit {0}
TakesAtMost (Err failed) piece = Unit {0}

-- True if a read returns the next bytes of the input. A read that reports the end of the input is
-- allowed only if no input is left.
abbrev pub TakeConsumes : Option (List ℕ) → Option (List ℕ) → Result Took LinkFailed → List ℕ
    → Type 0
TakeConsumes old new (Ok (Bytes n)) piece = Consumes old new (take n piece)
TakeConsumes old new (Ok End) piece = Keeps old new × IsAtEnd new
TakeConsumes old new (Ok Idle) piece = Keeps old new
TakeConsumes old new (Err failed) piece = Keeps old new

-- The value of a counter after a call: one more if the flag is true, otherwise unchanged. Counters
-- saturate at 2^64 - 1.
abbrev pub risen : Bool → ℕ → ℕ
risen rises count = if rises then min (count + 1) (2 ^ 64 - 1) else count

-- True if a write failed or accepted none of its bytes.
abbrev pub is_failed_give : Result ℕ LinkFailed → List ℕ → Bool
is_failed_give (Ok n) bytes = n == 0 && nat_lt 0 (length bytes)
is_failed_give (Err failed) bytes = true

-- True if the second argument is the number of the call that must fail. The first argument is the
-- number that a test has chosen, or `None` if no call must fail.
abbrev pub is_call : Option ℕ → ℕ → Bool
is_call None call = false
is_call (Some fails) call = fails == call

-- True if the result of a read of a link (a byte connection) says that the input has ended.
abbrev pub is_end : Result Took LinkFailed → Bool
is_end (Ok (Bytes n)) = false
is_end (Ok End) = true
is_end (Ok Idle) = false
is_end (Err failed) = false

-- True if the link (a byte connection) accepted some of the bytes to write from the front of their
-- list, possibly none, but not all.
pub record GivesPart (old new : Option (List ℕ)) (bytes : List ℕ) : Type 0 where
  pub part : List ℕ
  pub unsent : List ℕ
  pub left : 0 < length unsent
  pub whole : bytes ≡ part ++ unsent
  pub given : Appends old new part

-- States what a link (a byte connection) accepted from a write. After a successful write it
-- accepted all bytes. After a failed write it accepted only some bytes from the front, possibly
-- none.
abbrev pub Gives : {X E : Type 0} → Result X E → Option (List ℕ) → Option (List ℕ) → List ℕ → Type 0
Gives (Ok x) old new bytes = Appends old new bytes
Gives (Err failed) old new bytes = GivesPart old new bytes
