-- The model of a connection in memory for tests, and the effects of its reads and writes.
use Rattle.std.specs.Prelude.{ℕ, ◌-◌, ◌≡◌, ◌==◌, ◌||◌, min, Bool, true, is_err, if◌then◌else◌, List, [], ◌++◌, length, take, drop, Ok, Err, Some, None}
use Rattle.std.specs.declared.result.Result.{Result}
use Rattle.std.specs.declared.option.Option.{Option}
use Rattle.mb_wire.specs.Links.{is_call, is_end, is_failed_give, risen}
use Rattle.mb_wire.specs.declared.link.LastTake.{LastTake}
use Rattle.mb_wire.specs.declared.link.LinkFailed.{LinkFailed}
use Rattle.mb_wire.specs.declared.link.Took.{Took}
use Rattle.mb_wire.specs.declared.link.Took.TheVariants.{Bytes, End, Idle}

-- The state of a connection in memory for tests. `input` is the unread input and `room` the size of
-- the output buffer. One read or write moves at most `piece` bytes, and the call with number
-- `fails` fails.
pub record Memory : Type 0 where
  pub input : List ℕ
  pub output : List ℕ
  pub room : ℕ
  pub piece : ℕ
  pub calls : ℕ
  pub fails : Option ℕ
  pub failures : ℕ
  pub takes : ℕ
  pub ends : ℕ
  pub last : Option LastTake

-- True if nothing was read from the test connection or written to it, so that all counts are 0.
pub record IsFresh (link : Memory) : Type 0 where
  pub output : link.output ≡ []
  pub calls : link.calls ≡ 0
  pub failures : link.failures ≡ 0
  pub takes : link.takes ≡ 0
  pub ends : link.ends ≡ 0
  pub last : link.last ≡ None

-- True if the test connection counts one more read or write, and its output size, piece size and
-- failing call are unchanged.
pub record CallsOnce (old new : Memory) : Type 0 where
  pub room : new.room ≡ old.room
  pub piece : new.piece ≡ old.piece
  pub fails : new.fails ≡ old.fails
  pub calls : new.calls ≡ risen true old.calls

-- True if the next read or write over the test connection is set to fail.
abbrev pub fails_next : Memory → Bool
fails_next link = is_call link.fails (risen true link.calls)

-- The result of the next read of the test connection into a buffer of `room` bytes.
abbrev pub take_answer : Memory → ℕ → Result Took LinkFailed
take_answer link room =
    if fails_next link then Err (record {})
    else if length link.input == 0 then Ok End
    else Ok (Bytes (min (min link.piece room) (length link.input)))

-- The bytes of the input that a read with this result returns. A read that fails, or that finds the
-- end, returns none.
abbrev pub handed_out : Result Took LinkFailed → List ℕ → List ℕ
handed_out (Ok (Bytes n)) input = take n input
handed_out (Ok End) input = []
handed_out (Ok Idle) input = []
handed_out (Err failed) input = []

-- The contents of a read buffer after new bytes are written to its front. Its other bytes are
-- unchanged.
abbrev pub filled : List ℕ → List ℕ → List ℕ
filled bytes piece = bytes ++ drop (length bytes) piece

-- The state of a test connection after a read with this result.
pub record LeavesTake (old new : Memory) (room : ℕ) (answer : Result Took LinkFailed) : Type 0 where
  pub call : CallsOnce old new
  pub input : old.input ≡ handed_out answer old.input ++ new.input
  pub output : new.output ≡ old.output
  pub failures : new.failures ≡ risen (is_err answer) old.failures
  pub takes : new.takes ≡ risen true old.takes
  pub ends : new.ends ≡ risen (is_end answer) old.ends
  pub last : new.last ≡ Some (record { room = room; answer = answer })

-- The number of free bytes in the test connection's output buffer.
abbrev pub output_free : Memory → ℕ
output_free link = link.room - length link.output

-- The result of the next write of `count` bytes to the test connection.
abbrev pub give_answer : Memory → ℕ → Result ℕ LinkFailed
give_answer link count =
    if output_free link == 0 || fails_next link then Err (record {})
    else Ok (min (min link.piece count) (output_free link))

-- The state of a test connection after a write with this result, except the bytes of its output.
pub record LeavesGive (old new : Memory) (answer : Result ℕ LinkFailed) (bytes : List ℕ) : Type 0
  where
    pub call : CallsOnce old new
    pub input : new.input ≡ old.input
    pub failures : new.failures ≡ risen (is_failed_give answer bytes) old.failures
    pub takes : new.takes ≡ old.takes
    pub ends : new.ends ≡ old.ends
    pub last : new.last ≡ old.last
