-- Defines the bytes that a link (the connection to a device) transfers in each direction during a
-- scan, if the link reports them.
use Rattle.std.specs.Prelude.{◌≡◌, ℕ, ◌+◌, ◌%◌, ◌≤◌, Bool, true, false, List, ◌++◌, length, Vec, IfOk, Ok, Err, Some, None, unwrap_or}
use Rattle.std.specs.Io.KnownBytes.{Appends, Consumes}
use Rattle.std.specs.List.{flat_map}
use Rattle.std.specs.declared.option.Option.{Option}
use Rattle.std.specs.declared.result.Result.{Result}
use Rattle.mb_wire.specs.Frames.{IsBad, IsOpen, frames, rest}
use Rattle.mb_wire.specs.Spans.{Span}
use Rattle.mb_wire.specs.declared.link.LastTake.{LastTake}
use Rattle.mb_wire.specs.declared.link.Took.TheVariants as took
use Rattle.sun_points.specs.Writing.{GotText}
use Rattle.sun_chain.specs.Scanning.Stages.{holding}
use Rattle.sun_chain.specs.Scanning.Answers.{Ask, request_frame, settled, words_seen}
use Rattle.sun_chain.specs.declared.scans.client.Client.{Client}
use Rattle.sun_chain.specs.declared.scans.fault.ScanFault.{ScanFault}
use Rattle.sun_chain.specs.declared.scans.fault.ScanFault.TheVariants.{Gone, Failed, Garbled, Memory}
use Rattle.sun_chain.specs.declared.scans.hearing.Turn.{Turn}
use Rattle.sun_chain.specs.declared.scans.hearing.Turn.TheVariants.{Idle, More, Settled}

-- The state of a link to a device and its client. `bytes` are the bytes that later reads will
-- return, `given` the bytes written until now, `open_bytes` an incomplete frame, and `next` the
-- next transaction identifier. `bytes` or `given` is `None` if the link's contract states nothing
-- about these bytes.
pub record Line : Type 0 where
  pub bytes : Option (List ℕ)
  pub given : Option (List ℕ)
  pub open_bytes : List ℕ
  pub next : ℕ

-- The state of a link to a device, given the bytes to read from it, the bytes written to it, and
-- the Modbus client that uses it.
abbrev pub line : (bytes given : Option (List ℕ)) → Client → Line
line bytes given client = record {
  bytes = bytes;
  given = given;
  open_bytes = client.reader.rest;
  next = client.next;
}

-- True if the bytes `came` arrived over the link to the device after the buffered bytes of an
-- incomplete frame.
pub record Hears (old_bytes new_bytes : Option (List ℕ)) (old_open new_open came : List ℕ) : Type 0
  where
    pub took : Consumes old_bytes new_bytes came
    pub read : new_open ≡ rest (old_open ++ came)
    pub is_open : IsOpen new_open

-- States for each result of a turn whether the frames that arrived include the response to the
-- request. A turn is one read of the link to the device.
abbrev pub TurnReports : Ask → List (List ℕ) → Turn → Type 0
TurnReports ask frames Idle = settled ask frames ≡ None
TurnReports ask frames More = settled ask frames ≡ None
TurnReports ask frames (Settled answer) = settled ask frames ≡ Some (words_seen answer)

-- True if the last read of the link to the device timed out.
abbrev pub IsIdle : Option LastTake → Type 0
IsIdle None = ⊥
IsIdle (Some last) = last.answer ≡ Ok took.Idle

-- The effect of a turn, which is one read of the link to the device. The result of the turn follows
-- from the frames that the new bytes complete.
pub record HearsTurn (ask : Ask) (old_bytes new_bytes : Option (List ℕ))
    (old_open new_open : List ℕ) (turn : Turn) : Type 0 where
  pub came : List ℕ
  pub hears : Hears old_bytes new_bytes old_open new_open came
  pub reports : TurnReports ask (frames (old_open ++ came)) turn

-- The effect of waiting for a response: `words` are the registers of the first response in the
-- bytes that arrived, or `None`.
pub record HearsAnswer (ask : Ask) (old_bytes new_bytes : Option (List ℕ))
    (old_open new_open : List ℕ) (words : Option (List ℕ))
    : Type 0 where
  pub came : List ℕ
  pub hears : Hears old_bytes new_bytes old_open new_open came
  pub answer : words ≡ unwrap_or (settled ask (frames (old_open ++ came))) None

-- True if the bytes that arrived over the link to the device have a length field of a frame that is
-- out of range.
pub record Garbles (old_bytes new_bytes : Option (List ℕ)) (old_open : List ℕ) : Type 0 where
  pub came : List ℕ
  pub took : Consumes old_bytes new_bytes came
  pub bad : IsBad (rest (old_open ++ came))

-- The transaction identifier after `id`. Identifier 0 follows 65535.
abbrev pub next_id : ℕ → ℕ
next_id id = (id + 1) % 65536

-- The next Modbus request for a span of registers over a link to a device.
abbrev pub ask : (unit : ℕ) → Line → Span → Ask
ask unit line span = record { id = line.next; unit = unit; span = span }

-- The effect of one request: the request is written to the link to the device, and `words` are the
-- registers in the bytes that arrive afterwards.
pub record Tries (unit : ℕ) (old new : Line) (span : Span) (words : Option (List ℕ)) : Type 0 where
  pub asked : Appends old.given new.given (request_frame (ask unit old span))
  pub heard : HearsAnswer (ask unit old span) old.bytes new.bytes old.open_bytes new.open_bytes
      words
  pub next : new.next ≡ next_id old.next

-- The effect of a read of registers: one request if this request returns words. Otherwise a second
-- request follows, and `words` are the registers that the second request returns.
pub data Reads (unit : ℕ) (old new : Line) (span : Span) (words : Option (List ℕ)) : Type 0 where
  AtOnce : (all : List ℕ) → words ≡ Some all → Tries unit old new span words
      → Reads unit old new span words
  Again : (mid : Line) → Tries unit old mid span None → Tries unit mid new span words
      → Reads unit old new span words

-- States that, if a call that sends one request succeeds, its result is the words of the response.
abbrev pub AnswersTry : {Z E : Type 0} → (unit : ℕ) → Result (Option (Vec ℕ Z)) E
    → (old new : Line) → Span → Type 0
AnswersTry unit result old new span =
    IfOk result (λ answer. Tries unit old new span (words_seen answer))

-- States that, if a call that reads registers succeeds, its result is the words of the read.
abbrev pub AnswersRead : {Z E : Type 0} → (unit : ℕ) → Result (Option (Vec ℕ Z)) E
    → (old new : Line) → Span → Type 0
AnswersRead unit result old new span =
    IfOk result (λ answer. Reads unit old new span (words_seen answer))

-- The bytes of the request to a unit for a span of registers, with the given transaction
-- identifier.
abbrev pub request_under : (unit : ℕ) → Span → (id : ℕ) → List ℕ
request_under unit span id = request_frame (record { id = id; unit = unit; span = span })

-- True if at most two requests for the given span of registers, and nothing else, were written to
-- the link to the device. If the call failed, the last request may be incomplete.
abbrev pub OnlyRequests : {X E : Type 0} → (unit : ℕ) → Span → Result X E
    → (old new : Option (List ℕ)) → Type 0
OnlyRequests unit span result old new =
    (ids : List ℕ) × (length ids ≤ 2)
    × GotText result (flat_map (request_under unit span) ids) old new

-- A request for holding registers: its transaction identifier, its first address and its register
-- count.
pub record Inquiry : Type 0 where
  pub id : ℕ
  pub address : ℕ
  pub count : ℕ

-- The bytes of the frame of a request for holding registers.
abbrev pub inquiry_frame : (unit : ℕ) → Inquiry → List ℕ
inquiry_frame unit inquiry =
    request_frame (record {
      id = inquiry.id;
      unit = unit;
      span = holding inquiry.address inquiry.count;
    })

-- True if only requests for holding registers were written to the link to the device. If the call
-- failed, the last request may be incomplete.
abbrev pub OnlyInquires : {X E : Type 0} → (unit : ℕ) → Result X E
    → (old new : Option (List ℕ)) → Type 0
OnlyInquires unit result old new =
    (inquiries : List Inquiry) × GotText result (flat_map (inquiry_frame unit) inquiries) old new

-- True if the result of a call is that a read or write of the link to the device failed.
abbrev pub has_failed : {X : Type 0} → Result X ScanFault → Bool
has_failed (Ok x) = false
has_failed (Err Gone) = false
has_failed (Err Failed) = true
has_failed (Err Garbled) = false
has_failed (Err Memory) = false

-- True if the result of a call is that the device closed the connection.
abbrev pub is_gone : {X : Type 0} → Result X ScanFault → Bool
is_gone (Ok x) = false
is_gone (Err Gone) = true
is_gone (Err Failed) = false
is_gone (Err Garbled) = false
is_gone (Err Memory) = false
