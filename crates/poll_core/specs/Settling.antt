-- Defines when a poll of a polling session is completed, and by which event (Modbus Messaging on
-- TCP/IP Implementation Guide V1.0b, section 4.4.1).
use Rattle.std.specs.Prelude.{ℕ, ◌+◌, ◌%◌, Bool, true, false, not, ◌&&◌, ◌==◌, if◌then◌else◌, List, [], ◌∷◌, ◌++◌, map, length, drop, is_none, Some, None, Ok, Err}
use Rattle.std.specs.declared.option.Option.{Option}
use Rattle.std.specs.declared.result.Result.{Result}
use Rattle.std.specs.Option.{option_or, option_map}
use Rattle.std.specs.List.{flat_map, filter, find}
use Rattle.mb_wire.specs.Frames.{frames, is_garbled, tid_of, unit_of, pdu_of, protocol_of}
use Rattle.mb_wire.specs.Replies.{Answer, reply_of}
use Rattle.mb_wire.specs.Replies as replies
use Rattle.mb_wire.specs.Spans.{Span, request_of}
use Rattle.mb_wire.specs.declared.replies.ReplyFault.{ReplyFault}
use Rattle.poll_core.specs.Outcomes.{malformation_by, cause_of}
use Rattle.poll_core.specs.Polls.{Poll, due}
use Rattle.poll_core.specs.declared.outcome.Malformation.{Malformation}
use Rattle.poll_core.specs.declared.outcome.Malformation.TheVariants.{WrongUnit}
use Rattle.poll_core.specs.declared.outcome.LostCause.{LostCause}
use Rattle.poll_core.specs.declared.outcome.LostCause.TheVariants.{Garbled}
use Rattle.poll_core.specs.declared.outcome.Closing.{Closing}

-- An event of a polling session, with its time in seconds since 1970-01-01 UTC: the start of a
-- poll, received bytes, a timer event, or the end of the connection.
pub data Event : Type 0 where
  Start : (moment poll unit : ℕ) (span : Span) → Event
  Piece : (moment : ℕ) (bytes : List ℕ) → Event
  Tick : (moment : ℕ) → Event
  Close : (moment : ℕ) (closing : Closing) → Event

-- The time of an event, in seconds since 1970-01-01 UTC.
abbrev pub moment_of : Event → ℕ
moment_of (Start moment poll unit span) = moment
moment_of (Piece moment bytes) = moment
moment_of (Tick moment) = moment
moment_of (Close moment closing) = moment

-- The bytes that arrive with an event. Only a `Piece` (a received chunk) has bytes.
abbrev pub bytes_of : Event → List ℕ
bytes_of (Start moment poll unit span) = []
bytes_of (Piece moment bytes) = bytes
bytes_of (Tick moment) = []
bytes_of (Close moment closing) = []

-- The cause by which an event closes the polling session, or `None` if the event does not close it.
abbrev pub closing_of : Event → Option LostCause
closing_of (Start moment poll unit span) = None
closing_of (Piece moment bytes) = None
closing_of (Tick moment) = None
closing_of (Close moment closing) = Some (cause_of closing)

-- True if the event starts a poll.
abbrev pub is_start : Event → Bool
is_start (Start moment poll unit span) = true
is_start (Piece moment bytes) = false
is_start (Tick moment) = false
is_start (Close moment closing) = false

-- The bytes of all received chunks, in order.
unfoldable pub stream : List Event → List ℕ
stream events = flat_map bytes_of events

-- The transaction identifier of the next poll: the number of earlier starts, modulo 65536.
unfoldable pub next_id : List Event → ℕ
next_id events = length (filter is_start events) % 65536

-- The outcome of a poll. A successful outcome has the registers that the device sent.
pub data Settlement : Type 0 where
  Answered : (words : List ℕ) → Settlement
  Exception : (code : ℕ) → Settlement
  Silent : Settlement
  Malformed : (malformation : Malformation) → Settlement
  Lost : (cause : LostCause) → Settlement

-- The registers of a decoded response that has registers. Any other decoded response, such as an
-- exception, gives an empty list.
abbrev pub words_in : Answer → List ℕ
words_in (replies.Words words) = words
words_in _ = []

-- The outcome of a poll for a decoded response, or for the fault of a response that cannot be
-- decoded.
abbrev pub by_reply : Result Answer ReplyFault → Settlement
by_reply (Ok (replies.Exception code)) = Exception code
by_reply (Ok answer) = Answered (words_in answer)
by_reply (Err fault) = Malformed (malformation_by fault)

-- The outcome of a poll for a frame with the poll's transaction identifier. The unit identifier is
-- checked first.
abbrev pub answer : Poll → List ℕ → Settlement
answer poll frame =
    if unit_of frame == poll.unit
    then by_reply (reply_of (request_of poll.span) (pdu_of frame))
    else Malformed WrongUnit

-- True if the frame has protocol identifier 0 (Modbus) and the poll's transaction identifier.
abbrev pub is_for : Poll → List ℕ → Bool
is_for poll frame = (tid_of frame == poll.id) && (protocol_of frame == 0)

-- The frames that the bytes of the event complete, after the bytes of the earlier events.
unfoldable pub frames_at : List Event → Event → List (List ℕ)
frames_at before event =
    drop (length (frames (stream before))) (frames (stream before ++ bytes_of event))

-- The cause by which the event ends the polling session: its bytes have an invalid length field, or
-- it closes the session. `None` if it does neither.
unfoldable pub ending_at : List Event → Event → Option LostCause
ending_at before event =
    if is_garbled (stream before ++ bytes_of event) && not (is_garbled (stream before))
    then Some Garbled
    else closing_of event

-- The outcome that one more event, after the earlier events, gives to a pending poll. The first of
-- these causes counts: a timeout, the first frame with the poll's transaction identifier, a loss.
-- `None` if the event does not complete the poll.
unfoldable pub settled_by : List Event → Event → Poll → Option Settlement
settled_by before event poll =
    if is_start event then None
    else if due (moment_of event) poll then Some Silent
    else option_or (option_map (answer poll) (find (is_for poll) (frames_at before event)))
    (option_map Lost (ending_at before event))

-- The outcome of a poll by the first event after its start that completes it, or `None` if no such
-- event does.
abbrev pub outcome : List Event → List Event → Poll → Option Settlement
outcome before [] poll = None
outcome before (event ∷ later) poll =
    option_or (settled_by before event poll) (outcome (before ++ event ∷ []) later poll)

-- The poll that the event starts after the earlier events, or `None` if the event is no start.
abbrev pub started : ℕ → List Event → Event → Option Poll
started timeout before (Start moment poll unit span) =
    Some (record {
      number = poll;
      id = next_id before;
      unit = unit;
      span = span;
      deadline = moment + timeout;
    })
started timeout before (Piece moment bytes) = None
started timeout before (Tick moment) = None
started timeout before (Close moment closing) = None

-- A list with the poll that an event started and the poll's outcome by the events after its start.
-- The list is empty if the event started no poll.
abbrev pub result_of : List Event → List Event → Option Poll → List (Poll × Option Settlement)
result_of before later None = []
result_of before later (Some poll) = (poll, outcome before later poll) ∷ []

-- All polls that the second list of events starts after the events of the first list, in the order
-- of the starts. Each poll has its outcome by the events after its start.
abbrev pub results : ℕ → List Event → List Event → List (Poll × Option Settlement)
results timeout before [] = []
results timeout before (event ∷ later) =
    result_of (before ++ event ∷ []) later (started timeout before event)
    ++ results timeout (before ++ event ∷ []) later

-- The polls of a Modbus session that are pending after the session processed `events`: started
-- polls without an outcome.
unfoldable pub pending : ℕ → List Event → List Poll
pending timeout events =
    map (λ result. result.0) (filter (λ result. is_none result.1) (results timeout [] events))

-- The outcomes of a list of polls if all of them time out, in the order of their starts.
abbrev pub silences : List Poll → List (ℕ × Settlement)
silences polls = map (λ poll. (poll.number, Silent)) polls

-- The outcomes that a list of frames gives to a list of pending polls, in the order of the frames.
abbrev pub by_frame : List (List ℕ) → List Poll → List (ℕ × Settlement)
by_frame [] polls = []
by_frame (frame ∷ later) polls =
    map (λ poll. (poll.number, answer poll frame)) (filter (λ poll. is_for poll frame) polls)
    ++ by_frame later (filter (λ poll. not (is_for poll frame)) polls)

-- The polls of a list whose transaction identifier occurs in none of the given frames.
abbrev pub unmatched : List (List ℕ) → List Poll → List Poll
unmatched frames polls = filter (λ poll. is_none (find (is_for poll) frames)) polls

-- The outcome `Lost` for each poll of a list, in the order of the starts, if the polling session
-- ended for a cause. Empty if the session did not end.
abbrev pub losses : Option LostCause → List Poll → List (ℕ × Settlement)
losses None polls = []
losses (Some cause) polls = map (λ poll. (poll.number, Lost cause)) polls

-- Among the polls of a list, those whose deadline is after the given time.
abbrev pub alive : ℕ → List Poll → List Poll
alive moment polls = filter (λ poll. not (due moment poll)) polls

-- The outcomes of one event: timeouts in the order of the starts, then responses in the order of
-- the frames, then losses in the order of the starts.
unfoldable pub outcomes_at : ℕ → List Event → Event → List (ℕ × Settlement)
outcomes_at timeout before event =
    if is_start event then []
    else silences (filter (due (moment_of event)) (pending timeout before))
    ++ by_frame (frames_at before event) (alive (moment_of event) (pending timeout before))
    ++ losses (ending_at before event)
    (unmatched (frames_at before event) (alive (moment_of event) (pending timeout before)))
