-- Defines the result of one request for registers, from the frames that arrive after the request.
use Rattle.std.specs.Prelude.{ℕ, ◌==◌, ◌&&◌, Bool, if◌then◌else◌, List, [], ◌∷◌, Vec, find, Ok, Err, Some, None, option_map}
use Rattle.std.specs.declared.option.Option.{Option}
use Rattle.std.specs.declared.result.Result.{Result}
use Rattle.mb_wire.specs.Frames.{protocol_of, tid_of}
use Rattle.mb_wire.specs.Reader.{Fields, fields_of, spelling}
use Rattle.mb_wire.specs.Replies.{Answer, Bits, Words, Echo, Exception, answer_in}
use Rattle.mb_wire.specs.Requests.{query_of, request_bytes}
use Rattle.mb_wire.specs.Spans.{Span, request_of, span_view}
use Rattle.mb_wire.specs.declared.replies.ReplyFault.{ReplyFault}
use Rattle.sun_chain.specs.declared.scans.tries.Try.{Try}

-- A Modbus read request as a value: the transaction identifier, the unit identifier, and the
-- requested registers.
pub record Ask : Type 0 where
  pub id : ℕ
  pub unit : ℕ
  pub span : Span

-- A `Try` (one Modbus read request) as a value.
abbrev pub ask_of : Try → Ask
ask_of attempt = record { id = attempt.id; unit = attempt.unit; span = span_view attempt.span }

-- The bytes of the frame of a read request.
abbrev pub request_frame : Ask → List ℕ
request_frame ask = spelling ask.id ask.unit (request_bytes (request_of ask.span))

-- True if the frame has protocol identifier 0 (Modbus) and the request's transaction identifier.
abbrev pub is_reply : Ask → List ℕ → Bool
is_reply ask frame = protocol_of frame == 0 && tid_of frame == ask.id

-- The registers of a decoded response, or `None` for an exception, another kind of response, or a
-- fault.
abbrev pub brought : Result Answer ReplyFault → Option (List ℕ)
brought (Ok (Bits bits)) = None
brought (Ok (Words words)) = Some words
brought (Ok Echo) = None
brought (Ok (Exception code)) = None
brought (Err fault) = None

-- The registers that a frame returns for the request, or `None` if another unit sent the frame or
-- the frame has no valid registers.
abbrev pub words_in : Ask → Fields → Option (List ℕ)
words_in ask fields =
    if fields.unit == ask.unit
    then brought (answer_in (query_of (request_of ask.span)) fields.pdu)
    else None

-- The result of a request: the registers of the first frame with the request's transaction
-- identifier, or `Some None` if this frame has none. `None` if no frame has that identifier.
abbrev pub settled : Ask → List (List ℕ) → Option (Option (List ℕ))
settled ask frames =
    option_map (λ frame. words_in ask (fields_of frame)) (find (is_reply ask) frames)

-- The first of two optional values if it is present, otherwise the second.
abbrev pub first_of : {X : Type 0} → Option X → Option X → Option X
first_of None next = next
first_of (Some x) next = Some x

-- The 16-bit words in a vector, as a list.
abbrev pub items_of : {Z : Type 0} → Vec ℕ Z → List ℕ
items_of words = words.items

-- The words in an optional vector, as a list, or `None` without a vector.
abbrev pub words_seen : {Z : Type 0} → Option (Vec ℕ Z) → Option (List ℕ)
words_seen words = option_map items_of words

-- The result of a read request, with the received words (registers) as a list. `None` before a
-- response arrives.
abbrev pub seen : {Z : Type 0} → Option (Option (Vec ℕ Z)) → Option (Option (List ℕ))
seen heard = option_map words_seen heard

-- The complete frame in a frame reader, as a list of one frame, or the empty list.
abbrev pub frames_held : Option (List ℕ) → List (List ℕ)
frames_held None = []
frames_held (Some frame) = frame ∷ []
