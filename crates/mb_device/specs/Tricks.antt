-- Defines the bytes that a server sends instead of its true (unchanged) responses when faults are
-- injected. A `Trick` is an injected fault.
use Rattle.std.specs.Prelude.{ℕ, ◌+◌, ◌-◌, ◌^◌, ◌%◌, ◌==◌, nat_lt, Bool, true, false, if◌then◌else◌, List, [], ◌∷◌, ◌++◌, take, find, Some, None}
use Rattle.std.specs.Option.{option_map}
use Rattle.std.specs.declared.option.Option.{Option}
use Rattle.mb_wire.specs.Bytes.{word}
use Rattle.mb_wire.specs.Links.{risen}
use Rattle.mb_wire.specs.Reader.{Fields, spelling}
use Rattle.mb_device.specs.declared.trick.Trick.{Trick}
use Rattle.mb_device.specs.declared.trick.Trick.TheVariants as play

-- A response with this transaction identifier, unit identifier and PDU.
abbrev pub answer_of : ℕ → ℕ → List ℕ → Fields
answer_of tid unit pdu = record { tid = tid; unit = unit; pdu = pdu }

-- The bytes of the frame of a response, without an injected fault.
abbrev pub frame_of : Fields → List ℕ
frame_of answer = spelling answer.tid answer.unit answer.pdu

-- The first injected fault in the list that applies to this frame number, or `None`.
abbrev pub first_trick : List (ℕ × Trick) → ℕ → Option Trick
first_trick tricks number =
    option_map (λ (t : ℕ × Trick). t.1) (find (λ (t : ℕ × Trick). t.0 == number) tricks)

-- The fault injected at this frame number, or `None`. There is no fault from frame 2^64 - 1 on.
unfoldable pub trick_at : List (ℕ × Trick) → ℕ → Option Trick
trick_at tricks number = if nat_lt number (2 ^ 64 - 1) then first_trick tricks number else None

-- The bytes of a response's frame, as an injected fault changes them. The faults `Id`, `Unit` and
-- `Garble` change the header.
abbrev pub spelled_by : Option Trick → Fields → List ℕ
spelled_by None answer = frame_of answer
spelled_by (Some play.Drop) answer = frame_of answer
spelled_by (Some play.Twice) answer = frame_of answer
spelled_by (Some play.Later) answer = frame_of answer
spelled_by (Some play.Id) answer = spelling ((answer.tid + 1) % 65536) answer.unit answer.pdu
spelled_by (Some play.Unit) answer = spelling answer.tid ((answer.unit + 1) % 256) answer.pdu
spelled_by (Some play.Garble) answer =
    word answer.tid ++ word 0 ++ word 0 ++ answer.unit ∷ answer.pdu
spelled_by (Some (play.Cut count)) answer = frame_of answer

-- The bytes sent after a frame is executed: the response as the injected fault changes it, followed
-- by the delayed response to an earlier frame.
abbrev pub sent_of : Option Trick → List ℕ → List ℕ → List ℕ
sent_of None frame later = frame ++ later
sent_of (Some play.Drop) frame later = later
sent_of (Some play.Twice) frame later = frame ++ (frame ++ later)
sent_of (Some play.Later) frame later = later
sent_of (Some play.Id) frame later = frame ++ later
sent_of (Some play.Unit) frame later = frame ++ later
sent_of (Some play.Garble) frame later = frame ++ later
sent_of (Some (play.Cut count)) frame later = take count frame

-- The state of a connection. `Playing`: the connection is open. The fields are its injected faults,
-- the number of its next frame (saturating at 2^64 - 1), and the delayed response, if any.
-- `CutOff`: an injected fault closed the connection.
pub data Course : Type 0 where
  Playing : List (ℕ × Trick) → ℕ → List ℕ → Course
  CutOff : Course

-- The state of a simulated device's connection before its first frame. `tricks` has the faults that
-- will be injected, each at a numbered frame.
abbrev pub begun : List (ℕ × Trick) → Course
begun tricks = Playing tricks 1 []

-- The state of a connection, built from the fields of the object that sends its responses. The
-- `Bool` is true if an injected fault closed the connection.
abbrev pub course_in : Bool → List (ℕ × Trick) → ℕ → List ℕ → Course
course_in true tricks number later = CutOff
course_in false tricks number later = Playing tricks number later

-- True if an injected fault closed the connection.
abbrev pub is_cut : Course → Bool
is_cut (Playing tricks number later) = false
is_cut CutOff = true

-- True if the injected fault closes the connection.
abbrev pub cuts : Option Trick → Bool
cuts None = false
cuts (Some play.Drop) = false
cuts (Some play.Twice) = false
cuts (Some play.Later) = false
cuts (Some play.Id) = false
cuts (Some play.Unit) = false
cuts (Some play.Garble) = false
cuts (Some (play.Cut count)) = true

-- The response that is delayed after a frame: the response to this frame if the injected fault is
-- `Later`, otherwise no bytes.
abbrev pub later_of : Option Trick → List ℕ → List ℕ
later_of None frame = []
later_of (Some play.Drop) frame = []
later_of (Some play.Twice) frame = []
later_of (Some play.Later) frame = frame
later_of (Some play.Id) frame = []
later_of (Some play.Unit) frame = []
later_of (Some play.Garble) frame = []
later_of (Some (play.Cut count)) frame = []

-- The state of a connection after a frame with this injected fault and this response.
abbrev pub following : Option Trick → List ℕ → Course → Course
following trick frame (Playing tricks number later) =
    if cuts trick then CutOff else Playing tricks (risen true number) (later_of trick frame)
following trick frame CutOff = CutOff

-- The bytes that a simulated device sends for the next response of a connection, as injected faults
-- change them.
unfoldable pub sent_next : Course → Fields → List ℕ
sent_next (Playing tricks number later) answer =
    sent_of (trick_at tricks number) (spelled_by (trick_at tricks number) answer) later
sent_next CutOff answer = []

-- The state of a connection after its next response.
unfoldable pub course_next : Course → Fields → Course
course_next (Playing tricks number later) answer =
    following (trick_at tricks number) (spelled_by (trick_at tricks number) answer)
    (Playing tricks number later)
course_next CutOff answer = CutOff

-- The bytes that a connection sends for a list of responses, after injected faults changed the
-- responses.
abbrev pub sent : Course → List Fields → List ℕ
sent course [] = []
sent course (answer ∷ answers) = sent_next course answer ++ sent (course_next course answer) answers

-- The state of a simulated device's connection (such as its injected faults) after it sent a list
-- of responses.
abbrev pub course_after : Course → List Fields → Course
course_after course [] = course
course_after course (answer ∷ answers) = course_after (course_next course answer) answers

-- The frames that are executed, numbered from the given number on: all frames up to and including
-- the frame at which an injected fault closes the connection.
abbrev pub up_to_cut : List (ℕ × Trick) → ℕ → List (List ℕ) → List (List ℕ)
up_to_cut tricks number [] = []
up_to_cut tricks number (frame ∷ frames) =
    frame ∷ (if cuts (trick_at tricks number) then []
    else up_to_cut tricks (risen true number) frames)

-- The frames of the list that a server executes on this connection.
abbrev pub carried_out : Course → List (List ℕ) → List (List ℕ)
carried_out (Playing tricks number later) frames = up_to_cut tricks number frames
carried_out CutOff frames = []
