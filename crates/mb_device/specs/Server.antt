-- Defines the server of a simulated device: which frames of a stream it executes, which bytes it
-- sends, and its state afterwards.
use Rattle.std.specs.Prelude.{◌≡◌, ℕ, ◌==◌, ◌≤◌, ◌<◌, ◌&&◌, not, Bool, true, false, is_err, List, [], ◌∷◌, ◌++◌, length, Ok, Err, Some, None}
use Rattle.std.specs.List.{filter}
use Rattle.std.specs.Io.KnownBytes.{Appends, Consumes, IsAtEnd}
use Rattle.std.specs.declared.result.Result.{Result}
use Rattle.std.specs.declared.option.Option.{Option}
use Rattle.mb_wire.specs.Frames.{IsBad, IsFrame, IsOpen, frames, rest, protocol_of, tid_of, unit_of, pdu_of}
use Rattle.mb_wire.specs.Reader.{Fields, Buffered}
use Rattle.mb_wire.specs.declared.limits.TheConstants.{MAX_ADU}
use Rattle.mb_wire.specs.Links.{is_end}
use Rattle.mb_wire.specs.declared.link.LastTake.{LastTake}
use Rattle.mb_wire.specs.declared.link.LinkFailed.{LinkFailed}
use Rattle.mb_wire.specs.declared.link.Took.{Took}
use Rattle.mb_device.specs.Maps.{Maps}
use Rattle.mb_device.specs.Device.{answer_to, maps_after}
use Rattle.mb_device.specs.Tricks.{Course, Playing, CutOff, answer_of, carried_out, course_after, is_cut, sent}
use Rattle.mb_device.specs.declared.server.ServeFault.{ServeFault}
use Rattle.mb_device.specs.declared.server.ServeFault.TheVariants.{Read, Write, Garbled, TurnsUsed}
use Rattle.mb_device.specs.declared.server.Turned.{Turned}

-- True if the frame's protocol identifier is 0 (Modbus). The server skips frames of other
-- protocols.
abbrev pub is_own : List ℕ → Bool
is_own frame = protocol_of frame == 0

-- The complete Modbus frames in a byte list, in order, without the frames of other protocols.
abbrev pub own_frames : List ℕ → List (List ℕ)
own_frames bytes = filter is_own (frames bytes)

-- The true response to a frame, before an injected fault changes it: the frame's transaction and
-- unit identifiers, and the device's response to the PDU.
unfoldable pub answer_to_frame : Maps → List ℕ → Fields
answer_to_frame maps frame =
    answer_of (tid_of frame) (unit_of frame) (answer_to maps (pdu_of frame))

-- The true responses (before injected faults change them) to a list of frames, in order. Each
-- response is computed from the register map after the earlier frames.
abbrev pub answers : Maps → List (List ℕ) → List Fields
answers maps [] = []
answers maps (frame ∷ frames) =
    answer_to_frame maps frame ∷ answers (maps_after maps (pdu_of frame)) frames

-- The register map after the device executed a list of frames.
abbrev pub maps_after_all : Maps → List (List ℕ) → Maps
maps_after_all maps [] = maps
maps_after_all maps (frame ∷ frames) = maps_after_all (maps_after maps (pdu_of frame)) frames

-- The bytes that a server sends for a list of frames: the device's responses, changed by injected
-- faults.
abbrev pub sent_to : Course → Maps → List (List ℕ) → List ℕ
sent_to course maps frames = sent course (answers maps frames)

-- The state of a connection after the server of a simulated device handled a list of frames.
abbrev pub course_after_all : Course → Maps → List (List ℕ) → Course
course_after_all course maps frames = course_after course (answers maps frames)

-- The state of a simulated device on a connection. `Holds`: the connection is open, and an
-- incomplete frame is buffered. `Over`: an injected fault closed the connection. `Faulted`: an
-- earlier call returned a fault.
pub data Standing : Type 0 where
  Holds : List ℕ → Course → Standing
  Over : Standing
  Faulted : Standing

-- The state of a simulated device with these buffered bytes: `Over` if an injected fault closed the
-- connection, otherwise `Holds`.
abbrev pub standing_on : List ℕ → Course → Standing
standing_on bytes (Playing tricks number later) = Holds bytes (Playing tricks number later)
standing_on bytes CutOff = Over

-- The bytes that the client will send, the bytes sent to the client, and the register map of a
-- simulated device. Bytes are `None` if the connection's type does not specify them.
pub record Around : Type 0 where
  pub remaining : Option (List ℕ)
  pub given : Option (List ℕ)
  pub maps : Maps

-- Makes one record of three values of a simulated device: the bytes it still receives, the bytes it
-- sent, and its register map.
abbrev pub around : Option (List ℕ) → Option (List ℕ) → Maps → Around
around remaining given maps = record { remaining = remaining; given = given; maps = maps }

-- True if a device executed all frames of a list and sent the complete response to each, as
-- injected faults changed it. If an injected fault closed the connection, the frame with this fault
-- was the last one executed.
pub record AllAnswered (course : Course) (frames : List (List ℕ)) (old new : Around) : Type 0 where
  pub given : Appends old.given new.given (sent_to course old.maps frames)
  pub maps : new.maps ≡ maps_after_all old.maps (carried_out course frames)

-- True if the client accepted only a part of the response to one frame. The server executed that
-- frame and the earlier frames, and no later frame.
pub record BrokenOff (course : Course) (frames : List (List ℕ)) (old new : Around) : Type 0 where
  pub earlier : List (List ℕ)
  pub frame : List ℕ
  pub later : List (List ℕ)
  pub in_order : frames ≡ earlier ++ frame ∷ later
  pub part : List ℕ
  pub unsent : List ℕ
  pub left : 0 < length unsent
  pub whole : sent_to course old.maps (earlier ++ frame ∷ [])
      ≡ sent_to course old.maps earlier ++ part ++ unsent
  pub given : Appends old.given new.given (sent_to course old.maps earlier ++ part)
  pub maps : new.maps ≡ maps_after_all old.maps (earlier ++ frame ∷ [])

-- States, for each result of a call that responds to a list of frames, which frames were executed
-- and which bytes were sent. Only after a failed write is a response incomplete.
abbrev pub Answered : {X : Type 0} → Result X ServeFault → Course → List (List ℕ) → Around → Around
    → Type 0
Answered (Ok x) course frames old new = AllAnswered course frames old new
Answered (Err Read) course frames old new = AllAnswered course frames old new
Answered (Err Write) course frames old new = BrokenOff course frames old new
Answered (Err Garbled) course frames old new = AllAnswered course frames old new
Answered (Err TurnsUsed) course frames old new = AllAnswered course frames old new

-- The state of a simulated device after a call of `turn` or `serve` with this result. The byte list
-- has the bytes buffered before the call, followed by the bytes that the call read.
abbrev pub standing_after : {X : Type 0} → Result X ServeFault → List ℕ → Course → Standing
standing_after (Ok x) bytes course = standing_on (rest bytes) course
standing_after (Err fault) bytes course = Faulted

-- A part of the input of a connection: the bytes, including those buffered before, and the
-- connection's state before and after them.
pub record Stretch : Type 0 where
  pub bytes : List ℕ
  pub before : Course
  pub left : Course

-- A part `bytes` of the input of a connection to the simulated device, with the connection's state
-- before it (`course`) and after all complete frames in it.
abbrev pub stretch : Course → Maps → List ℕ → Stretch
stretch course maps bytes =
    record { bytes = bytes; before = course; left = course_after_all course maps (own_frames bytes) }

-- True if a device executed `count` frames in this part of a connection's input. Also requires that
-- the part has no invalid length field, unless an injected fault closed the connection.
pub record Counts (count : ℕ) (stretch : Stretch) : Type 0 where
  pub counted : count ≡ length (carried_out stretch.before (own_frames stretch.bytes))
  pub is_open : is_cut stretch.left ≡ false → IsOpen (rest stretch.bytes)

-- True if this part of a connection's input has no invalid length field, and no injected fault
-- closed the connection.
pub record IsGoing (stretch : Stretch) : Type 0 where
  pub going : is_cut stretch.left ≡ false
  pub is_open : IsOpen (rest stretch.bytes)

-- True if an invalid length field arrived while the connection was open.
pub record IsGarbled (stretch : Stretch) : Type 0 where
  pub going : is_cut stretch.left ≡ false
  pub bad : IsBad (rest stretch.bytes)

-- Defines when a turn (one read and its responses) may report the end of the connection. If an
-- injected fault closed the connection, the turn must report the end. Otherwise the turn may report
-- the end only if it read nothing and no input is left.
pub record EndReports (ended : Bool) (left : Course) (taken : List ℕ) (remaining : Option (List ℕ)) :
    Type 0 where
  pub cut : is_cut left ≡ true → ended ≡ true
  pub end : is_cut left ≡ false → ended ≡ true → (taken ≡ []) × IsAtEnd remaining

-- States what each result of a turn (one read and its responses) implies: the number of executed
-- frames, and whether the input ended or has an invalid length field.
abbrev pub TurnReports : Result Turned ServeFault → Stretch → List ℕ → Option (List ℕ) → Type 0
TurnReports (Ok turned) stretch taken remaining =
    Counts turned.answered stretch × EndReports turned.ended stretch.left taken remaining
TurnReports (Err Read) stretch taken remaining = taken ≡ []
TurnReports (Err Write) stretch taken remaining = Unit {0}
TurnReports (Err Garbled) stretch taken remaining = IsGarbled stretch
TurnReports (Err TurnsUsed) stretch taken remaining = ⊥

-- States, for each result of `serve`, how many frames the device executed, and whether the input
-- ended or has an invalid length field. The function `serve` repeats reads until the input ends.
abbrev pub ServeReports : Result ℕ ServeFault → Stretch → Option (List ℕ) → Type 0
ServeReports (Ok count) stretch remaining =
    Counts count stretch × (is_cut stretch.left ≡ false → IsAtEnd remaining)
ServeReports (Err Read) stretch remaining = IsGoing stretch
ServeReports (Err Write) stretch remaining = Unit {0}
ServeReports (Err Garbled) stretch remaining = IsGarbled stretch
ServeReports (Err TurnsUsed) stretch remaining = IsGoing stretch

-- True if an injected fault closed the connection.
abbrev pub is_over : Standing → Bool
is_over (Holds buffered course) = false
is_over Over = true
is_over Faulted = false

-- True if the turn (one read and its responses) found the end of the input, and no injected fault
-- closed the connection.
abbrev pub came_to_end : Result Turned ServeFault → Standing → Bool
came_to_end (Ok turned) standing = turned.ended && not (is_over standing)
came_to_end (Err fault) standing = false

-- True if the function `serve` found the end of the input, and did not end because an injected
-- fault closed the connection.
abbrev pub served_to_end : Result ℕ ServeFault → Standing → Bool
served_to_end (Ok count) standing = not (is_over standing)
served_to_end (Err fault) standing = false

-- True if the result is a failed read from the connection.
abbrev pub is_read_fault : {X : Type 0} → Result X ServeFault → Bool
is_read_fault (Ok x) = false
is_read_fault (Err Read) = true
is_read_fault (Err Write) = false
is_read_fault (Err Garbled) = false
is_read_fault (Err TurnsUsed) = false

-- True if the last read from the connection had a buffer of 260 bytes, and both flags match its
-- result. `ended` is true exactly if the read found the end, and `failed` exactly if the read
-- failed.
pub record ReportsTake (ended failed : Bool) (last : Option LastTake) : Type 0 where
  pub answer : Result Took LinkFailed
  pub taken : last ≡ Some (record { room = MAX_ADU; answer = answer })
  pub end : ended ≡ is_end answer
  pub failure : failed ≡ is_err answer

-- The effects of one turn of a device, which is one read and the responses to the frames that it
-- completed. Before the read, the device held the bytes `buffered` of an incomplete frame.
pub record Turns (buffered : List ℕ) (course : Course) (result : Result Turned ServeFault)
    (old new : Around) (standing : Standing) : Type 0 where
  pub taken : List ℕ
  pub few : length taken ≤ MAX_ADU
  pub consumed : Consumes old.remaining new.remaining taken
  pub answered : Answered result course (own_frames (buffered ++ taken)) old new
  pub stands : standing
      ≡ standing_after result (buffered ++ taken)
      (course_after_all course old.maps (own_frames (buffered ++ taken)))
  pub reports : TurnReports result (stretch course old.maps (buffered ++ taken)) taken new.remaining

-- True if a device executed all `count` frames read until now and sent the complete responses to
-- them, as injected faults changed them.
pub record Served (buffered : List ℕ) (course : Course) (count : ℕ) (old new : Around)
    (standing : Standing) : Type 0 where
  pub taken : List ℕ
  pub consumed : Consumes old.remaining new.remaining taken
  pub answered : AllAnswered course (own_frames (buffered ++ taken)) old new
  pub stands : standing
      ≡ standing_on (rest (buffered ++ taken))
      (course_after_all course old.maps (own_frames (buffered ++ taken)))
  pub counts : Counts count (stretch course old.maps (buffered ++ taken))

-- The effects of the simulated device's function `serve`, which repeats reads and responses until
-- the input of its connection ends. They are the bytes read and sent, and the changed register map.
-- Before the call, the device held the bytes `buffered` of an incomplete frame.
pub record Serves (buffered : List ℕ) (course : Course) (result : Result ℕ ServeFault)
    (old new : Around) (standing : Standing) : Type 0 where
  pub taken : List ℕ
  pub consumed : Consumes old.remaining new.remaining taken
  pub answered : Answered result course (own_frames (buffered ++ taken)) old new
  pub stands : standing
      ≡ standing_after result (buffered ++ taken)
      (course_after_all course old.maps (own_frames (buffered ++ taken)))
  pub reports : ServeReports result (stretch course old.maps (buffered ++ taken)) new.remaining

-- States that, if the connection of a device in the state `held` is open, then the effects of the
-- function `serve` (frames executed, bytes sent) satisfy its contract `Serves`.
abbrev pub ServesFrom : (held : Standing) → Result ℕ ServeFault → (old new : Around)
    → (standing : Standing) → Type 0
ServesFrom held result old new standing =
    (buffered : List ℕ) (course : Course) → held ≡ Holds buffered course →
    Serves buffered course result old new standing

-- The complete frame that the reader of frames has buffered, as a list of one frame; otherwise the
-- empty list.
abbrev pub buffered_frames : Option (List ℕ) → List (List ℕ)
buffered_frames None = []
buffered_frames (Some frame) = frame ∷ []

-- True if the reader of frames has buffered no frame, or the buffered frame is complete.
abbrev pub HoldsFrame : Option (List ℕ) → Type 0
HoldsFrame None = Unit {0}
HoldsFrame (Some frame) = IsFrame frame

-- States what each result implies when a device responds to its buffered frame. Success counts that
-- frame, and only a write can fail.
abbrev pub BufferedReports : Result ℕ ServeFault → Option (List ℕ) → Type 0
BufferedReports (Ok count) frame = count ≡ length (buffered_frames frame)
BufferedReports (Err Read) frame = ⊥
BufferedReports (Err Write) frame = Unit {0}
BufferedReports (Err Garbled) frame = ⊥
BufferedReports (Err TurnsUsed) frame = ⊥

-- States what each result implies when a device responds to the frames of a received chunk: how
-- many frames it executed, which bytes stay buffered, and whether a length field is invalid.
abbrev pub PieceReports : Result ℕ ServeFault → Stretch → List ℕ → Type 0
PieceReports (Ok count) stretch buffered =
    Counts count stretch × (is_cut stretch.left ≡ false → buffered ≡ rest stretch.bytes)
PieceReports (Err Read) stretch buffered = ⊥
PieceReports (Err Write) stretch buffered = Unit {0}
PieceReports (Err Garbled) stretch buffered = IsGarbled stretch
PieceReports (Err TurnsUsed) stretch buffered = ⊥

-- The state of a simulated device on a connection after a turn (one read and its responses), from
-- the turn's result: `Faulted` after a fault.
abbrev pub standing_in : {X : Type 0} → Result X ServeFault → Buffered → Course → Standing
standing_in (Ok x) reader course = standing_on reader.rest course
standing_in (Err fault) reader course = Faulted

-- All state of a device before or after a turn (one read and its responses): the buffered bytes,
-- the connection, the bytes to receive and sent, and the register map.
pub record Scene : Type 0 where
  pub reader : Buffered
  pub course : Course
  pub around : Around

-- Combines the state of a device before or after a turn (one read and its responses): buffered
-- bytes, connection, bytes to receive and sent, and register map.
abbrev pub scene : Buffered → Course → (remaining given : Option (List ℕ)) → Maps → Scene
scene reader course remaining given maps =
    record { reader = reader; course = course; around = around remaining given maps }

-- True if a turn (one read and its responses) from the state `old` to the state `new` has the
-- effects (frames executed, bytes sent) that its contract `Turns` allows.
abbrev pub TakesTurn : Result Turned ServeFault → (old new : Scene) → Type 0
TakesTurn result old new =
    Turns old.reader.rest old.course result old.around new.around
    (standing_in result new.reader new.course)

-- True if a call of a simulated device's server failed because a read from the connection or a
-- write to it failed.
abbrev pub is_link_fault : {X : Type 0} → Result X ServeFault → Bool
is_link_fault (Ok x) = false
is_link_fault (Err Read) = true
is_link_fault (Err Write) = true
is_link_fault (Err Garbled) = false
is_link_fault (Err TurnsUsed) = false

-- True if a call for this connection of a simulated device has returned a fault.
abbrev pub has_faulted : Standing → Bool
has_faulted (Holds buffered course) = false
has_faulted Over = false
has_faulted Faulted = true

-- True if no call has returned a fault and no injected fault closed the connection of the simulated
-- device.
abbrev pub is_serving : Standing → Bool
is_serving (Holds buffered course) = true
is_serving Over = false
is_serving Faulted = false

-- The numeric code of each fault that stops a simulated device. The codes begin at 1.
abbrev pub serve_fault_number : ServeFault → ℕ
serve_fault_number Read = 1
serve_fault_number Write = 2
serve_fault_number Garbled = 3
serve_fault_number TurnsUsed = 4
