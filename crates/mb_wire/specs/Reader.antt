-- The model of the reader that splits a byte stream into Modbus frames, and the effect of new bytes
-- on this model.
use Rattle.std.specs.Prelude.{◌≡◌, ℕ, ◌+◌, List, [], ◌∷◌, ◌++◌, length, Some, None}
use Rattle.std.specs.declared.option.Option.{Option}
use Rattle.mb_wire.specs.Bytes.{AreBytes, word}
use Rattle.mb_wire.specs.Frames.{IsFrame, IsOwn, IsOpen, IsBad, Reads, tid_of, unit_of, pdu_of}
use Rattle.mb_wire.specs.declared.frames.Frame.{Frame}
use Rattle.mb_wire.specs.declared.frames.Framing.{Framing}
use Rattle.mb_wire.specs.declared.frames.Framing.TheVariants.{Need, Whole, Foreign, Garbled}
use Rattle.mb_wire.specs.declared.frames.State.{State}
use Rattle.mb_wire.specs.declared.frames.State.TheVariants.{Reading, Ended, Stuck}

-- The state of a frame reader: the bytes since the last frame ended, and the Modbus frame that the
-- last call of `feed` (which passes new bytes to the reader) completed, or `None`.
pub record Buffered : Type 0 where
  pub rest : List ℕ
  pub frame : Option (List ℕ)

-- The model of a frame reader with this state and these buffered bytes.
abbrev pub buffered_in : State → List ℕ → Buffered
buffered_in Reading bytes = record { rest = bytes; frame = None }
buffered_in Ended bytes = record { rest = []; frame = Some bytes }
buffered_in Stuck bytes = record { rest = bytes; frame = None }

-- States which bytes a frame reader has buffered in each state. They are an incomplete frame, a
-- complete Modbus frame, or six bytes with an invalid length field.
abbrev pub FitsState : State → List ℕ → Type 0
FitsState Reading bytes = IsOpen bytes
FitsState Ended bytes = IsFrame bytes × IsOwn bytes
FitsState Stuck bytes = IsBad bytes × (length bytes ≡ 6)

-- States what a result of `feed`, which passes new bytes to a frame reader, says about the bytes
-- since the previous frame. They are an incomplete frame, a Modbus frame, a frame of another
-- protocol, or a header with an invalid length field.
abbrev pub ReportsFraming : Framing → List ℕ → Type 0
ReportsFraming Need bytes = IsOpen bytes
ReportsFraming Whole bytes = IsFrame bytes × IsOwn bytes
ReportsFraming Foreign bytes = IsFrame bytes × (IsOwn bytes → ⊥)
ReportsFraming Garbled bytes = IsBad bytes × (length bytes ≡ 6)

-- True if a call of `feed` (which passes new bytes to a frame reader) with this result completed a
-- frame, of Modbus or of another protocol.
abbrev pub IsEnd : Framing → Type 0
IsEnd Need = ⊥
IsEnd Whole = Unit {0}
IsEnd Foreign = Unit {0}
IsEnd Garbled = ⊥

-- The model of a frame reader after a call of `feed` (which passes new bytes to it) with this
-- result. The byte list has the bytes since the previous frame, including those that the call
-- consumed.
abbrev pub buffered_after : Framing → List ℕ → Buffered
buffered_after Need bytes = record { rest = bytes; frame = None }
buffered_after Whole bytes = record { rest = []; frame = Some bytes }
buffered_after Foreign bytes = record { rest = []; frame = None }
buffered_after Garbled bytes = record { rest = bytes; frame = None }

-- The frame that a call of `feed` (which passes new bytes to a frame reader) completed, as a list
-- of one frame. The empty list if the call completed no frame.
abbrev pub ended : Framing → List ℕ → List (List ℕ)
ended Need bytes = []
ended Whole bytes = bytes ∷ []
ended Foreign bytes = bytes ∷ []
ended Garbled bytes = []

-- True if a call of `feed` (which passes new bytes to a frame reader) splits the stream into frames
-- correctly, whatever came before. A frame that the call completes is appended to the earlier
-- frames. Bytes of an incomplete frame are buffered.
abbrev pub ReadsOn : (old new : Buffered) → (taken : List ℕ) → Framing → Type 0
ReadsOn old new taken what =
    (bytes : List ℕ) (before : List (List ℕ)) → Reads bytes before old.rest →
    Reads (bytes ++ taken) (before ++ ended what (old.rest ++ taken)) new.rest

-- The transaction identifier, unit identifier and PDU of a frame.
pub record Fields : Type 0 where
  pub tid : ℕ
  pub unit : ℕ
  pub pdu : List ℕ

-- The fields that the bytes of a complete frame encode.
abbrev pub fields_of : List ℕ → Fields
fields_of frame = record { tid = tid_of frame; unit = unit_of frame; pdu = pdu_of frame }

-- The fields of a `Frame` that a frame reader returns.
abbrev pub spelled : Frame → Fields
spelled frame = record { tid = frame.tid; unit = frame.unit; pdu = frame.pdu.now }

-- The bytes of the Modbus frame with these fields. No other bytes are a Modbus frame with these
-- fields.
abbrev pub spelling : ℕ → ℕ → List ℕ → List ℕ
spelling tid unit pdu = word tid ++ word 0 ++ word (1 + length pdu) ++ unit ∷ pdu

-- True if the bytes that `spelling` computes from frame fields (two identifiers and a PDU) are a
-- Modbus frame that decodes to these fields.
abbrev pub SpellsFrame : ℕ → ℕ → List ℕ → Type 0
SpellsFrame tid unit pdu =
    IsFrame (spelling tid unit pdu) × IsOwn (spelling tid unit pdu)
    × (fields_of (spelling tid unit pdu) ≡ record { tid = tid; unit = unit; pdu = pdu })

-- True if the bytes are a complete Modbus frame.
abbrev pub IsOwnFrame : List ℕ → Type 0
IsOwnFrame bytes = AreBytes bytes × IsFrame bytes × IsOwn bytes
