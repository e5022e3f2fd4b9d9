-- Defines the format of Modbus TCP frames (Modbus Messaging on TCP/IP V1.0b, section 3.1.3). Also
-- defines how a byte stream splits into complete frames and the bytes after them.
use Rattle.std.specs.Prelude.{◌≡◌, ℕ, zero, suc, ◌+◌, ◌*◌, ◌<◌, ◌≤◌, ◌⊎◌, Bool, ◌&&◌, ◌||◌, nat_le, nat_lt, if◌then◌else◌, List, [], ◌∷◌, ◌++◌, length, take, drop, slice_index}
use Rattle.mb_wire.specs.declared.limits.TheConstants.{MAX_LENGTH, MIN_LENGTH}
use Rattle.std.specs.List.{flat_map, AllByRecursion}

-- The length field of a frame, in its fifth and sixth byte: the number of bytes after the sixth.
abbrev pub span_of : List ℕ → ℕ
span_of bytes = 256 * slice_index bytes 4 + slice_index bytes 5

-- The transaction identifier of a frame, in its first two bytes.
abbrev pub tid_of : List ℕ → ℕ
tid_of bytes = 256 * slice_index bytes 0 + slice_index bytes 1

-- The protocol identifier of a frame, in its third and fourth byte: 0 for Modbus.
abbrev pub protocol_of : List ℕ → ℕ
protocol_of bytes = 256 * slice_index bytes 2 + slice_index bytes 3

-- The unit identifier of a frame, in its seventh byte.
abbrev pub unit_of : List ℕ → ℕ
unit_of bytes = slice_index bytes 6

-- The PDU of a frame: all bytes from the eighth.
abbrev pub pdu_of : List ℕ → List ℕ
pdu_of bytes = drop 7 bytes

-- True if the Modbus standard allows this value of a frame's length field: 2 to 254.
abbrev pub IsGoodSpan : ℕ → Type 0
IsGoodSpan n = (MIN_LENGTH ≤ n) × (n ≤ MAX_LENGTH)

-- True if the bytes are a complete frame: six bytes with a valid length field, and as many further
-- bytes as the field requires.
pub record IsFrame (bytes : List ℕ) : Type 0 where
  pub good : IsGoodSpan (span_of bytes)
  pub whole : length bytes ≡ 6 + span_of bytes

-- True if the frame's protocol identifier is 0, which is Modbus. A reader skips frames of other
-- protocols.
abbrev pub IsOwn : List ℕ → Type 0
IsOwn frame = protocol_of frame ≡ 0

-- True if the bytes are an incomplete frame, or the empty list.
abbrev pub IsOpen : List ℕ → Type 0
IsOpen bytes =
    (length bytes < 6) ⊎ (IsGoodSpan (span_of bytes) × (length bytes < 6 + span_of bytes))

-- True if the byte list has at least six bytes and its length field is invalid. Any bytes may
-- follow.
abbrev pub IsBad : List ℕ → Type 0
IsBad bytes = (6 ≤ length bytes) × ((span_of bytes < MIN_LENGTH) ⊎ (MAX_LENGTH < span_of bytes))

-- True if the byte list is the concatenation of the complete frames `frames` and the bytes `rest`
-- after them, and `rest` begins with no complete frame.
pub record Reads (bytes : List ℕ) (frames : List (List ℕ)) (rest : List ℕ) : Type 0 where
  pub joined : bytes ≡ flat_map (λ frame. frame) frames ++ rest
  pub each : AllByRecursion IsFrame frames
  pub ends : IsOpen rest ⊎ IsBad rest

-- True if the length field is valid and the byte list has all bytes of its first frame.
abbrev pub begins_with_frame : List ℕ → Bool
begins_with_frame bytes =
    nat_le MIN_LENGTH (span_of bytes) && nat_le (span_of bytes) MAX_LENGTH
    && nat_le (6 + span_of bytes) (length bytes)

-- The first `k` complete frames at the front of the byte list, or all of them if there are fewer.
unfoldable pub frames_in : ℕ → List ℕ → List (List ℕ)
frames_in zero bytes = []
frames_in (suc k) bytes =
    if begins_with_frame bytes
    then take (6 + span_of bytes) bytes ∷ frames_in k (drop (6 + span_of bytes) bytes)
    else []

-- The bytes that remain after at most `k` complete frames are removed from the front of the byte
-- list.
unfoldable pub rest_in : ℕ → List ℕ → List ℕ
rest_in zero bytes = bytes
rest_in (suc k) bytes =
    if begins_with_frame bytes then rest_in k (drop (6 + span_of bytes) bytes) else bytes

-- All complete frames at the front of the byte list, in order.
unfoldable pub frames : List ℕ → List (List ℕ)
frames bytes = frames_in (length bytes) bytes

-- The bytes after the last complete frame of a byte list.
unfoldable pub rest : List ℕ → List ℕ
rest bytes = rest_in (length bytes) bytes

-- True if the byte list has at least six bytes and its length field is invalid.
abbrev pub is_bad : List ℕ → Bool
is_bad bytes =
    nat_le 6 (length bytes)
    && (nat_lt (span_of bytes) MIN_LENGTH || nat_lt MAX_LENGTH (span_of bytes))

-- True if the bytes after the last complete frame have an invalid length field, so that no further
-- frame can be read.
unfoldable pub is_garbled : List ℕ → Bool
is_garbled bytes = is_bad (rest bytes)
