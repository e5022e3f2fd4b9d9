-- Defines the responses that PDUs encode (Modbus Application Protocol V1.1b3, sections 4.1, 6 and
-- 7).
use Rattle.std.specs.Prelude.{◌≡◌, ℕ, ◌+◌, ◌*◌, Bool, true, false, ◌&&◌, ◌||◌, not, nat_lt, ◌==◌, if◌then◌else◌, List, [], ◌∷◌, ◌++◌, length, take, drop, slice_index, slice_get, Ok, Err, Some, None}
use Rattle.std.specs.declared.result.Result.{Result}
use Rattle.std.specs.declared.option.Option.{Option}
use Rattle.mb_wire.specs.Bytes.{number_at, words_of, word_bytes}
use Rattle.mb_wire.specs.Coils.{bytes_for, cleared_after, coils_of, packed}
use Rattle.mb_wire.specs.Requests.{IsLawful, Query, ReadCoils, ReadDiscrete, ReadHolding, ReadInput, WriteCoil, WriteRegister, WriteCoils, WriteRegisters, query_of, function_of, address_of, field_of, query_bytes}
use Rattle.mb_wire.specs.RequestFaults.{value_unless}
use Rattle.mb_wire.specs.declared.requests.Request.{Request}
use Rattle.mb_wire.specs.declared.requests.Wanted.{Wanted}
use Rattle.mb_wire.specs.declared.requests.Wanted.TheVariants.{Coils, Registers, Head}
use Rattle.mb_wire.specs.declared.replies.Reply.{Reply}
use Rattle.mb_wire.specs.declared.replies.Reply.TheVariants as lent
use Rattle.mb_wire.specs.declared.replies.ReplyFault.{ReplyFault}
use Rattle.mb_wire.specs.declared.replies.ReplyFault.TheVariants.{WrongFunction, WrongLength, WrongByteCount, WrongEcho}

-- A device's response as a value, independent of the memory that a `Reply` borrows.
pub data Answer : Type 0 where
  Bits : (bits : List Bool) → Answer
  Words : (words : List ℕ) → Answer
  Echo : Answer
  Exception : (code : ℕ) → Answer

-- The value of a `Reply`, without its borrowed bytes.
abbrev pub answer_of : Reply → Answer
answer_of (lent.Bits quantity bytes) = Bits (coils_of quantity bytes.now)
answer_of (lent.Words bytes) = Words (words_of bytes.now)
answer_of lent.Echo = Echo
answer_of (lent.Exception code) = Exception code

-- The content of a successful response after the function code: coils, registers, or a repetition
-- of the request's first five bytes.
abbrev pub wanted_by : Query → Wanted
wanted_by (ReadCoils address quantity) = Coils quantity
wanted_by (ReadDiscrete address quantity) = Coils quantity
wanted_by (ReadHolding address quantity) = Registers quantity
wanted_by (ReadInput address quantity) = Registers quantity
wanted_by (WriteCoil address on) = Head
wanted_by (WriteRegister address value) = Head
wanted_by (WriteCoils address coils) = Head
wanted_by (WriteRegisters address values) = Head

-- True if the request reads this number of coils or discrete inputs.
abbrev pub WantsCoils : Query → ℕ → Type 0
WantsCoils query quantity = wanted_by query ≡ Coils quantity

-- True if the request reads this number of registers.
abbrev pub WantsRegisters : Query → ℕ → Type 0
WantsRegisters query quantity = wanted_by query ≡ Registers quantity

-- True if the request is a write. The response to a write repeats the first five bytes of the
-- request.
abbrev pub WantsHead : Query → Type 0
WantsHead query = wanted_by query ≡ Head

-- The first five bytes of a request: function code, address and quantity or value. The response to
-- a write repeats them.
abbrev pub echo_of : Query → List ℕ
echo_of query = take 5 (query_bytes query)

-- True if the PDU encodes this response to the request.
abbrev pub SpellsReply : Query → List ℕ → Answer → Type 0
-- The PDU of a response with coils: the function code, the byte count, and the coils that the
-- request reads.
SpellsReply query pdu (Bits bits) =
    (wanted_by query ≡ Coils (length bits))
    × ((bytes : List ℕ) × (pdu ≡ function_of query ∷ bytes_for (length bits) ∷ bytes)
    × (length bytes ≡ bytes_for (length bits)) × (bits ≡ coils_of (length bits) bytes))
-- The PDU of a response with registers: the function code, the byte count, and the registers that
-- the request reads.
SpellsReply query pdu (Words words) =
    (wanted_by query ≡ Registers (length words))
    × ((bytes : List ℕ) × (pdu ≡ function_of query ∷ 2 * length words ∷ bytes)
    × (length bytes ≡ 2 * length words) × (words ≡ words_of bytes))
-- The PDU of the response to a write: the first five bytes of the request.
SpellsReply query pdu Echo = (wanted_by query ≡ Head) × (pdu ≡ echo_of query)
-- The PDU of an exception response: the function code with its top bit set, and the exception code.
SpellsReply query pdu (Exception code) = pdu ≡ (function_of query + 128) ∷ code ∷ []

-- The PDU of a response to the request, with spare bits (unused bits of the last coil byte) set to
-- 0.
abbrev pub answer_bytes : Query → Answer → List ℕ
answer_bytes query (Bits bits) = function_of query ∷ bytes_for (length bits) ∷ packed bits
answer_bytes query (Words words) = function_of query ∷ 2 * length words ∷ word_bytes words
answer_bytes query Echo = echo_of query
answer_bytes query (Exception code) = (function_of query + 128) ∷ code ∷ []

-- True if the response answers the request: it has the requested quantity of data, repeats a write,
-- or is an exception.
abbrev pub AnswersQuery : Query → Answer → Type 0
AnswersQuery query (Bits bits) = wanted_by query ≡ Coils (length bits)
AnswersQuery query (Words words) = wanted_by query ≡ Registers (length words)
AnswersQuery query Echo = wanted_by query ≡ Head
AnswersQuery query (Exception code) = Unit {0}

-- True if a `Reply` answers the request: it has the requested quantity of data in a matching number
-- of bytes, repeats a write, or is an exception.
abbrev pub AnswersRequest : Request → Reply → Type 0
AnswersRequest request (lent.Bits quantity bytes) =
    (wanted_by (query_of request) ≡ Coils quantity) × (length bytes.now ≡ bytes_for quantity)
AnswersRequest request (lent.Words bytes) =
    (wanted_by (query_of request) ≡ Registers (length (words_of bytes.now)))
    × (length bytes.now ≡ 2 * length (words_of bytes.now))
AnswersRequest request lent.Echo = wanted_by (query_of request) ≡ Head
AnswersRequest request (lent.Exception code) = Unit {0}

-- True if the response is an exception, or if the request is valid and the response answers the
-- request with the right quantity of data.
abbrev pub FitsRequest : Request → Reply → Type 0
FitsRequest request (lent.Bits quantity bytes) =
    IsLawful request × AnswersRequest request (lent.Bits quantity bytes)
FitsRequest request (lent.Words bytes) =
    IsLawful request × AnswersRequest request (lent.Words bytes)
FitsRequest request lent.Echo = IsLawful request × AnswersRequest request lent.Echo
FitsRequest request (lent.Exception code) = Unit {0}

-- Coil `i` (counted from 0) of the response, or `None` if the response has no such coil.
abbrev pub bit_at : Answer → ℕ → Option Bool
bit_at (Bits bits) i = slice_get bits i
bit_at (Words words) i = None
bit_at Echo i = None
bit_at (Exception code) i = None

-- Register `i` (counted from 0) of the response, or `None` if the response has no such register.
abbrev pub word_at : Answer → ℕ → Option ℕ
word_at (Bits bits) i = None
word_at (Words words) i = slice_get words i
word_at Echo i = None
word_at (Exception code) i = None

-- True if a successful response has a byte count and data bytes. Only the response to a write has
-- none.
abbrev pub brings_bytes : Wanted → Bool
brings_bytes (Coils quantity) = true
brings_bytes (Registers quantity) = true
brings_bytes Head = false

-- The number of data bytes in a successful response: those of its coils or registers, or 0 for a
-- write.
abbrev pub byte_count : Wanted → ℕ
byte_count (Coils quantity) = bytes_for quantity
byte_count (Registers quantity) = 2 * quantity
byte_count Head = 0

-- True if the PDU has the request's function code with its top bit set.
abbrev pub is_exception : Query → List ℕ → Bool
is_exception query pdu = slice_index pdu 0 == function_of query + 128

-- True if the PDU's first byte differs from the request's function code, and also from this code
-- with its top bit set.
abbrev pub is_wrong_function : Query → List ℕ → Bool
is_wrong_function query pdu =
    nat_lt 0 (length pdu) && not (slice_index pdu 0 == function_of query || is_exception query pdu)

-- True if the PDU is empty, or its length does not match its function and byte count.
abbrev pub is_wrong_length : Query → List ℕ → Bool
is_wrong_length query pdu =
    if is_exception query pdu
    then not (length pdu == 2)
    else if brings_bytes (wanted_by query)
    then nat_lt (length pdu) 2 || not (length pdu == 2 + slice_index pdu 1)
    else not (length pdu == 5)

-- True if the byte count of a successful response does not match the quantity that the request
-- reads.
abbrev pub is_wrong_byte_count : Query → List ℕ → Bool
is_wrong_byte_count query pdu =
    not (is_exception query pdu) && brings_bytes (wanted_by query)
    && not (slice_index pdu 1 == byte_count (wanted_by query))

-- True if the response to a write does not repeat the address and the quantity or value of the
-- request.
abbrev pub is_wrong_echo : Query → List ℕ → Bool
is_wrong_echo query pdu =
    not (is_exception query pdu) && not (brings_bytes (wanted_by query))
    && not (number_at pdu 1 == address_of query && number_at pdu 3 == field_of query)

-- The first fault of the PDU as a response to the request, or `None` if the PDU is valid.
abbrev pub reply_fault : Query → List ℕ → Option ReplyFault
reply_fault query pdu =
    if is_wrong_function query pdu then Some WrongFunction
    else if is_wrong_length query pdu then Some WrongLength
    else if is_wrong_byte_count query pdu then Some WrongByteCount
    else if is_wrong_echo query pdu then Some WrongEcho
    else None

-- The successful response in a PDU that has no fault: coils, registers, or a repeated write.
abbrev pub brought : Wanted → List ℕ → Answer
brought (Coils quantity) pdu = Bits (coils_of quantity (drop 2 pdu))
brought (Registers quantity) pdu = Words (words_of (drop 2 pdu))
brought Head pdu = Echo

-- The response or exception in a PDU that has no fault.
abbrev pub answer_from : Query → List ℕ → Answer
answer_from query pdu =
    if is_exception query pdu then Exception (slice_index pdu 1) else brought (wanted_by query) pdu

-- The response to the request that the PDU encodes, or the first fault that applies.
abbrev pub answer_in : Query → List ℕ → Result Answer ReplyFault
answer_in query pdu = value_unless (reply_fault query pdu) (answer_from query pdu)

-- The response to a `Request` that the PDU encodes, or the first fault that applies.
abbrev pub reply_of : Request → List ℕ → Result Answer ReplyFault
reply_of request pdu = answer_in (query_of request) pdu

-- The result of the response decoder, with the borrowed `Reply` converted to an `Answer`. Contracts
-- compare results in this form.
abbrev pub read_as : Result Reply ReplyFault → Result Answer ReplyFault
read_as (Ok reply) = Ok (answer_of reply)
read_as (Err fault) = Err fault

-- The PDU of a successful response with its spare bits (unused bits of the last coil byte) set to
-- 0. Only responses with coils have spare bits.
abbrev pub cleared_reply : Wanted → List ℕ → List ℕ
cleared_reply (Coils quantity) pdu = take 2 pdu ++ cleared_after quantity (drop 2 pdu)
cleared_reply (Registers quantity) pdu = pdu
cleared_reply Head pdu = pdu

-- The PDU of a response or an exception, with its spare bits (unused bits of the last coil byte)
-- set to 0.
abbrev pub reply_cleared : Query → List ℕ → List ℕ
reply_cleared query pdu =
    if is_exception query pdu then pdu else cleared_reply (wanted_by query) pdu

-- True if encoding the decoded response again gives the PDU with its spare bits (unused bits of the
-- last coil byte) set to 0.
abbrev pub SpellsBack : Query → List ℕ → Reply → Type 0
SpellsBack query pdu reply = answer_bytes query (answer_of reply) ≡ reply_cleared query pdu

-- The numeric code of each response fault: its position in the order of the checks.
abbrev pub fault_number : ReplyFault → ℕ
fault_number WrongFunction = 1
fault_number WrongLength = 2
fault_number WrongByteCount = 3
fault_number WrongEcho = 4
