-- Defines the requests that PDUs encode (Modbus Application Protocol V1.1b3, sections 4.1 and 6).
use Rattle.std.specs.Prelude.{◌≡◌, ℕ, ◌*◌, ◌<◌, ◌≤◌, Bool, if◌then◌else◌, List, [], ◌∷◌, ◌++◌, length}
use Rattle.mb_wire.specs.declared.limits.TheConstants.{MAX_READ_COILS, MAX_READ_REGISTERS}
use Rattle.mb_wire.specs.declared.limits.TheConstants.{MAX_WRITE_COILS, MAX_WRITE_REGISTERS}
use Rattle.mb_wire.specs.Bytes.{word, words_of, word_bytes}
use Rattle.mb_wire.specs.Coils.{bytes_for, coils_of, packed}
use Rattle.mb_wire.specs.declared.requests.Request.{Request}
use Rattle.mb_wire.specs.declared.requests.Request.TheVariants as lent

-- A client's request as a value, independent of the memory that a `Request` borrows.
pub data Query : Type 0 where
  ReadCoils : (address quantity : ℕ) → Query
  ReadDiscrete : (address quantity : ℕ) → Query
  ReadHolding : (address quantity : ℕ) → Query
  ReadInput : (address quantity : ℕ) → Query
  WriteCoil : (address : ℕ) (on : Bool) → Query
  WriteRegister : (address value : ℕ) → Query
  WriteCoils : (address : ℕ) (coils : List Bool) → Query
  WriteRegisters : (address : ℕ) (values : List ℕ) → Query

-- The value of a `Request`, without its borrowed data bytes.
abbrev pub query_of : Request → Query
query_of (lent.ReadCoils address quantity) = ReadCoils address quantity
query_of (lent.ReadDiscrete address quantity) = ReadDiscrete address quantity
query_of (lent.ReadHolding address quantity) = ReadHolding address quantity
query_of (lent.ReadInput address quantity) = ReadInput address quantity
query_of (lent.WriteCoil address on) = WriteCoil address on
query_of (lent.WriteRegister address value) = WriteRegister address value
query_of (lent.WriteCoils address quantity bytes) = WriteCoils address (coils_of quantity bytes.now)
query_of (lent.WriteRegisters address bytes) = WriteRegisters address (words_of bytes.now)

-- The function code of a request.
abbrev pub function_of : Query → ℕ
function_of (ReadCoils address quantity) = 1
function_of (ReadDiscrete address quantity) = 2
function_of (ReadHolding address quantity) = 3
function_of (ReadInput address quantity) = 4
function_of (WriteCoil address on) = 5
function_of (WriteRegister address value) = 6
function_of (WriteCoils address coils) = 15
function_of (WriteRegisters address values) = 16

-- The first address that a request reads or writes.
abbrev pub address_of : Query → ℕ
address_of (ReadCoils address quantity) = address
address_of (ReadDiscrete address quantity) = address
address_of (ReadHolding address quantity) = address
address_of (ReadInput address quantity) = address
address_of (WriteCoil address on) = address
address_of (WriteRegister address value) = address
address_of (WriteCoils address coils) = address
address_of (WriteRegisters address values) = address

-- The 16-bit encoding of a coil's value: 0xFF00 (65280) for on, 0 for off.
abbrev pub coil_value : Bool → ℕ
coil_value on = if on then 65280 else 0

-- The 16-bit number after the address: the quantity, or the value of a write to one address.
abbrev pub field_of : Query → ℕ
field_of (ReadCoils address quantity) = quantity
field_of (ReadDiscrete address quantity) = quantity
field_of (ReadHolding address quantity) = quantity
field_of (ReadInput address quantity) = quantity
field_of (WriteCoil address on) = coil_value on
field_of (WriteRegister address value) = value
field_of (WriteCoils address coils) = length coils
field_of (WriteRegisters address values) = length values

-- The bytes after the first five of a request: the byte count and the data, if the function has
-- data.
abbrev pub carried_by : Query → List ℕ
carried_by (ReadCoils address quantity) = []
carried_by (ReadDiscrete address quantity) = []
carried_by (ReadHolding address quantity) = []
carried_by (ReadInput address quantity) = []
carried_by (WriteCoil address on) = []
carried_by (WriteRegister address value) = []
carried_by (WriteCoils address coils) = bytes_for (length coils) ∷ packed coils
carried_by (WriteRegisters address values) = 2 * length values ∷ word_bytes values

-- The first five bytes of a request: the function code and two 16-bit numbers.
abbrev pub head_bytes : ℕ → ℕ → ℕ → List ℕ
head_bytes function address field = function ∷ word address ++ word field

-- The PDU that encodes a request, with spare bits (unused bits of the last coil byte) set to 0.
abbrev pub query_bytes : Query → List ℕ
query_bytes query =
    head_bytes (function_of query) (address_of query) (field_of query) ++ carried_by query

-- The PDU that encodes a borrowed `Request`, with spare bits (unused bits of the last coil byte)
-- set to 0.
abbrev pub request_bytes : Request → List ℕ
request_bytes request = query_bytes (query_of request)

-- True if the quantity is at least 1 and at most the given maximum.
abbrev pub IsWithin : ℕ → ℕ → Type 0
IsWithin quantity most = (1 ≤ quantity) × (quantity ≤ most)

-- True if the Modbus standard allows the quantity of this request for its function.
abbrev pub IsLawfulQuery : Query → Type 0
IsLawfulQuery (ReadCoils address quantity) = IsWithin quantity MAX_READ_COILS
IsLawfulQuery (ReadDiscrete address quantity) = IsWithin quantity MAX_READ_COILS
IsLawfulQuery (ReadHolding address quantity) = IsWithin quantity MAX_READ_REGISTERS
IsLawfulQuery (ReadInput address quantity) = IsWithin quantity MAX_READ_REGISTERS
IsLawfulQuery (WriteCoil address on) = Unit {0}
IsLawfulQuery (WriteRegister address value) = Unit {0}
IsLawfulQuery (WriteCoils address coils) = IsWithin (length coils) MAX_WRITE_COILS
IsLawfulQuery (WriteRegisters address values) = IsWithin (length values) MAX_WRITE_REGISTERS

-- True if the Modbus standard allows the quantity of the `Request`, and its number of data bytes
-- matches.
abbrev pub IsLawful : Request → Type 0
IsLawful (lent.ReadCoils address quantity) = IsWithin quantity MAX_READ_COILS
IsLawful (lent.ReadDiscrete address quantity) = IsWithin quantity MAX_READ_COILS
IsLawful (lent.ReadHolding address quantity) = IsWithin quantity MAX_READ_REGISTERS
IsLawful (lent.ReadInput address quantity) = IsWithin quantity MAX_READ_REGISTERS
IsLawful (lent.WriteCoil address on) = Unit {0}
IsLawful (lent.WriteRegister address value) = Unit {0}
IsLawful (lent.WriteCoils address quantity bytes) =
    IsWithin quantity MAX_WRITE_COILS × (length bytes.now ≡ bytes_for quantity)
IsLawful (lent.WriteRegisters address bytes) =
    IsWithin (length (words_of bytes.now)) MAX_WRITE_REGISTERS
    × (length bytes.now ≡ 2 * length (words_of bytes.now))

-- True if the PDU encodes the request, and the request's quantity and address are in range.
abbrev pub SpellsRequest : List ℕ → Query → Type 0
SpellsRequest pdu (ReadCoils address quantity) =
    IsWithin quantity MAX_READ_COILS × (address < 65536) × (pdu ≡ head_bytes 1 address quantity)
SpellsRequest pdu (ReadDiscrete address quantity) =
    IsWithin quantity MAX_READ_COILS × (address < 65536) × (pdu ≡ head_bytes 2 address quantity)
SpellsRequest pdu (ReadHolding address quantity) =
    IsWithin quantity MAX_READ_REGISTERS × (address < 65536) × (pdu ≡ head_bytes 3 address quantity)
SpellsRequest pdu (ReadInput address quantity) =
    IsWithin quantity MAX_READ_REGISTERS × (address < 65536) × (pdu ≡ head_bytes 4 address quantity)
SpellsRequest pdu (WriteCoil address on) =
    (address < 65536) × (pdu ≡ head_bytes 5 address (coil_value on))
SpellsRequest pdu (WriteRegister address value) =
    (address < 65536) × (value < 65536) × (pdu ≡ head_bytes 6 address value)
SpellsRequest pdu (WriteCoils address coils) =
    IsWithin (length coils) MAX_WRITE_COILS × (address < 65536)
    × ((bytes : List ℕ) × (pdu ≡ head_bytes 15 address (length coils) ++ length bytes ∷ bytes)
    × (length bytes ≡ bytes_for (length coils)) × (coils ≡ coils_of (length coils) bytes))
SpellsRequest pdu (WriteRegisters address values) =
    IsWithin (length values) MAX_WRITE_REGISTERS × (address < 65536)
    × ((bytes : List ℕ) × (pdu ≡ head_bytes 16 address (length values) ++ length bytes ∷ bytes)
    × (length bytes ≡ 2 * length values) × (values ≡ words_of bytes))
