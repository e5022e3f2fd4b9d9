-- Decodes a request from a PDU, or finds the first fault that applies.
use Rattle.std.specs.Prelude.{ℕ, ◌+◌, ◌*◌, Bool, ◌&&◌, ◌||◌, not, nat_le, nat_lt, ◌==◌, if◌then◌else◌, List, ◌++◌, length, take, drop, slice_index, Ok, Err, Some, None}
use Rattle.std.specs.declared.result.Result.{Result}
use Rattle.std.specs.declared.option.Option.{Option}
use Rattle.mb_wire.specs.declared.limits.TheConstants.{MAX_READ_COILS, MAX_READ_REGISTERS}
use Rattle.mb_wire.specs.declared.limits.TheConstants.{MAX_WRITE_COILS, MAX_WRITE_REGISTERS}
use Rattle.mb_wire.specs.Bytes.{number_at, words_of}
use Rattle.mb_wire.specs.Coils.{bytes_for, cleared_after, coils_of}
use Rattle.mb_wire.specs.Requests.{Query, ReadCoils, ReadDiscrete, ReadHolding, ReadInput, WriteCoil, WriteRegister, WriteCoils, WriteRegisters, query_of}
use Rattle.mb_wire.specs.declared.requests.Request.{Request}
use Rattle.mb_wire.specs.declared.requests.RequestFault.{RequestFault}
use Rattle.mb_wire.specs.declared.requests.RequestFault.TheVariants.{UnknownFunction, WrongLength, WrongQuantity, WrongByteCount, WrongCoilValue}

-- The function code in a request's PDU.
abbrev pub function_in : List ℕ → ℕ
function_in pdu = slice_index pdu 0

-- The address in a request's PDU.
abbrev pub address_in : List ℕ → ℕ
address_in pdu = number_at pdu 1

-- The 16-bit number after the address in a request's PDU: a quantity or a value.
abbrev pub field_in : List ℕ → ℕ
field_in pdu = number_at pdu 3

-- The byte count in a request's PDU.
abbrev pub count_in : List ℕ → ℕ
count_in pdu = slice_index pdu 5

-- True if the function code is one of the eight that the decoder of requests supports (1 to 6, 15
-- and 16).
abbrev pub is_known : ℕ → Bool
is_known function = (nat_le 1 function && nat_le function 6) || function == 15 || function == 16

-- True if the function code is 15 or 16. Requests with these codes have a byte count and data.
abbrev pub carries_bytes : ℕ → Bool
carries_bytes function = function == 15 || function == 16

-- True if the function code is 5 or 6, which write a single value.
abbrev pub writes_one : ℕ → Bool
writes_one function = function == 5 || function == 6

-- The greatest quantity that the Modbus standard allows for a function with a quantity.
abbrev pub most_of : ℕ → ℕ
most_of function =
    if nat_le function 2 then MAX_READ_COILS
    else if nat_le function 4 then MAX_READ_REGISTERS
    else if function == 15 then MAX_WRITE_COILS
    else MAX_WRITE_REGISTERS

-- The number of data bytes in a write request with function code 15 or 16 and the given quantity.
abbrev pub bytes_of : ℕ → ℕ → ℕ
bytes_of function quantity = if function == 15 then bytes_for quantity else 2 * quantity

-- True if the function code is none of the eight that the decoder of requests supports (1 to 6, 15
-- and 16).
abbrev pub is_unknown_function : List ℕ → Bool
is_unknown_function pdu = nat_lt 0 (length pdu) && not (is_known (function_in pdu))

-- True if the PDU is empty, or its length does not match its function and byte count.
abbrev pub is_wrong_request_length : List ℕ → Bool
is_wrong_request_length pdu =
    if carries_bytes (function_in pdu)
    then nat_lt (length pdu) 6 || not (length pdu == 6 + count_in pdu)
    else not (length pdu == 5)

-- True if the quantity of a request is 0, or more than the request's function allows.
abbrev pub is_wrong_quantity : List ℕ → Bool
is_wrong_quantity pdu =
    not (writes_one (function_in pdu))
    && (nat_lt (field_in pdu) 1 || nat_lt (most_of (function_in pdu)) (field_in pdu))

-- True if the byte count of a write request does not match its quantity.
abbrev pub is_wrong_carried_count : List ℕ → Bool
is_wrong_carried_count pdu =
    carries_bytes (function_in pdu)
    && not (count_in pdu == bytes_of (function_in pdu) (field_in pdu))

-- True if the 16-bit value of a coil is not 0x0000 or 0xFF00 (65280).
abbrev pub is_wrong_coil_value : List ℕ → Bool
is_wrong_coil_value pdu = function_in pdu == 5 && not (field_in pdu == 0 || field_in pdu == 65280)

-- The first fault of the PDU as a request, or `None` if the PDU is valid.
abbrev pub request_fault : List ℕ → Option RequestFault
request_fault pdu =
    if is_unknown_function pdu then Some UnknownFunction
    else if is_wrong_request_length pdu then Some WrongLength
    else if is_wrong_quantity pdu then Some WrongQuantity
    else if is_wrong_carried_count pdu then Some WrongByteCount
    else if is_wrong_coil_value pdu then Some WrongCoilValue
    else None

-- The request in a PDU that has no fault.
abbrev pub query_from : List ℕ → Query
query_from pdu =
    if function_in pdu == 1 then ReadCoils (address_in pdu) (field_in pdu)
    else if function_in pdu == 2 then ReadDiscrete (address_in pdu) (field_in pdu)
    else if function_in pdu == 3 then ReadHolding (address_in pdu) (field_in pdu)
    else if function_in pdu == 4 then ReadInput (address_in pdu) (field_in pdu)
    else if function_in pdu == 5 then WriteCoil (address_in pdu) (field_in pdu == 65280)
    else if function_in pdu == 6 then WriteRegister (address_in pdu) (field_in pdu)
    else if function_in pdu == 15
    then WriteCoils (address_in pdu) (coils_of (field_in pdu) (drop 6 pdu))
    else WriteRegisters (address_in pdu) (words_of (drop 6 pdu))

-- The given fault as `Err` if there is one, otherwise the given value as `Ok`.
abbrev pub value_unless : {V F : Type 0} → Option F → V → Result V F
value_unless None value = Ok value
value_unless (Some fault) value = Err fault

-- The request that the PDU encodes, or the first fault that applies.
abbrev pub query_in : List ℕ → Result Query RequestFault
query_in pdu = value_unless (request_fault pdu) (query_from pdu)

-- The result of the request decoder, with the borrowed `Request` converted to a `Query`. Contracts
-- compare results in this form.
abbrev pub asked_as : Result Request RequestFault → Result Query RequestFault
asked_as (Ok request) = Ok (query_of request)
asked_as (Err fault) = Err fault

-- A request's PDU with its spare bits (unused bits of the last coil byte) set to 0.
abbrev pub request_cleared : List ℕ → List ℕ
request_cleared pdu =
    if function_in pdu == 15 then take 6 pdu ++ cleared_after (field_in pdu) (drop 6 pdu) else pdu

-- The numeric code of each fault of a Modbus request PDU, from 1. The codes have the order in which
-- the decoder tests for the faults.
abbrev pub request_fault_number : RequestFault → ℕ
request_fault_number UnknownFunction = 1
request_fault_number WrongLength = 2
request_fault_number WrongQuantity = 3
request_fault_number WrongByteCount = 4
request_fault_number WrongCoilValue = 5
