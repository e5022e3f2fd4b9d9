-- Defines a device's response to a PDU and the register map after it (Modbus Application Protocol
-- V1.1b3, sections 6 and 7).
use Rattle.std.specs.Prelude.{ℕ, ◌+◌, Bool, ◌==◌, not, nat_lt, if◌then◌else◌, List, [], ◌∷◌, map, length, unwrap_or, Ok, Err}
use Rattle.std.specs.declared.result.Result.{Result}
use Rattle.std.specs.declared.option.Option.{Option}
use Rattle.mb_wire.specs.Requests.{Query, ReadCoils, ReadDiscrete, ReadHolding, ReadInput, WriteCoil, WriteRegister, WriteCoils, WriteRegisters}
use Rattle.mb_wire.specs.RequestFaults.{function_in, query_in}
use Rattle.mb_wire.specs.Replies.{Answer, Bits, Words, Echo, Exception, answer_bytes}
use Rattle.mb_wire.specs.declared.requests.RequestFault.{RequestFault}
use Rattle.mb_wire.specs.declared.requests.RequestFault.TheVariants.{UnknownFunction, WrongLength, WrongQuantity, WrongByteCount, WrongCoilValue}
use Rattle.mb_device.specs.declared.kinds.Kind.TheVariants.{Coil, Holding}
use Rattle.mb_device.specs.Maps.{Maps, all_written, are_there, values_at, with_table}

-- The exception code of a request fault: 1 is illegal function, 3 is illegal data value.
abbrev pub code_of_fault : RequestFault → ℕ
code_of_fault UnknownFunction = 1
code_of_fault WrongLength = 3
code_of_fault WrongQuantity = 3
code_of_fault WrongByteCount = 3
code_of_fault WrongCoilValue = 3

-- The PDU of an exception response: the function code with its top bit set, and the exception code.
abbrev pub exception_bytes : ℕ → ℕ → List ℕ
exception_bytes function code =
    (if nat_lt function 128 then function + 128 else function) ∷ code ∷ []

-- True if the device has every address that the request reads or writes.
abbrev pub has_all : Maps → Query → Bool
has_all maps (ReadCoils address quantity) = are_there maps.coils address quantity
has_all maps (ReadDiscrete address quantity) = are_there maps.discretes address quantity
has_all maps (ReadHolding address quantity) = are_there maps.holdings address quantity
has_all maps (ReadInput address quantity) = are_there maps.inputs address quantity
has_all maps (WriteCoil address on) = are_there maps.coils address 1
has_all maps (WriteRegister address value) = are_there maps.holdings address 1
has_all maps (WriteCoils address coils) = are_there maps.coils address (length coils)
has_all maps (WriteRegisters address values) = are_there maps.holdings address (length values)

-- The number that is stored for a coil: 1 if it is on, otherwise 0.
abbrev pub coil_number : Bool → ℕ
coil_number on = if on then 1 else 0

-- The value at an address, or 0 if the device does not have the address.
abbrev pub kept_value : Option ℕ → ℕ
kept_value value = unwrap_or value 0

-- True if the coil at an address is on. An address that the device does not have counts as off.
abbrev pub is_kept_on : Option ℕ → Bool
is_kept_on value = not (kept_value value == 0)

-- The given response if the device has all `count` addresses from `address` on, otherwise exception
-- 2 (illegal data address).
abbrev pub if_there : List (Option ℕ) → (address count : ℕ) → Answer → Answer
if_there table address count answer =
    if are_there table address count then answer else Exception 2

-- The response to a read of coils or discrete inputs, or exception 2 if the device does not have
-- all of the addresses.
abbrev pub bits_at : List (Option ℕ) → (address quantity : ℕ) → Answer
bits_at table address quantity =
    if_there table address quantity (Bits (map is_kept_on (values_at table address quantity)))

-- The response to a read of registers, or exception 2 if the device does not have all of the
-- addresses.
abbrev pub words_at : List (Option ℕ) → (address quantity : ℕ) → Answer
words_at table address quantity =
    if_there table address quantity (Words (map kept_value (values_at table address quantity)))

-- The device's table of coils after a write. The table is unchanged if the device does not have all
-- of the addresses.
abbrev pub coils_written : List (Option ℕ) → (address : ℕ) → List Bool → List (Option ℕ)
coils_written table address coils =
    if are_there table address (length coils)
    then all_written table address (map coil_number coils)
    else table

-- The device's table of holding registers after a write. The table is unchanged if the device does
-- not have all of the addresses.
abbrev pub words_written : List (Option ℕ) → (address : ℕ) → List ℕ → List (Option ℕ)
words_written table address words =
    if are_there table address (length words) then all_written table address words else table

-- The response to a request, for a device that has all addresses of the request.
abbrev pub answered : Maps → Query → Answer
answered maps (ReadCoils address quantity) =
    Bits (map is_kept_on (values_at maps.coils address quantity))
answered maps (ReadDiscrete address quantity) =
    Bits (map is_kept_on (values_at maps.discretes address quantity))
answered maps (ReadHolding address quantity) =
    Words (map kept_value (values_at maps.holdings address quantity))
answered maps (ReadInput address quantity) =
    Words (map kept_value (values_at maps.inputs address quantity))
answered maps (WriteCoil address on) = Echo
answered maps (WriteRegister address value) = Echo
answered maps (WriteCoils address coils) = Echo
answered maps (WriteRegisters address values) = Echo

-- The register map after a request, for a device that has all addresses of the request.
abbrev pub carried_out : Maps → Query → Maps
carried_out maps (ReadCoils address quantity) = maps
carried_out maps (ReadDiscrete address quantity) = maps
carried_out maps (ReadHolding address quantity) = maps
carried_out maps (ReadInput address quantity) = maps
carried_out maps (WriteCoil address on) =
    with_table maps Coil (all_written maps.coils address (coil_number on ∷ []))
carried_out maps (WriteRegister address value) =
    with_table maps Holding (all_written maps.holdings address (value ∷ []))
carried_out maps (WriteCoils address coils) =
    with_table maps Coil (all_written maps.coils address (map coil_number coils))
carried_out maps (WriteRegisters address values) =
    with_table maps Holding (all_written maps.holdings address values)

-- The response PDU to a decoded request, or the exception response to a request with a fault.
abbrev pub reply_for : Maps → ℕ → Result Query RequestFault → List ℕ
reply_for maps function (Err fault) = exception_bytes function (code_of_fault fault)
reply_for maps function (Ok query) =
    answer_bytes query (if has_all maps query then answered maps query else Exception 2)

-- The register map after a decoded request. A request with a fault changes nothing.
abbrev pub maps_for : Maps → Result Query RequestFault → Maps
maps_for maps (Err fault) = maps
maps_for maps (Ok query) = if has_all maps query then carried_out maps query else maps

-- The response PDU of the device to a request PDU of a client.
abbrev pub answer_to : Maps → List ℕ → List ℕ
answer_to maps pdu = reply_for maps (function_in pdu) (query_in pdu)

-- The register map of the device after a request PDU.
abbrev pub maps_after : Maps → List ℕ → Maps
maps_after maps pdu = maps_for maps (query_in pdu)
