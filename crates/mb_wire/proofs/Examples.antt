-- Checks the definitions of Modbus requests and responses by examples: those printed in the Modbus
-- standard, and each limit with its first invalid value. A wrong constant in the program fails an
-- example.
use Rattle.std.proofs.Common.{◌≡◌, true, false, List, ℕ, [], ◌∷◌, length, replicate, Ok, Err, Some, None, refl, arith}
use Rattle.mb_wire.specs.Coils.{bits_in, coils_in, packed_in}
use Rattle.mb_wire.specs.Frames.{frames, frames_in, is_bad, is_garbled, rest, rest_in}
use Rattle.mb_wire.specs.Requests.{ReadCoils, ReadDiscrete, ReadHolding, ReadInput, WriteCoil, WriteRegister, WriteCoils, WriteRegisters, query_bytes}
use Rattle.mb_wire.specs.RequestFaults.{query_in, request_fault}
use Rattle.mb_wire.specs.Replies.{Bits, Words, Echo, Exception, answer_bytes, answer_in}
use Rattle.mb_wire.specs.Spans.{IsSpan}
use Rattle.mb_wire.specs.declared.limits.TheConstants.{ADDRESSES, MAX_ADU, MAX_PDU, MBAP_HEADER}
use Rattle.mb_wire.specs.declared.requests.RequestFault.TheVariants.{WrongQuantity}

-- The least and the greatest quantity of each function, and the first invalid quantities. Each
-- request consists of the function code, address 0, the quantity, and data for a write.

reads_0_coils : request_fault (1 ∷ 0 ∷ 0 ∷ 0 ∷ 0 ∷ []) ≡ Some WrongQuantity
reads_0_coils = refl

reads_1_coils : request_fault (1 ∷ 0 ∷ 0 ∷ 0 ∷ 1 ∷ []) ≡ None
reads_1_coils = refl

reads_2000_coils : request_fault (1 ∷ 0 ∷ 0 ∷ 7 ∷ 208 ∷ []) ≡ None
reads_2000_coils = refl

reads_2001_coils : request_fault (1 ∷ 0 ∷ 0 ∷ 7 ∷ 209 ∷ []) ≡ Some WrongQuantity
reads_2001_coils = refl

reads_0_discretes : request_fault (2 ∷ 0 ∷ 0 ∷ 0 ∷ 0 ∷ []) ≡ Some WrongQuantity
reads_0_discretes = refl

reads_1_discretes : request_fault (2 ∷ 0 ∷ 0 ∷ 0 ∷ 1 ∷ []) ≡ None
reads_1_discretes = refl

reads_2000_discretes : request_fault (2 ∷ 0 ∷ 0 ∷ 7 ∷ 208 ∷ []) ≡ None
reads_2000_discretes = refl

reads_2001_discretes : request_fault (2 ∷ 0 ∷ 0 ∷ 7 ∷ 209 ∷ []) ≡ Some WrongQuantity
reads_2001_discretes = refl

reads_0_holdings : request_fault (3 ∷ 0 ∷ 0 ∷ 0 ∷ 0 ∷ []) ≡ Some WrongQuantity
reads_0_holdings = refl

reads_1_holdings : request_fault (3 ∷ 0 ∷ 0 ∷ 0 ∷ 1 ∷ []) ≡ None
reads_1_holdings = refl

reads_125_holdings : request_fault (3 ∷ 0 ∷ 0 ∷ 0 ∷ 125 ∷ []) ≡ None
reads_125_holdings = refl

reads_126_holdings : request_fault (3 ∷ 0 ∷ 0 ∷ 0 ∷ 126 ∷ []) ≡ Some WrongQuantity
reads_126_holdings = refl

reads_0_inputs : request_fault (4 ∷ 0 ∷ 0 ∷ 0 ∷ 0 ∷ []) ≡ Some WrongQuantity
reads_0_inputs = refl

reads_1_inputs : request_fault (4 ∷ 0 ∷ 0 ∷ 0 ∷ 1 ∷ []) ≡ None
reads_1_inputs = refl

reads_125_inputs : request_fault (4 ∷ 0 ∷ 0 ∷ 0 ∷ 125 ∷ []) ≡ None
reads_125_inputs = refl

reads_126_inputs : request_fault (4 ∷ 0 ∷ 0 ∷ 0 ∷ 126 ∷ []) ≡ Some WrongQuantity
reads_126_inputs = refl

writes_0_coils : request_fault (15 ∷ 0 ∷ 0 ∷ 0 ∷ 0 ∷ 0 ∷ []) ≡ Some WrongQuantity
writes_0_coils = refl

writes_1_coils : request_fault (15 ∷ 0 ∷ 0 ∷ 0 ∷ 1 ∷ 1 ∷ replicate 1 0) ≡ None
writes_1_coils = refl

writes_1968_coils : request_fault (15 ∷ 0 ∷ 0 ∷ 7 ∷ 176 ∷ 246 ∷ replicate 246 0) ≡ None
writes_1968_coils = refl

writes_1969_coils : request_fault (15 ∷ 0 ∷ 0 ∷ 7 ∷ 177 ∷ 247 ∷ replicate 247 0) ≡ Some WrongQuantity
writes_1969_coils = refl

writes_0_registers : request_fault (16 ∷ 0 ∷ 0 ∷ 0 ∷ 0 ∷ 0 ∷ []) ≡ Some WrongQuantity
writes_0_registers = refl

writes_1_registers : request_fault (16 ∷ 0 ∷ 0 ∷ 0 ∷ 1 ∷ 2 ∷ replicate 2 0) ≡ None
writes_1_registers = refl

writes_123_registers : request_fault (16 ∷ 0 ∷ 0 ∷ 0 ∷ 123 ∷ 246 ∷ replicate 246 0) ≡ None
writes_123_registers = refl

writes_124_registers : request_fault (16 ∷ 0 ∷ 0 ∷ 0 ∷ 124 ∷ 248 ∷ replicate 248 0) ≡ Some WrongQuantity
writes_124_registers = refl

-- The sizes of a frame: a header of 7 bytes and a PDU of at most 253 bytes.

longest_pdu : MAX_PDU ≡ 253
longest_pdu = refl

longest_frame : MAX_ADU ≡ 260
longest_frame = refl

a_header : MBAP_HEADER ≡ 7
a_header = refl

addresses : ADDRESSES ≡ 65536
addresses = refl

-- Length fields at both ends of the valid range: 1 (invalid) and 2 (valid), 254 (valid) and 255
-- (invalid).
length_1 : is_bad (0 ∷ 0 ∷ 0 ∷ 0 ∷ 0 ∷ 1 ∷ []) ≡ true
length_1 = refl

length_2 : is_bad (0 ∷ 0 ∷ 0 ∷ 0 ∷ 0 ∷ 2 ∷ []) ≡ false
length_2 = refl

length_254 : is_bad (0 ∷ 0 ∷ 0 ∷ 0 ∷ 0 ∷ 254 ∷ []) ≡ false
length_254 = refl

length_255 : is_bad (0 ∷ 0 ∷ 0 ∷ 0 ∷ 0 ∷ 255 ∷ []) ≡ true
length_255 = refl

-- The frames with the shortest and the longest PDU that the Modbus standard allows.
abbrev shortest : List ℕ
shortest = 0 ∷ 0 ∷ 0 ∷ 0 ∷ 0 ∷ 2 ∷ 1 ∷ 3 ∷ []

abbrev longest : List ℕ
longest = 0 ∷ 0 ∷ 0 ∷ 0 ∷ 0 ∷ 254 ∷ 1 ∷ replicate 253 0

shortest_is_read : frames shortest ≡ shortest ∷ []
unfolding frames frames_in
shortest_is_read = refl

longest_has : length longest ≡ 260
longest_has = refl

longest_is_read : frames longest ≡ longest ∷ []
unfolding frames frames_in
longest_is_read = refl

-- A frame with one byte more than the longest frame that the Modbus standard allows.
abbrev too_long : List ℕ
too_long = 0 ∷ 0 ∷ 0 ∷ 0 ∷ 0 ∷ 255 ∷ 1 ∷ replicate 254 0

too_long_is_garbled : is_garbled too_long ≡ true
unfolding is_garbled rest rest_in
too_long_is_garbled = refl

-- The register ranges that one request can read: 1 to 125 registers within the 65536 addresses.

span_of_125 : IsSpan 3 65411 125
span_of_125 = record { low = omega arith; high = omega arith; some = omega arith; few = omega arith; inside = omega arith }

span_of_126 : IsSpan 3 0 126 → ⊥
span_of_126 span = omega (arith, span.few)

span_past_the_last : IsSpan 4 65412 125 → ⊥
span_past_the_last span = omega (arith, span.inside)

-- The examples in the Modbus standard (Modbus Application Protocol V1.1b3, section 6). Each request
-- and response is decoded and encoded.

read_coils_is_read : query_in (1 ∷ 0 ∷ 19 ∷ 0 ∷ 19 ∷ []) ≡ Ok (ReadCoils 19 19)
unfolding coils_in bits_in packed_in
read_coils_is_read = refl

read_coils_is_spelled : query_bytes (ReadCoils 19 19) ≡ 1 ∷ 0 ∷ 19 ∷ 0 ∷ 19 ∷ []
unfolding coils_in bits_in packed_in
read_coils_is_spelled = refl

read_coils_reply_is_read : answer_in (ReadCoils 19 19) (1 ∷ 3 ∷ 205 ∷ 107 ∷ 5 ∷ []) ≡ Ok (Bits (true ∷ false ∷ true ∷ true ∷ false ∷ false ∷ true ∷ true ∷ true ∷ true ∷ false ∷ true ∷ false ∷ true ∷ true ∷ false ∷ true ∷ false ∷ true ∷ []))
unfolding coils_in bits_in packed_in
read_coils_reply_is_read = refl

read_coils_reply_is_spelled : answer_bytes (ReadCoils 19 19) (Bits (true ∷ false ∷ true ∷ true ∷ false ∷ false ∷ true ∷ true ∷ true ∷ true ∷ false ∷ true ∷ false ∷ true ∷ true ∷ false ∷ true ∷ false ∷ true ∷ [])) ≡ 1 ∷ 3 ∷ 205 ∷ 107 ∷ 5 ∷ []
unfolding coils_in bits_in packed_in
read_coils_reply_is_spelled = refl

read_discretes_is_read : query_in (2 ∷ 0 ∷ 196 ∷ 0 ∷ 22 ∷ []) ≡ Ok (ReadDiscrete 196 22)
unfolding coils_in bits_in packed_in
read_discretes_is_read = refl

read_discretes_is_spelled : query_bytes (ReadDiscrete 196 22) ≡ 2 ∷ 0 ∷ 196 ∷ 0 ∷ 22 ∷ []
unfolding coils_in bits_in packed_in
read_discretes_is_spelled = refl

read_discretes_reply_is_read : answer_in (ReadDiscrete 196 22) (2 ∷ 3 ∷ 172 ∷ 219 ∷ 53 ∷ []) ≡ Ok (Bits (false ∷ false ∷ true ∷ true ∷ false ∷ true ∷ false ∷ true ∷ true ∷ true ∷ false ∷ true ∷ true ∷ false ∷ true ∷ true ∷ true ∷ false ∷ true ∷ false ∷ true ∷ true ∷ []))
unfolding coils_in bits_in packed_in
read_discretes_reply_is_read = refl

read_discretes_reply_is_spelled : answer_bytes (ReadDiscrete 196 22) (Bits (false ∷ false ∷ true ∷ true ∷ false ∷ true ∷ false ∷ true ∷ true ∷ true ∷ false ∷ true ∷ true ∷ false ∷ true ∷ true ∷ true ∷ false ∷ true ∷ false ∷ true ∷ true ∷ [])) ≡ 2 ∷ 3 ∷ 172 ∷ 219 ∷ 53 ∷ []
unfolding coils_in bits_in packed_in
read_discretes_reply_is_spelled = refl

read_holdings_is_read : query_in (3 ∷ 0 ∷ 107 ∷ 0 ∷ 3 ∷ []) ≡ Ok (ReadHolding 107 3)
unfolding coils_in bits_in packed_in
read_holdings_is_read = refl

read_holdings_is_spelled : query_bytes (ReadHolding 107 3) ≡ 3 ∷ 0 ∷ 107 ∷ 0 ∷ 3 ∷ []
unfolding coils_in bits_in packed_in
read_holdings_is_spelled = refl

read_holdings_reply_is_read : answer_in (ReadHolding 107 3) (3 ∷ 6 ∷ 2 ∷ 43 ∷ 0 ∷ 0 ∷ 0 ∷ 100 ∷ []) ≡ Ok (Words (555 ∷ 0 ∷ 100 ∷ []))
unfolding coils_in bits_in packed_in
read_holdings_reply_is_read = refl

read_holdings_reply_is_spelled : answer_bytes (ReadHolding 107 3) (Words (555 ∷ 0 ∷ 100 ∷ [])) ≡ 3 ∷ 6 ∷ 2 ∷ 43 ∷ 0 ∷ 0 ∷ 0 ∷ 100 ∷ []
unfolding coils_in bits_in packed_in
read_holdings_reply_is_spelled = refl

read_inputs_is_read : query_in (4 ∷ 0 ∷ 8 ∷ 0 ∷ 1 ∷ []) ≡ Ok (ReadInput 8 1)
unfolding coils_in bits_in packed_in
read_inputs_is_read = refl

read_inputs_is_spelled : query_bytes (ReadInput 8 1) ≡ 4 ∷ 0 ∷ 8 ∷ 0 ∷ 1 ∷ []
unfolding coils_in bits_in packed_in
read_inputs_is_spelled = refl

read_inputs_reply_is_read : answer_in (ReadInput 8 1) (4 ∷ 2 ∷ 0 ∷ 10 ∷ []) ≡ Ok (Words (10 ∷ []))
unfolding coils_in bits_in packed_in
read_inputs_reply_is_read = refl

read_inputs_reply_is_spelled : answer_bytes (ReadInput 8 1) (Words (10 ∷ [])) ≡ 4 ∷ 2 ∷ 0 ∷ 10 ∷ []
unfolding coils_in bits_in packed_in
read_inputs_reply_is_spelled = refl

write_coil_is_read : query_in (5 ∷ 0 ∷ 172 ∷ 255 ∷ 0 ∷ []) ≡ Ok (WriteCoil 172 true)
unfolding coils_in bits_in packed_in
write_coil_is_read = refl

write_coil_is_spelled : query_bytes (WriteCoil 172 true) ≡ 5 ∷ 0 ∷ 172 ∷ 255 ∷ 0 ∷ []
unfolding coils_in bits_in packed_in
write_coil_is_spelled = refl

write_coil_reply_is_read : answer_in (WriteCoil 172 true) (5 ∷ 0 ∷ 172 ∷ 255 ∷ 0 ∷ []) ≡ Ok Echo
unfolding coils_in bits_in packed_in
write_coil_reply_is_read = refl

write_coil_reply_is_spelled : answer_bytes (WriteCoil 172 true) Echo ≡ 5 ∷ 0 ∷ 172 ∷ 255 ∷ 0 ∷ []
unfolding coils_in bits_in packed_in
write_coil_reply_is_spelled = refl

write_register_is_read : query_in (6 ∷ 0 ∷ 1 ∷ 0 ∷ 3 ∷ []) ≡ Ok (WriteRegister 1 3)
unfolding coils_in bits_in packed_in
write_register_is_read = refl

write_register_is_spelled : query_bytes (WriteRegister 1 3) ≡ 6 ∷ 0 ∷ 1 ∷ 0 ∷ 3 ∷ []
unfolding coils_in bits_in packed_in
write_register_is_spelled = refl

write_register_reply_is_read : answer_in (WriteRegister 1 3) (6 ∷ 0 ∷ 1 ∷ 0 ∷ 3 ∷ []) ≡ Ok Echo
unfolding coils_in bits_in packed_in
write_register_reply_is_read = refl

write_register_reply_is_spelled : answer_bytes (WriteRegister 1 3) Echo ≡ 6 ∷ 0 ∷ 1 ∷ 0 ∷ 3 ∷ []
unfolding coils_in bits_in packed_in
write_register_reply_is_spelled = refl

write_coils_is_read : query_in (15 ∷ 0 ∷ 19 ∷ 0 ∷ 10 ∷ 2 ∷ 205 ∷ 1 ∷ []) ≡ Ok (WriteCoils 19 (true ∷ false ∷ true ∷ true ∷ false ∷ false ∷ true ∷ true ∷ true ∷ false ∷ []))
unfolding coils_in bits_in packed_in
write_coils_is_read = refl

write_coils_is_spelled : query_bytes (WriteCoils 19 (true ∷ false ∷ true ∷ true ∷ false ∷ false ∷ true ∷ true ∷ true ∷ false ∷ [])) ≡ 15 ∷ 0 ∷ 19 ∷ 0 ∷ 10 ∷ 2 ∷ 205 ∷ 1 ∷ []
unfolding coils_in bits_in packed_in
write_coils_is_spelled = refl

write_coils_reply_is_read : answer_in (WriteCoils 19 (true ∷ false ∷ true ∷ true ∷ false ∷ false ∷ true ∷ true ∷ true ∷ false ∷ [])) (15 ∷ 0 ∷ 19 ∷ 0 ∷ 10 ∷ []) ≡ Ok Echo
unfolding coils_in bits_in packed_in
write_coils_reply_is_read = refl

write_coils_reply_is_spelled : answer_bytes (WriteCoils 19 (true ∷ false ∷ true ∷ true ∷ false ∷ false ∷ true ∷ true ∷ true ∷ false ∷ [])) Echo ≡ 15 ∷ 0 ∷ 19 ∷ 0 ∷ 10 ∷ []
unfolding coils_in bits_in packed_in
write_coils_reply_is_spelled = refl

write_registers_is_read : query_in (16 ∷ 0 ∷ 1 ∷ 0 ∷ 2 ∷ 4 ∷ 0 ∷ 10 ∷ 1 ∷ 2 ∷ []) ≡ Ok (WriteRegisters 1 (10 ∷ 258 ∷ []))
unfolding coils_in bits_in packed_in
write_registers_is_read = refl

write_registers_is_spelled : query_bytes (WriteRegisters 1 (10 ∷ 258 ∷ [])) ≡ 16 ∷ 0 ∷ 1 ∷ 0 ∷ 2 ∷ 4 ∷ 0 ∷ 10 ∷ 1 ∷ 2 ∷ []
unfolding coils_in bits_in packed_in
write_registers_is_spelled = refl

write_registers_reply_is_read : answer_in (WriteRegisters 1 (10 ∷ 258 ∷ [])) (16 ∷ 0 ∷ 1 ∷ 0 ∷ 2 ∷ []) ≡ Ok Echo
unfolding coils_in bits_in packed_in
write_registers_reply_is_read = refl

write_registers_reply_is_spelled : answer_bytes (WriteRegisters 1 (10 ∷ 258 ∷ [])) Echo ≡ 16 ∷ 0 ∷ 1 ∷ 0 ∷ 2 ∷ []
unfolding coils_in bits_in packed_in
write_registers_reply_is_spelled = refl

-- The exception response with code 2, illegal data address (Modbus Application Protocol V1.1b3,
-- section 7).
no_such_address : answer_in (ReadCoils 1185 1) (129 ∷ 2 ∷ []) ≡ Ok (Exception 2)
no_such_address = refl
