-- Checks the definitions of a simulated Modbus device by examples: example frames, each limit, and
-- the requests and responses printed in the Modbus standard.
use Rattle.std.proofs.Common.{◌≡◌, List, ℕ, [], ◌∷◌, ◌++◌, Option, Some, None, true, false, replicate, refl}
use Rattle.mb_wire.specs.Frames.{frames, frames_in}
use Rattle.mb_wire.specs.Coils.{bits_in, coils_in, packed_in}
use Rattle.mb_device.specs.Areas.{is_out_of_range}
use Rattle.mb_device.specs.Device.{answer_to, maps_after}
use Rattle.mb_device.specs.Maps.{Maps, value_in, values_at}
use Rattle.mb_device.specs.Tricks.{Course, begun, carried_out, course_next, sent_next, trick_at}
use Rattle.mb_device.specs.Server.{answer_to_frame, maps_after_all, own_frames, sent_to}
use Rattle.mb_device.specs.declared.kinds.Kind.TheVariants.{Holding}
use Rattle.mb_device.specs.declared.trick.Trick.{Trick}
use Rattle.mb_device.specs.declared.trick.Trick.TheVariants as play

-- A register map whose holding register 0 has the value 9.
maps : Maps
maps = record { coils = []; discretes = []; holdings = Some 9 ∷ []; inputs = [] }

abbrev read : List ℕ
read = 0 ∷ 7 ∷ 0 ∷ 0 ∷ 0 ∷ 6 ∷ 1 ∷ 3 ∷ 0 ∷ 0 ∷ 0 ∷ 1 ∷ []

abbrev nine : List ℕ
nine = 0 ∷ 7 ∷ 0 ∷ 0 ∷ 0 ∷ 5 ∷ 1 ∷ 3 ∷ 2 ∷ 0 ∷ 9 ∷ []

a_read_is_answered : sent_to (begun []) maps (own_frames read) ≡ nine
unfolding maps answer_to_frame sent_next course_next trick_at frames frames_in
a_read_is_answered = refl

-- Three frames: one of another protocol, a write of 5 to holding register 0, and a read of that
-- register.
abbrev foreign : List ℕ
foreign = 0 ∷ 1 ∷ 0 ∷ 9 ∷ 0 ∷ 3 ∷ 1 ∷ 3 ∷ 0 ∷ []

abbrev write : List ℕ
write = 0 ∷ 2 ∷ 0 ∷ 0 ∷ 0 ∷ 6 ∷ 2 ∷ 6 ∷ 0 ∷ 0 ∷ 0 ∷ 5 ∷ []

abbrev five : List ℕ
five = 0 ∷ 7 ∷ 0 ∷ 0 ∷ 0 ∷ 5 ∷ 1 ∷ 3 ∷ 2 ∷ 0 ∷ 5 ∷ []

abbrev all : List ℕ
all = foreign ++ write ++ read

a_write_comes_before_a_read : sent_to (begun []) maps (own_frames all) ≡ write ++ five
unfolding maps answer_to_frame sent_next course_next trick_at frames frames_in
a_write_comes_before_a_read = refl

a_write_is_kept : value_in (maps_after_all maps (own_frames all)).holdings 0 ≡ Some 5
unfolding maps frames frames_in
a_write_is_kept = refl

-- Examples of injected faults: the bytes that a simulated device sends when a client writes a
-- register and reads it.

abbrev on_first : Trick → Course
on_first trick = begun ((1, trick) ∷ [])

-- A simulated device executes a write even if an injected fault drops the response.
a_dropped_answer : sent_to (on_first play.Drop) maps (own_frames all) ≡ five
unfolding maps answer_to_frame sent_next course_next trick_at frames frames_in
a_dropped_answer = refl

a_later_answer : sent_to (on_first play.Later) maps (own_frames all) ≡ five ++ write
unfolding maps answer_to_frame sent_next course_next trick_at frames frames_in
a_later_answer = refl

-- If injected faults delay two responses in a row, the first response is sent when the second is
-- delayed.
two_later_answers : sent_to (begun ((2, play.Later) ∷ (1, play.Later) ∷ [])) maps (own_frames all) ≡ write
unfolding maps answer_to_frame sent_next course_next trick_at frames frames_in
two_later_answers = refl

-- A simulated device executes no frame after an injected fault closed its connection.
a_cut_answer : sent_to (on_first (play.Cut 4)) maps (own_frames (read ++ write)) ≡ 0 ∷ 7 ∷ 0 ∷ 0 ∷ []
unfolding maps answer_to_frame sent_next course_next trick_at frames frames_in
a_cut_answer = refl

a_cut_connection : carried_out (on_first (play.Cut 4)) (own_frames (read ++ write)) ≡ read ∷ []
unfolding trick_at frames frames_in
a_cut_connection = refl

-- If two injected faults have the same frame number, the first of them in the list of faults
-- applies.
the_first_trick : sent_to (begun ((1, play.Unit) ∷ (1, play.Drop) ∷ [])) maps (own_frames read) ≡ 0 ∷ 7 ∷ 0 ∷ 0 ∷ 0 ∷ 5 ∷ 2 ∷ 3 ∷ 2 ∷ 0 ∷ 9 ∷ []
unfolding maps answer_to_frame sent_next course_next trick_at frames frames_in
the_first_trick = refl

-- The injected fault `Id` changes the transaction identifier 65535 to 0 (one too high, modulo
-- 65536). The fault `Unit` changes the unit identifier 255 to 0.
the_last_id : sent_to (on_first play.Id) maps (own_frames (255 ∷ 255 ∷ 0 ∷ 0 ∷ 0 ∷ 6 ∷ 1 ∷ 3 ∷ 0 ∷ 0 ∷ 0 ∷ 1 ∷ [])) ≡ 0 ∷ 0 ∷ 0 ∷ 0 ∷ 0 ∷ 5 ∷ 1 ∷ 3 ∷ 2 ∷ 0 ∷ 9 ∷ []
unfolding maps answer_to_frame sent_next course_next trick_at frames frames_in
the_last_id = refl

the_last_unit : sent_to (on_first play.Unit) maps (own_frames (0 ∷ 7 ∷ 0 ∷ 0 ∷ 0 ∷ 6 ∷ 255 ∷ 3 ∷ 0 ∷ 0 ∷ 0 ∷ 1 ∷ [])) ≡ 0 ∷ 7 ∷ 0 ∷ 0 ∷ 0 ∷ 5 ∷ 0 ∷ 3 ∷ 2 ∷ 0 ∷ 9 ∷ []
unfolding maps answer_to_frame sent_next course_next trick_at frames frames_in
the_last_unit = refl

-- Examples of limits: a device without addresses responds to a valid quantity with exception 2, and
-- to an invalid quantity with exception 3.

abbrev nothing : Maps
nothing = record { coils = []; discretes = []; holdings = []; inputs = [] }

reads_2000_coils : answer_to nothing (1 ∷ 0 ∷ 0 ∷ 7 ∷ 208 ∷ []) ≡ 129 ∷ 2 ∷ []
reads_2000_coils = refl

reads_2001_coils : answer_to nothing (1 ∷ 0 ∷ 0 ∷ 7 ∷ 209 ∷ []) ≡ 129 ∷ 3 ∷ []
reads_2001_coils = refl

reads_2000_discretes : answer_to nothing (2 ∷ 0 ∷ 0 ∷ 7 ∷ 208 ∷ []) ≡ 130 ∷ 2 ∷ []
reads_2000_discretes = refl

reads_2001_discretes : answer_to nothing (2 ∷ 0 ∷ 0 ∷ 7 ∷ 209 ∷ []) ≡ 130 ∷ 3 ∷ []
reads_2001_discretes = refl

reads_125_holdings : answer_to nothing (3 ∷ 0 ∷ 0 ∷ 0 ∷ 125 ∷ []) ≡ 131 ∷ 2 ∷ []
reads_125_holdings = refl

reads_126_holdings : answer_to nothing (3 ∷ 0 ∷ 0 ∷ 0 ∷ 126 ∷ []) ≡ 131 ∷ 3 ∷ []
reads_126_holdings = refl

reads_125_inputs : answer_to nothing (4 ∷ 0 ∷ 0 ∷ 0 ∷ 125 ∷ []) ≡ 132 ∷ 2 ∷ []
reads_125_inputs = refl

reads_126_inputs : answer_to nothing (4 ∷ 0 ∷ 0 ∷ 0 ∷ 126 ∷ []) ≡ 132 ∷ 3 ∷ []
reads_126_inputs = refl

writes_1968_coils : answer_to nothing (15 ∷ 0 ∷ 0 ∷ 7 ∷ 176 ∷ 246 ∷ replicate 246 0) ≡ 143 ∷ 2 ∷ []
unfolding coils_in bits_in
writes_1968_coils = refl

writes_1969_coils : answer_to nothing (15 ∷ 0 ∷ 0 ∷ 7 ∷ 177 ∷ 247 ∷ replicate 247 0) ≡ 143 ∷ 3 ∷ []
unfolding coils_in bits_in
writes_1969_coils = refl

writes_123_registers : answer_to nothing (16 ∷ 0 ∷ 0 ∷ 0 ∷ 123 ∷ 246 ∷ replicate 246 0) ≡ 144 ∷ 2 ∷ []
writes_123_registers = refl

writes_124_registers : answer_to nothing (16 ∷ 0 ∷ 0 ∷ 0 ∷ 124 ∷ 248 ∷ replicate 248 0) ≡ 144 ∷ 3 ∷ []
writes_124_registers = refl

-- A range of addresses may end at address 65535. A range that ends after this address is rejected.
the_last_address : is_out_of_range (record { kind = Holding; start = 65535; count = 1 }) ≡ false
the_last_address = refl

past_the_last_address : is_out_of_range (record { kind = Holding; start = 65535; count = 2 }) ≡ true
past_the_last_address = refl

all_addresses : is_out_of_range (record { kind = Holding; start = 0; count = 65536 }) ≡ false
all_addresses = refl

one_more_address : is_out_of_range (record { kind = Holding; start = 0; count = 65537 }) ≡ true
one_more_address = refl

-- The examples in the Modbus standard (Modbus Application Protocol V1.1b3, section 6), with a
-- device that has the values that these requests read.

abbrev sample : Maps
sample = record {
  coils = replicate 19 None ++ (Some 1 ∷ Some 0 ∷ Some 1 ∷ Some 1 ∷ Some 0 ∷ Some 0 ∷ Some 1 ∷ Some 1 ∷ Some 1 ∷ Some 1 ∷ Some 0 ∷ Some 1 ∷ Some 0 ∷ Some 1 ∷ Some 1 ∷ Some 0 ∷ Some 1 ∷ Some 0 ∷ Some 1 ∷ []);
  discretes = replicate 196 None ++ (Some 0 ∷ Some 0 ∷ Some 1 ∷ Some 1 ∷ Some 0 ∷ Some 1 ∷ Some 0 ∷ Some 1 ∷ Some 1 ∷ Some 1 ∷ Some 0 ∷ Some 1 ∷ Some 1 ∷ Some 0 ∷ Some 1 ∷ Some 1 ∷ Some 1 ∷ Some 0 ∷ Some 1 ∷ Some 0 ∷ Some 1 ∷ Some 1 ∷ []);
  holdings = replicate 107 None ++ (Some 555 ∷ Some 0 ∷ Some 100 ∷ []);
  inputs = replicate 8 None ++ (Some 10 ∷ []);
}

-- The simulated device for the Modbus standard's examples of writes, which has coil 172 and
-- registers 1 and 2.
abbrev writable : Maps
writable = record { coils = replicate 172 None ++ (Some 0 ∷ []); discretes = []; holdings = None ∷ Some 0 ∷ Some 0 ∷ []; inputs = [] }

reads_coils : answer_to sample (1 ∷ 0 ∷ 19 ∷ 0 ∷ 19 ∷ []) ≡ 1 ∷ 3 ∷ 205 ∷ 107 ∷ 5 ∷ []
unfolding coils_in bits_in packed_in
reads_coils = refl

reads_discretes : answer_to sample (2 ∷ 0 ∷ 196 ∷ 0 ∷ 22 ∷ []) ≡ 2 ∷ 3 ∷ 172 ∷ 219 ∷ 53 ∷ []
unfolding coils_in bits_in packed_in
reads_discretes = refl

reads_holdings : answer_to sample (3 ∷ 0 ∷ 107 ∷ 0 ∷ 3 ∷ []) ≡ 3 ∷ 6 ∷ 2 ∷ 43 ∷ 0 ∷ 0 ∷ 0 ∷ 100 ∷ []
unfolding coils_in bits_in packed_in
reads_holdings = refl

reads_inputs : answer_to sample (4 ∷ 0 ∷ 8 ∷ 0 ∷ 1 ∷ []) ≡ 4 ∷ 2 ∷ 0 ∷ 10 ∷ []
unfolding coils_in bits_in packed_in
reads_inputs = refl

writes_a_coil : answer_to writable (5 ∷ 0 ∷ 172 ∷ 255 ∷ 0 ∷ []) ≡ 5 ∷ 0 ∷ 172 ∷ 255 ∷ 0 ∷ []
unfolding coils_in bits_in packed_in
writes_a_coil = refl

a_coil_is_written : values_at (maps_after writable (5 ∷ 0 ∷ 172 ∷ 255 ∷ 0 ∷ [])).coils 172 1 ≡ Some 1 ∷ []
unfolding coils_in bits_in packed_in
a_coil_is_written = refl

writes_a_register : answer_to writable (6 ∷ 0 ∷ 1 ∷ 0 ∷ 3 ∷ []) ≡ 6 ∷ 0 ∷ 1 ∷ 0 ∷ 3 ∷ []
unfolding coils_in bits_in packed_in
writes_a_register = refl

a_register_is_written : values_at (maps_after writable (6 ∷ 0 ∷ 1 ∷ 0 ∷ 3 ∷ [])).holdings 1 1 ≡ Some 3 ∷ []
unfolding coils_in bits_in packed_in
a_register_is_written = refl

writes_coils : answer_to sample (15 ∷ 0 ∷ 19 ∷ 0 ∷ 10 ∷ 2 ∷ 205 ∷ 1 ∷ []) ≡ 15 ∷ 0 ∷ 19 ∷ 0 ∷ 10 ∷ []
unfolding coils_in bits_in packed_in
writes_coils = refl

coils_are_written : values_at (maps_after sample (15 ∷ 0 ∷ 19 ∷ 0 ∷ 10 ∷ 2 ∷ 205 ∷ 1 ∷ [])).coils 19 10 ≡ Some 1 ∷ Some 0 ∷ Some 1 ∷ Some 1 ∷ Some 0 ∷ Some 0 ∷ Some 1 ∷ Some 1 ∷ Some 1 ∷ Some 0 ∷ []
unfolding coils_in bits_in packed_in
coils_are_written = refl

writes_registers : answer_to writable (16 ∷ 0 ∷ 1 ∷ 0 ∷ 2 ∷ 4 ∷ 0 ∷ 10 ∷ 1 ∷ 2 ∷ []) ≡ 16 ∷ 0 ∷ 1 ∷ 0 ∷ 2 ∷ []
unfolding coils_in bits_in packed_in
writes_registers = refl

registers_are_written : values_at (maps_after writable (16 ∷ 0 ∷ 1 ∷ 0 ∷ 2 ∷ 4 ∷ 0 ∷ 10 ∷ 1 ∷ 2 ∷ [])).holdings 1 2 ≡ Some 10 ∷ Some 258 ∷ []
unfolding coils_in bits_in packed_in
registers_are_written = refl
