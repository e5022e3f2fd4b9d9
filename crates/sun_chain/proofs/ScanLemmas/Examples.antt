-- Examples of scans for SunSpec models, with addresses, numbers of models and lengths at each limit
-- and just past it.
use Rattle.std.specs.Prelude.{pos, negsuc}
use Rattle.std.proofs.Common.{◌≡◌, ℕ, ◌+◌, ◌==◌, ◌||◌, ◌&&◌, nat_le, nat_lt, Bool, true, false, if◌then◌else◌, List, [], ◌∷◌, length, Some, None, refl}
use Rattle.sun_chain.specs.Image.{Words}
use Rattle.sun_chain.specs.Tables.{common_table, inverter_table, meter_table, table_of}
use Rattle.mb_wire.specs.declared.span.ReadFunction.TheVariants.{HoldingRegisters, InputRegisters}
use Rattle.sun_chain.specs.Scanning.Answers.{Ask, settled}
use Rattle.sun_chain.specs.Scanning.Counters.{counter_span, shown_by, decode_counter, reported}
use Rattle.sun_chain.specs.Scanning.Scans.{nothing}
use Rattle.sun_chain.specs.Scanning.Stages.{begun, holding, is_known, model_at, stage_after, wanted}
use Rattle.sun_chain.specs.declared.scans.counter.CounterScale.TheVariants.{Fixed, Register}
use Rattle.sun_chain.specs.declared.scans.stage.Stage.TheVariants.{Mark, Head, Ending, Registers, Over}

-- A memory image (the words read from a device) with two words at consecutive addresses.
abbrev two : (address first second : ℕ) → Words
two address first second at = if at == address then Some first else if at == address + 1 then Some second else None

-- Examples of what a scan reads next (its stage) after a read of the `SunS` mark.

first_read : wanted begun ≡ Some (holding 40000 2)
first_read = refl

second_mark : stage_after nothing (Mark 40000) ≡ Mark 50000
second_mark = refl

third_mark : stage_after nothing (Mark 50000) ≡ Mark 0
third_mark = refl

no_mark : stage_after nothing (Mark 0) ≡ Over
no_mark = refl

marked : stage_after (two 50000 0x5375 0x6E53) (Mark 50000) ≡ Head 50002 0
marked = refl

-- Examples of what a scan (the search for a device's SunSpec models) reads next, after a read of a
-- model's head (ID and length).

unknown_between : stage_after (two 10 9 4) (Head 10 3) ≡ Head 16 4
unknown_between = refl

end_found : stage_after (two 10 0xFFFF 0) (Head 10 5) ≡ Over
end_found = refl

sixty_fourth : stage_after (two 10 9 0) (Head 10 63) ≡ Head 12 64
sixty_fourth = refl

sixty_fifth : stage_after (two 10 9 0) (Head 10 64) ≡ Over
sixty_fifth = refl

up_to_the_last : stage_after (two 65530 9 3) (Head 65530 0) ≡ Head 65535 1
up_to_the_last = refl

after_the_last : stage_after (two 65530 9 4) (Head 65530 0) ≡ Over
after_the_last = refl

past_the_last : stage_after (two 65530 1 5) (Head 65530 0) ≡ Over
past_the_last = refl

two_registers : wanted (Head 65534 1) ≡ Some (holding 65534 2)
two_registers = refl

one_register : wanted (Head 65535 1) ≡ Some (holding 65535 1)
one_register = refl

ending : stage_after nothing (Head 65534 1) ≡ Ending 65534
ending = refl

no_ending : stage_after nothing (Head 65535 1) ≡ Over
no_ending = refl

-- Examples of the Modbus reads of a SunSpec model's registers in a scan.

in_a_model : stage_after (two 10 1 126) (Head 10 0) ≡ Registers (model_at 10 1 126) 0 1
in_a_model = refl

first_125 : wanted (Registers (model_at 10 1 126) 0 1) ≡ Some (holding 12 125)
first_125 = refl

one_more : stage_after nothing (Registers (model_at 10 1 126) 0 1) ≡ Registers (model_at 10 1 126) 125 1
one_more = refl

last_one : wanted (Registers (model_at 10 1 126) 125 1) ≡ Some (holding 137 1)
last_one = refl

after_126 : stage_after nothing (Registers (model_at 10 1 126) 125 1) ≡ Head 138 1
after_126 = refl

after_125 : stage_after nothing (Registers (model_at 10 1 125) 0 1) ≡ Head 137 1
after_125 = refl

empty_model : stage_after (two 10 1 0) (Head 10 0) ≡ Head 12 1
empty_model = refl

-- The models whose points a scan knows are those whose tables have points.
known_has_points : (id : ℕ) → is_known id ≡ nat_lt 0 (length (table_of id))
known_has_points id = tests (id == 1) (nat_le 101 id && nat_le id 103) (nat_le 201 id && nat_le id 204)
  where
    tests : (common inverter meter : Bool) → (common || inverter || meter) ≡ nat_lt 0 (length (if common then common_table else if inverter then inverter_table else if meter then meter_table else []))
    tests true true true = refl
    tests true true false = refl
    tests true false true = refl
    tests true false false = refl
    tests false true true = refl
    tests false true false = refl
    tests false false true = refl
    tests false false false = refl

-- Examples of the results of responses to a read of register 0 of unit 1 with transaction
-- identifier 7.

abbrev one_read : Ask
one_read = record { id = 7; unit = 1; span = holding 0 1 }

abbrev reply : (id unit : ℕ) → List ℕ
reply id unit = 0 ∷ id ∷ 0 ∷ 0 ∷ 0 ∷ 5 ∷ unit ∷ 3 ∷ 2 ∷ 1 ∷ 9 ∷ []

answered : settled one_read (reply 7 1 ∷ []) ≡ Some (Some (265 ∷ []))
answered = refl

another_id : settled one_read (reply 6 1 ∷ []) ≡ None
another_id = refl

after_another : settled one_read (reply 6 1 ∷ reply 7 1 ∷ []) ≡ Some (Some (265 ∷ []))
after_another = refl

another_unit : settled one_read (reply 7 2 ∷ reply 7 1 ∷ []) ≡ Some None
another_unit = refl

excepted : settled one_read ((0 ∷ 7 ∷ 0 ∷ 0 ∷ 0 ∷ 3 ∷ 1 ∷ 131 ∷ 1 ∷ []) ∷ []) ≡ Some None
excepted = refl

-- Examples of the registers that one request must read to get a counter and its scale factor.

two_alone : counter_span HoldingRegisters 40000 (Fixed (pos 0)) ≡ Some (holding 40000 2)
two_alone = refl

by_function_4 : counter_span InputRegisters 10 (Fixed (pos 0)) ≡ Some (record { function = InputRegisters; address = 10; count = 2 })
by_function_4 = refl

scale_following : counter_span HoldingRegisters 10 (Register 14) ≡ Some (holding 10 5)
scale_following = refl

scale_before : counter_span HoldingRegisters 10 (Register 4) ≡ Some (holding 4 8)
scale_before = refl

scale_within : counter_span HoldingRegisters 10 (Register 11) ≡ Some (holding 10 2)
scale_within = refl

span_of_125 : counter_span HoldingRegisters 10 (Register 134) ≡ Some (holding 10 125)
span_of_125 = refl

span_of_126 : counter_span HoldingRegisters 10 (Register 135) ≡ None
span_of_126 = refl

last_two : counter_span HoldingRegisters 65534 (Fixed (pos 0)) ≡ Some (holding 65534 2)
last_two = refl

half_a_counter : counter_span HoldingRegisters 65535 (Fixed (pos 0)) ≡ None
half_a_counter = refl

-- Examples of a counter's count and power of ten, decoded from the words of Modbus registers.

high_word_first : decode_counter 10 (1 ∷ 2 ∷ []) 10 (Fixed (pos 0)) ≡ Some (record { raw = 65538; sf = pos 0 })
high_word_first = refl

scale_is_read : decode_counter 10 (1 ∷ 2 ∷ 0xFFFE ∷ []) 10 (Register 12) ≡ Some (record { raw = 65538; sf = negsuc 1 })
scale_is_read = refl

scale_stands_before : decode_counter 9 (3 ∷ 0 ∷ 7 ∷ []) 10 (Register 9) ≡ Some (record { raw = 7; sf = pos 3 })
scale_stands_before = refl

least_scale : reported 0xFFFD ≡ Some (negsuc 2)
least_scale = refl

below_the_least : reported 0xFFFC ≡ None
below_the_least = refl

above_the_greatest : reported 4 ≡ None
above_the_greatest = refl

not_implemented : reported 0x8000 ≡ None
not_implemented = refl

four_by_hand : decode_counter 10 (1 ∷ 2 ∷ []) 10 (Fixed (pos 4)) ≡ None
four_by_hand = refl

no_words : shown_by 10 None 10 (Fixed (pos 0)) ≡ None
no_words = refl
