-- Worked examples of the limits of numbers in commands, each with the last allowed number and the
-- first refused number.
use Rattle.std.proofs.Common.{◌≡◌, ℕ, ℤ, pos, negsuc, true, false, Bool, List, [], Some, replicate, refl}
use Rattle.office_events.specs.declared.commands.Command.TheVariants as command
use Rattle.office_events.specs.declared.commands.GivenScale.{GivenScale}
use Rattle.office_events.specs.declared.commands.GivenScale.TheVariants as given
use Rattle.office_events.specs.declared.facts.Fact.{Fact}
use Rattle.office_events.specs.declared.facts.Fact.TheVariants as fact
use Rattle.office_events.specs.declared.facts.ScaleSource.TheVariants as source
use Rattle.office_events.specs.declared.refusals.Refusal.TheVariants as refusal
use Rattle.mb_wire.specs.declared.span.ReadFunction.TheVariants.{HoldingRegisters}
use Rattle.office_books.specs.Facts.{moment_limit, poll_limit, request_limit}
use Rattle.office_books.specs.Refusals.{asks_bad_field, asks_bad_scale, is_crowded, is_mistimed}
use Rattle.office_books.specs.Sessions.{Slot}
use Rattle.office_books.proofs.RuleExamples.Samples.{inv, main, m1, m2, full_range}

-- Examples of the limits of a new device's Modbus unit, timeout and number of concurrent polls.

abbrev adds : (unit timeout window : ℕ) → Bool
adds unit timeout window =
    asks_bad_field 0 (command.AddDevice (record { name = Some inv; unit = unit; timeout = timeout; window = window }))

units : (adds 0 5 1 ≡ false) × (adds 255 5 1 ≡ false) × (adds 256 5 1 ≡ true)
units = (refl, refl, refl)

timeouts : (adds 1 0 1 ≡ true) × (adds 1 1 1 ≡ false) × (adds 1 60 1 ≡ false) × (adds 1 61 1 ≡ true)
timeouts = (refl, refl, refl, refl)

windows : (adds 1 5 0 ≡ true) × (adds 1 5 1 ≡ false) × (adds 1 5 16 ≡ false) × (adds 1 5 17 ≡ true)
windows = (refl, refl, refl, refl)

-- Examples of the limits of a new accounting register's function code,
-- Modbus address and scale factor.

abbrev registers : (function address : ℕ) → GivenScale → Bool
registers function address scale =
    asks_bad_field 0 (command.AddRegister (record { name = Some main; device = Some inv; function = function; address = address; scale = scale }))

functions : (registers 2 0 (given.Fixed (pos 0)) ≡ true) × (registers 3 0 (given.Fixed (pos 0)) ≡ false)
    × (registers 4 0 (given.Fixed (pos 0)) ≡ false) × (registers 5 0 (given.Fixed (pos 0)) ≡ true)
functions = (refl, refl, refl, refl)

-- A counter occupies two Modbus registers, so 65534 is its last allowed address.
addresses : (registers 3 65534 (given.Fixed (pos 0)) ≡ false) × (registers 3 65535 (given.Fixed (pos 0)) ≡ true)
addresses = (refl, refl)

scale_addresses : (registers 3 65500 (given.Register 65535) ≡ false) × (registers 3 65500 (given.Register 65536) ≡ true)
scale_addresses = (refl, refl)

-- One read must contain the counter and its scale factor, in either order, with at most 125 Modbus
-- registers.
spans : (registers 3 40000 (given.Register 40124) ≡ false) × (registers 3 40000 (given.Register 40125) ≡ true)
    × (registers 3 40123 (given.Register 40000) ≡ false) × (registers 3 40124 (given.Register 40000) ≡ true)
spans = (refl, refl, refl, refl)

abbrev scales : ℤ → Bool
scales sf =
    asks_bad_scale (command.AddRegister (record { name = Some main; device = Some inv; function = 3; address = 0; scale = given.Fixed sf }))

scale_factors : (scales (negsuc 3) ≡ true) × (scales (negsuc 2) ≡ false) × (scales (pos 3) ≡ false) × (scales (pos 4) ≡ true)
scale_factors = (refl, refl, refl, refl)

-- Examples of the limits of a new meter's counter range, counter value and greatest power.

abbrev installs : (range raw ceiling : ℕ) → Bool
installs range raw ceiling =
    asks_bad_field 0 (command.Install (record { register = Some main; meter = Some m1; raw = raw; sf = pos 0; ceiling = ceiling; range = range }))

ranges : (installs 65535 0 1 ≡ true) × (installs 65536 0 1 ≡ false) × (installs 4294967296 0 1 ≡ false)
    × (installs 4294967297 0 1 ≡ true)
ranges = (refl, refl, refl, refl)

-- The counter value of a new meter must be less than its range, the number of values that the
-- counter has.
counters : (installs 65536 65535 1 ≡ false) × (installs 65536 65536 1 ≡ true)
    × (installs full_range 4294967295 1 ≡ false) × (installs full_range 4294967296 1 ≡ true)
counters = (refl, refl, refl, refl)

ceilings : (installs full_range 0 0 ≡ true) × (installs full_range 0 1 ≡ false)
    × (installs full_range 0 1000000000 ≡ false) × (installs full_range 0 1000000001 ≡ true)
ceilings = (refl, refl, refl, refl)

abbrev closes : (rolls : ℕ) → Bool
closes rolls = asks_bad_field 0 (command.Close (record { register = Some main; raw = 0; rolls = rolls }))

turns : (closes 255 ≡ false) × (closes 256 ≡ true)
turns = (refl, refl)

-- Examples of the maximum numbers of devices, accounting registers (named energy counters) and
-- meters.

abbrev adds_after : (devices : List Slot) → Bool
adds_after devices = is_crowded devices [] (command.AddDevice (record { name = Some inv; unit = 1; timeout = 5; window = 1 }))

devices : (slot : Slot) → (adds_after (replicate 63 slot) ≡ false) × (adds_after (replicate 64 slot) ≡ true)
devices slot = (refl, refl)

abbrev recorded : Fact
recorded = fact.Register (record { name = main; device = inv; function = HoldingRegisters; address = 40094; scale = source.Fixed (pos 0) })

abbrev registers_after : (count : ℕ) → Bool
registers_after count =
    is_crowded [] (replicate count recorded) (command.AddRegister (record { name = Some main; device = Some inv; function = 3; address = 0; scale = given.Fixed (pos 0) }))

registers_of_a_device : (registers_after 31 ≡ false) × (registers_after 32 ≡ true)
registers_of_a_device = (refl, refl)

abbrev opened : Fact
opened = fact.Opening (record { meter = m2; register = main; at = 0; raw = 0; sf = pos 0; ceiling = 1; range = full_range })

abbrev installs_after : (count : ℕ) → Bool
installs_after count =
    is_crowded [] (replicate count opened) (command.Install (record { register = Some main; meter = Some m1; raw = 0; sf = pos 0; ceiling = 1; range = full_range }))

installations : (installs_after 4095 ≡ false) × (installs_after 4096 ≡ true)
installations = (refl, refl)

-- Examples of the greatest timestamp, the greatest poll number, and the greatest number in an
-- idempotency key (the name of a caller and a number).

-- The greatest timestamp is the first second of 2100.
last_moment : moment_limit ≡ 4102444800
last_moment = refl

moments : (is_mistimed 1000 999 refusal.ClockBack ≡ true) × (is_mistimed 1000 1000 refusal.ClockBack ≡ false)
    × (is_mistimed 0 4102444800 refusal.Limit ≡ false) × (is_mistimed 0 4102444801 refusal.Limit ≡ true)
moments = (refl, refl, refl, refl)

last_poll : poll_limit ≡ 4611686018427387904
last_poll = refl

last_request : request_limit ≡ 9223372036854775807
last_request = refl
