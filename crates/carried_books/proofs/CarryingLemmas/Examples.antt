-- A worked example of a file rollover, in which a new database file continues the meters. The old
-- file has one device with one accounting register (a named counter). At this register, a second
-- meter replaced a first one.
use Rattle.std.proofs.Common.{◌≡◌, ℕ, pos, List, [], ◌∷◌, map, Option, Some, None, refl}
use Rattle.std.specs.Prelude.{codes}
use Rattle.energy_core.specs.declared.entries.Entry.TheVariants as entry
use Rattle.mb_wire.specs.declared.span.ReadFunction.TheVariants.{InputRegisters}
use Rattle.meter_journal.specs.declared.lines.EntryKind.TheVariants as kind
use Rattle.office_events.specs.declared.commands.Command.TheVariants as command
use Rattle.office_events.specs.declared.commands.GivenScale.TheVariants as given
use Rattle.office_events.specs.declared.facts.Device.{Device}
use Rattle.office_events.specs.declared.facts.Fact.{Fact}
use Rattle.office_events.specs.declared.facts.Fact.TheVariants as fact
use Rattle.office_events.specs.declared.facts.Opening.{Opening}
use Rattle.office_events.specs.declared.facts.Register.{Register}
use Rattle.office_events.specs.declared.facts.ScaleSource.TheVariants as source
use Rattle.carried_books.specs.Carrying.Commands.{commands_for, timed}
use Rattle.carried_books.specs.Carrying.Openings.{opening_until}
use Rattle.carried_books.specs.Carrying.Plans.{devices_of, open_meters}

abbrev roof : List ℕ
roof = codes "roof"

abbrev main : List ℕ
main = codes "main"

abbrev m1 : List ℕ
m1 = codes "m1"

abbrev m2 : List ℕ
m2 = codes "m2"

abbrev device : Device
device = record { name = roof; unit = 17; timeout = 5; window = 2 }

abbrev register : Register
register = record { name = main; device = roof; function = InputRegisters; address = 40; scale = source.Register 42 }

abbrev first : Opening
first = record { meter = m1; register = main; ceiling = 100000; range = 4294967296; at = 1000; raw = 5000; sf = pos 0 }

abbrev second : Opening
second = record { meter = m2; register = main; ceiling = 50000; range = 65536; at = 2000; raw = 7; sf = pos 1 }

-- The records of an example database file with two meters of a register, one after another. The
-- second meter was read at timestamps 2900 and 3000.
abbrev facts : List Fact
facts =
    fact.Entry (record { meter = m2; kind = kind.Reading; entry = entry.Step 3000 60 0 })
    ∷ fact.Entry (record { meter = m2; kind = kind.Reading; entry = entry.Step 2900 50 0 })
    ∷ fact.Opening second
    ∷ fact.Entry (record { meter = m1; kind = kind.Closing; entry = entry.Step 2000 5300 0 })
    ∷ fact.Opening first
    ∷ fact.Register register
    ∷ fact.Device device
    ∷ []

-- The records of an example database file with two meters of a register, after the second meter's
-- reading at timestamp 3000 was voided (cancelled).
abbrev voided : List Fact
voided = fact.Void (record { meter = m2; place = 3; at = 3100 }) ∷ facts

abbrev carried : (at raw : ℕ) → Opening
carried at raw = record { meter = m2; register = main; ceiling = 50000; range = 65536; at = at; raw = raw; sf = pos 1 }

abbrev openings : List Fact → (until : Option ℕ) → List (Option Opening)
openings known until = map (opening_until known until) (open_meters known)

-- In the example of two successive meters of a register, the new database file continues the second
-- meter from this meter's last reading. The first meter is closed, so it does not continue.
at_the_last : openings facts None ≡ Some (carried 3000 60) ∷ []
at_the_last = refl

-- Example: a new database file continues an open meter from its last entry up to a time limit. If a
-- reading has the limit as its timestamp, the file continues the meter from it. With a limit one
-- second earlier, the file continues the meter from the previous reading.
up_to_a_reading : openings facts (Some 3000) ≡ Some (carried 3000 60) ∷ []
up_to_a_reading = refl

before_a_reading : openings facts (Some 2999) ≡ Some (carried 2900 50) ∷ []
before_a_reading = refl

at_the_opening : openings facts (Some 2899) ≡ Some (carried 2000 7) ∷ []
at_the_opening = refl

-- A new database file continues meters from their last entries up to a time limit. If the limit is
-- before a meter's opening (first entry), the file can't continue this meter.
not_yet : openings facts (Some 1999) ≡ None ∷ []
not_yet = refl

-- A new database file does not continue a meter from a voided (cancelled) reading.
past_a_void : openings voided None ≡ Some (carried 2900 50) ∷ []
past_a_void = refl

-- In the example of a file rollover, the commands for the new database file add the device and its
-- accounting register (a named counter). Their timestamp is that of the first meter's opening
-- (first entry). Then they install the meter.
all_commands : commands_for facts (devices_of facts) (carried 3000 60 ∷ [])
    ≡ timed 3000 (command.AddDevice (record { name = Some roof; unit = 17; timeout = 5; window = 2 }))
    ∷ timed 3000
    (command.AddRegister (record { name = Some main; device = Some roof; function = 4; address = 40; scale = given.Register 42 }))
    ∷ timed 3000
    (command.Install (record { register = Some main; meter = Some m2; raw = 60; sf = pos 1; ceiling = 50000; range = 65536 }))
    ∷ []
all_commands = refl
