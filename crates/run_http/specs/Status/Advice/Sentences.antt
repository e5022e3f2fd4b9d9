-- The messages for operators. Each definition appends a message, or a part of a message, to a text.
use Rattle.std.specs.Prelude.{◌≡◌, ℕ, ◌+◌, min, max, List, ◌++◌, Option, Some, None, codes, decimal, Result, OnOk}
use Rattle.std.specs.Borrow.{Bor}
use Rattle.energy_core.specs.Verdict.{cause_number}
use Rattle.energy_core.specs.declared.verdicts.Cause.{Cause}
use Rattle.mb_wire.specs.Spans.{code_of}
use Rattle.office_events.specs.Numbers.{refusal_number}
use Rattle.office_events.specs.declared.commands.Command.TheVariants as command
use Rattle.office_events.specs.declared.events.Event.{Event}
use Rattle.office_events.specs.declared.events.Event.TheVariants as event
use Rattle.office_events.specs.declared.facts.Register.{Register}
use Rattle.office_events.specs.declared.facts.ScaleSource.{ScaleSource}
use Rattle.office_events.specs.declared.facts.ScaleSource.TheVariants as source
use Rattle.office_events.specs.declared.refusals.Refusal.{Refusal}
use Rattle.office_events.specs.declared.refusals.Refusal.TheVariants as refusal
use Rattle.printed_numbers.specs.Numbers.{IsMeaningOf}
use Rattle.printed_numbers.specs.declared.kind.Kind.{Kind}
use Rattle.printed_numbers.specs.declared.kind.Kind.TheVariants as kind
use Rattle.printed_numbers.specs.declared.meaning.Meaning.{Meaning}
use Rattle.run_http.specs.declared.status.advice.lacks.DeviceLack.{DeviceLack}
use Rattle.run_http.specs.declared.status.advice.lacks.Lack.{Lack}
use Rattle.run_http.specs.declared.status.advice.lacks.Lack.TheVariants.{NoDevice, NoList, NoRegister, NotInList, NoMeter}

-- The name of the device, or `-` if the message for operators concerns no single device.
abbrev pub name_of : Option (List ℕ) → List ℕ
name_of (Some name) = name
name_of None = codes "-"

-- The beginning of a message for operators, with the device that it concerns.
abbrev pub with_subject : (device : Option (List ℕ)) → List ℕ → List ℕ
with_subject device text = text ++ codes "sunreg: " ++ name_of device

-- The first Modbus address that a reading needs, from the address of the counter and the source of
-- the scale. The counter occupies two Modbus registers.
abbrev pub first_by : (counter : ℕ) → ScaleSource → ℕ
first_by counter (source.Fixed sf) = counter
first_by counter (source.Register address) = min counter address

-- The last Modbus address that a reading needs, from the address of the counter and the source of
-- the scale. The counter occupies two Modbus registers.
abbrev pub last_by : (counter : ℕ) → ScaleSource → ℕ
last_by counter (source.Fixed sf) = counter + 1
last_by counter (source.Register address) = max (counter + 1) address

-- The first Modbus address that a reading of the accounting register (a named energy counter)
-- needs.
abbrev pub first_needed : Register → ℕ
first_needed register = first_by register.address register.scale

-- The last Modbus address that a reading of the accounting register (a named energy counter) needs.
abbrev pub last_needed : Register → ℕ
last_needed register = last_by register.address register.scale

-- The part of a message for operators that names the device whose point list does not cover an
-- accounting register (a named energy counter).
abbrev pub with_list_of : (device : Option (List ℕ)) → List ℕ → List ℕ
with_list_of device text = text ++ codes ": missing from the point list of " ++ name_of device

-- The message for operators that no read of the point list covers the accounting register (a named
-- energy counter), with the Modbus addresses to add.
abbrev pub with_unread : (device : Option (List ℕ)) → Register → List ℕ → List ℕ
with_unread device register text =
    with_list_of device (text ++ codes "sunreg: register " ++ register.name)
    ++ codes "; add function " ++ decimal (code_of register.function) ++ codes ", registers "
    ++ decimal (first_needed register)
    ++ codes " to " ++ decimal (last_needed register) ++ codes " to it\n"

-- The message for operators that the accounting register (a named energy counter) has no open
-- meter.
abbrev pub with_unmetered : Register → List ℕ → List ℕ
with_unmetered register text =
    text ++ codes "sunreg: register " ++ register.name
    ++ codes ": no open meter; install one with POST /registers/" ++ register.name
    ++ codes "/install\n"

-- The message for operators that the device has no point list yet.
abbrev pub with_unlisted : (device : Option (List ℕ)) → List ℕ → List ℕ
with_unlisted device text =
    with_subject device text
    ++ codes ": no point list; create one with sunreg scan --list, then POST /devices/"
    ++ name_of device ++ codes "/list\n"

-- The message for operators that says what is missing in the store for a device, and what to do.
abbrev pub with_lack_of : (device : Option (List ℕ)) → Lack → List ℕ → List ℕ
with_lack_of device NoDevice text =
    with_subject device text
    ++ codes ": the office has no device with this name; add it with POST /devices\n"
with_lack_of device NoList text = with_unlisted device text
with_lack_of device NoRegister text =
    with_subject device text
    ++ codes ": no register, so its energy is not recorded; add one with POST /registers\n"
with_lack_of device (NotInList register) text = with_unread device register text
with_lack_of device (NoMeter register) text = with_unmetered register text

-- The message for a device and one thing that is missing for the device in the store, such as a
-- point list.
abbrev pub with_lack : DeviceLack → List ℕ → List ℕ
with_lack lack text = with_lack_of lack.device lack.lack text

-- The message with three parts appended: the text `before`, the meaning of an error number, and
-- what the operator can do.
abbrev pub with_meaning : (before : List ℕ) → Meaning → List ℕ → List ℕ
with_meaning before meaning text =
    text ++ before ++ meaning.means.now ++ codes "; " ++ meaning.remedy.now ++ codes "\n"

-- What is missing for a device if the program refused the device's event with "not found". For a
-- connection, the store does not have the device. For the start of a polling round, the device has
-- no point list.
abbrev pub lack_at : Event → Option Lack
lack_at (event.Connected given) = Some NoDevice
lack_at (event.Command (command.StartRound start)) = Some NoList
lack_at _ = None

-- What is missing for the device, if that is why the program refused the device's event. None if a
-- message for operators should explain the refusal's number instead.
abbrev pub lack_by : Event → Refusal → Option Lack
lack_by e refusal.NotFound = lack_at e
lack_by e _ = None

-- States that three parts were appended to the message: the text `before`, the meaning of the error
-- number, and what the operator can do.
abbrev pub MeansAfter : Kind → (number : ℕ) → (before old new : List ℕ) → Type 0
MeansAfter k number before old new =
    (meaning : Bor Meaning) × IsMeaningOf k number meaning
    × (new ≡ with_meaning before meaning.now old)

-- States that a message for operators was appended to the text. The message says what is missing
-- for the device, or explains the refusal's number if nothing is missing.
abbrev pub RefusalAfter : Option Lack → (device : Option (List ℕ)) → Refusal
    → (old new : List ℕ) → Type 0
RefusalAfter (Some lack) device why old new = new ≡ with_lack_of device lack old
RefusalAfter None device why old new =
    MeansAfter kind.Refused (refusal_number why) (codes ": ") (with_subject device old) new

-- States that, on success, a message for operators was appended to the text. If the event was
-- refused because something is missing for the device, the message says what. Otherwise it explains
-- the refusal's number.
abbrev pub PutsRefusal : {E : Type 0} → (device : Option (List ℕ)) → Event → Refusal
    → (old new : List ℕ) → Result (Unit {0}) E → Type 0
PutsRefusal device e why old new result =
    OnOk result (RefusalAfter (lack_by e why) device why old new)

-- States that, on success, a message for operators was appended to the text. The message says why
-- the meter's reading was rejected, and what to do.
abbrev pub PutsHeld : {E : Type 0} → (meter : List ℕ) → Cause → (old new : List ℕ)
    → Result (Unit {0}) E → Type 0
PutsHeld meter cause old new result =
    OnOk result
    (MeansAfter kind.Held (cause_number cause) (codes ": reading rejected: ")
    (with_subject (Some meter) old) new)
