-- Finds what is missing in the store for a polled device: the device, its point list (the registers
-- to poll), an accounting register (a named energy counter), or an open meter. The program records
-- the energy of the device only if nothing is missing.
use Rattle.std.specs.Prelude.{◌≡◌, ℕ, Bool, true, false, not, if◌then◌else◌, List, [], ◌∷◌, ◌++◌, length, ◌==◌, reverse, Option, Some, None, is_none, is_some, Result, OnOk}
use Rattle.std.specs.Option.{option_and_then}
use Rattle.std.specs.List.{flat_map, list_any}
use Rattle.read_plan.specs.PlannedLists.{Planned}
use Rattle.read_plan.specs.declared.planned_reads.PlannedRead.{PlannedRead}
use Rattle.office_events.specs.declared.facts.Device.{Device}
use Rattle.office_events.specs.declared.facts.Fact.{Fact}
use Rattle.office_events.specs.declared.facts.Register.{Register}
use Rattle.office_events.specs.declared.questions.Installation.{Installation}
use Rattle.office_books.specs.Facts.{devices_in, list_of, registers_of, same}
use Rattle.office_books.specs.Meters.{if_open, open_at}
use Rattle.office_books.specs.Readings.{is_read_by}
use Rattle.office_books.specs.Ledgers.{KeepsFacts, Ledger}
use Rattle.run_http.specs.declared.status.advice.lacks.Lack.{Lack}
use Rattle.run_http.specs.declared.status.advice.lacks.Lack.TheVariants.{NoDevice, NoList, NoRegister, NotInList, NoMeter}
use Rattle.run_http.specs.declared.status.advice.lacks.DeviceLack.{DeviceLack}

-- A device, and one thing (such as an open meter) that the store must still get before the program
-- records the device's energy.
abbrev pub lack_of : (device : Option (List ℕ)) → Lack → DeviceLack
lack_of device lack = record { device = device; lack = lack }

-- A list with the device and the missing thing `lack` (such as an open meter) if `lacking` is true,
-- otherwise an empty list.
abbrev pub lacks_if : (lacking : Bool) → (device : List ℕ) → Lack → List DeviceLack
lacks_if true device lack = lack_of (Some device) lack ∷ []
lacks_if false device lack = []

-- True if one of the planned Modbus reads covers both the counter and the scale factor of the
-- accounting register (a named energy counter).
abbrev pub is_read : List PlannedRead → Register → Bool
is_read reads register = list_any (λ read. is_read_by read.span register) reads

-- True if one of the Modbus reads that the device's point list defines covers the counter and the
-- scale factor of the accounting register (a named energy counter). Also true without a point list,
-- because the program then reports the missing list.
abbrev pub is_in_list : Option Planned → Register → Bool
is_in_list None register = true
is_in_list (Some list) register = is_read list.reads register

-- True if there is a meter (`Some`) and it is open.
abbrev pub is_open : Option Installation → Bool
is_open row = is_some (option_and_then if_open row)

-- True if the accounting register (a named energy counter) has an open meter.
abbrev pub has_meter : List Fact → Register → Bool
has_meter known register = is_some (open_at known register.name)

-- What is missing for one accounting register (a named energy counter) of a device: a read of the
-- point list that covers the register, or an open meter.
abbrev pub lacks_of_register : List Fact → (device : List ℕ) → Option Planned → Register
    → List DeviceLack
lacks_of_register known device list register =
    lacks_if (not (is_in_list list register)) device (NotInList register)
    ++ lacks_if (not (has_meter known register)) device (NoMeter register)

-- What is missing for all accounting registers (named energy counters) of a device: Modbus reads
-- that cover the registers, or open meters.
abbrev pub lacks_of_registers : List Fact → (device : List ℕ) → Option Planned → List Register
    → List DeviceLack
lacks_of_registers known device list registers =
    flat_map (lacks_of_register known device list) registers

-- What is missing before a device's energy can be recorded: its point list, an accounting register
-- (a named energy counter), or what each of its accounting registers lacks.
abbrev pub lacks_by : List Fact → (device : List ℕ) → Option Planned → List Register
    → List DeviceLack
lacks_by known device list registers =
    lacks_if (is_none list) device NoList
    ++ lacks_if (length registers == 0) device NoRegister
    ++ lacks_of_registers known device list registers

-- What is missing in the store for a device: a point list, an accounting register (a named energy
-- counter), a read that covers a register, or an open meter.
abbrev pub lacks_of_device : List Fact → (device : List ℕ) → List DeviceLack
lacks_of_device known device =
    lacks_by known device (list_of known device) (registers_of known device)

-- True if one device of a list has this name.
abbrev pub has_name : (name : List ℕ) → List Device → Bool
has_name name devices = list_any (λ device. same device.name name) devices

-- True if the store has a device of this name.
abbrev pub has_device : List Fact → (name : List ℕ) → Bool
has_device known name = has_name name (reverse (devices_in known))

-- What is missing in the store for the device with this name: `NoDevice` if the store does not have
-- the device, otherwise the things (such as an open meter) that `lacks_of_device` finds.
abbrev pub lacks_of_name : List Fact → (name : List ℕ) → List DeviceLack
lacks_of_name known name =
    if has_device known name then lacks_of_device known name
    else lacks_if true name NoDevice

-- What is missing in the store for a device with an optional name, for example an open meter. The
-- name is None if it is not valid.
abbrev pub lacks_of : List Fact → Option (List ℕ) → List DeviceLack
lacks_of known None = lack_of None NoDevice ∷ []
lacks_of known (Some name) = lacks_of_name known name

-- What is missing in the store for each of the devices (for example an open meter), one device
-- after the other.
abbrev pub lacks_of_all : List Fact → List (Option (List ℕ)) → List DeviceLack
lacks_of_all known devices = flat_map (lacks_of known) devices

-- Definitions about lookups of what is missing in the store for devices. Such a lookup leaves the
-- store's records and time zone unchanged, and appends the missing things to a list.

-- States that a lookup leaves the records and the time zone of the store unchanged. A store that
-- has returned wrong data stays marked as not clean (`is_clean`).
pub record LooksUp (old new : Ledger) : Type 0 where
  pub keeps : KeepsFacts old new
  pub clean : new.is_clean → old.is_clean
  pub zone : new.zone ≡ old.zone

-- States that, on success, everything that is missing in the store for the devices (computed by
-- `says`) was appended to the list `before`. On an error, the appended items may be incomplete.
abbrev pub Adds : {T E : Type 0} → (old new : Ledger) → (List Fact → List DeviceLack)
    → (before after : List DeviceLack) → Result T E → Type 0
Adds old new says before after result = (known : List Fact) → old.holds known → new.is_clean
    → OnOk result (after ≡ before ++ says known)

-- States that, on success, the device and the missing thing `lack` (such as an open meter) were
-- appended to the list of missing things if `lacking` is true.
abbrev pub AddsOne : {T E : Type 0} → (device : List ℕ) → Lack → (lacking : Bool)
    → (before after : List DeviceLack) → Result T E → Type 0
AddsOne device lack lacking before after result =
    OnOk result (after ≡ before ++ lacks_if lacking device lack)
