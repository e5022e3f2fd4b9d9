-- The commands that set up a new office (a new database file) with the devices, point lists,
-- accounting registers (named counters) and meters of an old database file.
use Rattle.std.specs.Prelude.{ℕ, List, [], ◌∷◌, ◌++◌, map, Some}
use Rattle.std.specs.Option.{option_map, option_to_list}
use Rattle.std.specs.List.{flat_map}
use Rattle.mb_wire.specs.Spans.{code_of}
use Rattle.read_plan.specs.PlannedLists.{Planned}
use Rattle.office_events.specs.declared.commands.Command.{Command}
use Rattle.office_events.specs.declared.commands.Command.TheVariants as command
use Rattle.office_events.specs.declared.commands.GivenScale.{GivenScale}
use Rattle.office_events.specs.declared.commands.GivenScale.TheVariants as given
use Rattle.office_events.specs.declared.facts.Device.{Device}
use Rattle.office_events.specs.declared.facts.Fact.{Fact}
use Rattle.office_events.specs.declared.facts.Opening.{Opening}
use Rattle.office_events.specs.declared.facts.Register.{Register}
use Rattle.office_events.specs.declared.facts.ScaleSource.{ScaleSource}
use Rattle.office_events.specs.declared.facts.ScaleSource.TheVariants as source
use Rattle.office_books.specs.Facts.{latest_in, list_of, registers_of}
use Rattle.carried_books.specs.declared.carrying.commands.TimedCommand.{TimedCommand}

-- A command with the timestamp at which the office (event engine) of a new database file is to
-- execute the command.
abbrev pub timed : (at : ℕ) → Command → TimedCommand
timed at c = record { at = at; command = c }

-- The command that adds a device to the new database file.
abbrev pub device_command : Device → Command
device_command device = command.AddDevice (record {
  name = Some device.name;
  unit = device.unit;
  timeout = device.timeout;
  window = device.window;
})

-- The command that stores the point list of a device.
abbrev pub list_command : (device : List ℕ) → Planned → Command
list_command device list = command.PutList (record { device = Some device; list = list })

-- The source of the scale factor of an accounting register (a named counter), as an argument of a
-- command: a fixed number, or a Modbus address.
abbrev pub scale_given : ScaleSource → GivenScale
scale_given (source.Fixed sf) = given.Fixed sf
scale_given (source.Register address) = given.Register address

-- The command that adds an accounting register (a named counter) to the new database file.
abbrev pub register_command : Register → Command
register_command register = command.AddRegister (record {
  name = Some register.name;
  device = Some register.device;
  function = code_of register.function;
  address = register.address;
  scale = scale_given register.scale;
})

-- The command that installs a meter in the new database file, given the meter's opening (first
-- entry).
abbrev pub install_command : Opening → Command
install_command opening = command.Install (record {
  register = Some opening.register;
  meter = Some opening.meter;
  raw = opening.raw;
  sf = opening.sf;
  ceiling = opening.ceiling;
  range = opening.range;
})

-- The command that adds a device to the new database file, with the command's timestamp.
abbrev pub add_device : (at : ℕ) → Device → TimedCommand
add_device at device = timed at (device_command device)

-- The command that stores a device's point list in the new database file, with the command's
-- timestamp.
abbrev pub put_list : (at : ℕ) → (device : List ℕ) → Planned → TimedCommand
put_list at device list = timed at (list_command device list)

-- The list of the commands that store a device's point list in the new database file: one command
-- with its timestamp, or none if the device has no point list.
abbrev pub write_lists : (at : ℕ) → List Fact → Device → List TimedCommand
write_lists at facts device =
    option_to_list (option_map (put_list at device.name) (list_of facts device.name))

-- The command that adds an accounting register (a named counter), with the command's timestamp.
abbrev pub add_register : (at : ℕ) → Register → TimedCommand
add_register at register = timed at (register_command register)

-- The commands that add the accounting registers (named counters) of a device to a new database
-- file, in the order of the registers.
abbrev pub add_registers : (at : ℕ) → List Fact → Device → List TimedCommand
add_registers at facts device = map (add_register at) (registers_of facts device.name)

-- The commands that set up a device: the device, its point list if it has one, and its accounting
-- registers (named counters).
abbrev pub set_up_device : (at : ℕ) → List Fact → Device → List TimedCommand
set_up_device at facts device =
    add_device at device ∷ (write_lists at facts device ++ add_registers at facts device)

-- The commands that set up several devices in a new database file, in the order of the devices.
abbrev pub set_up_devices : (at : ℕ) → List Fact → List Device → List TimedCommand
set_up_devices at facts devices = flat_map (set_up_device at facts) devices

-- The command that installs a meter in the new database file. Its timestamp is that of the meter's
-- opening, its first entry.
abbrev pub install : Opening → TimedCommand
install opening = timed opening.at (install_command opening)

-- The timestamp at which devices are set up in the new database file: that of the first meter's
-- opening (first entry), or the latest recorded timestamp if no meter is installed.
abbrev pub first_moment : List Fact → List Opening → ℕ
first_moment facts [] = latest_in facts
first_moment facts (opening ∷ openings) = opening.at

-- All commands for the new database file. These commands set up the devices in `devices`, and then
-- install a meter for each opening (first entry) in `openings`.
abbrev pub commands_for : List Fact → List Device → List Opening → List TimedCommand
commands_for facts devices openings =
    set_up_devices (first_moment facts openings) facts devices ++ map install openings
