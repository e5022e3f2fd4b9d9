-- Defines the list of devices in an option. The list has parts `NAME=HOST:PORT`, separated by
-- commas.
use Rattle.std.specs.Prelude.{◌≡◌, ⊤, MatchOption, MatchResult, Result, Vec, ℕ, ◌==◌, ◌&&◌, ◌||◌, Bool, true, not, List, [], ◌∷◌, Option, Some, None, map, length, nat_le, if◌then◌else◌}
use Rattle.std.specs.List.{after_first, after_last, before_first, before_last, list_any, slice_split}
use Rattle.std.specs.Str.{bytes_eq}
use Rattle.std.specs.Borrow.{Bor}
use Rattle.command_words.specs.Values.Given.{each_of, given}
use Rattle.command_words.specs.Values.Numbers.{number_up_to}
use Rattle.command_words.specs.declared.values.devices.Device.{Device}
use Rattle.command_words.specs.declared.values.list_fault.ListFault.{ListFault}
use Rattle.command_words.specs.declared.values.list_fault.ListFault.TheVariants as fault

-- A text in contracts and proofs, as a list of bytes.
abbrev pub Text : Type 0
Text = List ℕ

-- A device in a list, for contracts: its name, and the host and port of its address.
pub record Place : Type 0 where
  pub name : Text
  pub host : Text
  pub port : ℕ

-- Converts a parsed device from the program's type to the type in contracts.
abbrev pub place_of : Device → Place
place_of d = record { name = d.name.now; host = d.host.now; port = d.port }

-- Converts a list of parsed devices from the program's type (`Device`) to the type that contracts
-- use (`Place`).
abbrev pub places_of : List Device → List Place
places_of devices = map place_of devices

-- True if a byte is a comma.
abbrev pub is_comma : ℕ → Bool
is_comma byte = byte == 44

-- True if a byte is `=`.
abbrev pub is_equals : ℕ → Bool
is_equals byte = byte == 61

-- True if a byte is `:`.
abbrev pub is_colon : ℕ → Bool
is_colon byte = byte == 58

-- The device's name in a part `NAME=HOST:PORT`, which is the text before the first `=`.
abbrev pub name_in : Text → Text
name_in part = before_first is_equals part

-- The device's address in a part `NAME=HOST:PORT`, which is the text after the first `=`.
abbrev pub address_in : Text → Text
address_in part = after_first is_equals part

-- The host of an address `HOST:PORT`, which is the text before the last `:`.
abbrev pub host_in : Text → Text
host_in address = before_last is_colon address

-- The port of an address `HOST:PORT`, which is the number after the last `:`. None if this number
-- is not from 1 to 65,535.
abbrev pub port_in : Text → Option ℕ
port_in address = number_up_to 65535 (after_last is_colon address)

-- True if a text is empty.
abbrev pub is_empty : Text → Bool
is_empty text = length text == 0

-- The device in a part `NAME=HOST:PORT` of a device list. None if NAME or HOST is empty, or the
-- port is out of range.
abbrev pub device_in : Text → Option Place
device_in part =
    let address = address_in part in
    if is_empty (name_in part) || is_empty (host_in address) then None
    else given (port_in address)
    (λ port. Some (record { name = name_in part; host = host_in address; port = port }))

-- States that the result has the texts before and after the first `=` of a part `NAME=HOST:PORT` of
-- a device list. The result is None if the part has no `=`.
abbrev pub CutsAtEquals : Text → Option (Bor Text × Bor Text) → Type 0
CutsAtEquals part result =
    MatchOption result ((name_in part ≡ part) × (address_in part ≡ []))
    (λ around. (around.0.now ≡ name_in part) × (around.1.now ≡ address_in part))

-- States that the result has the texts before and after the last `:` of an address `HOST:PORT`. The
-- result None is allowed only if the address has no `:`, or no text before its last `:`.
abbrev pub CutsAtLastColon : Text → Option (Bor Text × Bor Text) → Type 0
CutsAtLastColon address result =
    MatchOption result (host_in address ≡ [])
    (λ around. (around.0.now ≡ host_in address) × (around.1.now ≡ after_last is_colon address))

-- True if all texts in the list are different from each other.
abbrev pub are_distinct : List Text → Bool
are_distinct [] = true
are_distinct (text ∷ texts) = not (list_any (bytes_eq text) texts) && are_distinct texts

-- The device names in the parts of a device list.
abbrev pub names_in : List Text → List Text
names_in parts = map name_in parts

-- The bytes of each part (such as `NAME=HOST:PORT`) of an argument that lists devices.
abbrev pub texts : List (Bor Text) → List Text
texts parts = map (λ part. part.now) parts

-- True if one of the parts of a device list has the device name `name`.
abbrev pub has_name : List (Bor Text) → Text → Bool
has_name parts name = list_any (λ part. bytes_eq name (name_in part.now)) parts

-- True if all parts of a device list have different device names.
abbrev pub have_distinct_names : List (Bor Text) → Bool
have_distinct_names parts = are_distinct (names_in (texts parts))

-- The devices in the parts of a device list. None unless there are at most 64 parts, each part is a
-- valid device, and all names are different.
abbrev pub devices_of : List Text → Option (List Place)
devices_of parts =
    if nat_le (length parts) 64 && are_distinct (names_in parts) then each_of device_in parts
    else None

-- The devices in a comma-separated list, or None if the list is invalid.
abbrev pub devices_in : Text → Option (List Place)
devices_in text = devices_of (slice_split is_comma text)

-- States which faults the parser may report for a device list. `due` has the devices by the
-- specification, or is None if the list is invalid. `Memory` (out of memory) is always allowed,
-- other faults only if `due` is None.
abbrev pub IsFault : ListFault → Option (List Place) → Type 0
IsFault fault.Memory due = ⊤
IsFault (fault.Part part why) due = None ≡ due

-- States that a function parses a device list correctly. It returns the devices `due`, which the
-- specification requires, or a fault that is allowed for this list.
abbrev pub Reads : {Z : Type 0} → Option (List Place) → Result (Vec Device Z) ListFault → Type 0
Reads due result =
    MatchResult result (λ devices. Some (places_of devices.items) ≡ due)
    (λ fault. IsFault fault due)
