-- Defines the configuration of a simulated device, which its setup lines determine. The
-- configuration is a register map, and the faults to inject.
use Rattle.std.specs.Prelude.{◌≡◌, ◌<◌, ℕ, Bool, true, ◌&&◌, not, nat_le, if◌then◌else◌, List, [], ◌∷◌, ◌++◌, is_some, Option, Some, None}
use Rattle.mb_device.specs.Areas.{begun_from, is_any_there, is_past_end}
use Rattle.mb_device.specs.Maps.{HasAllAddresses, Maps, kept, table_of, value_at, with_table, written}
use Rattle.mb_device.specs.declared.kinds.Area.{Area}
use Rattle.mb_device.specs.declared.kinds.Kind.{Kind}
use Rattle.mb_device.specs.declared.trick.Trick.{Trick}
use Rattle.script_text.specs.declared.bank.bank.BankLine.{BankLine}
use Rattle.script_text.specs.declared.bank.bank.BankLine.TheVariants as line
use Rattle.script_text.specs.declared.bank.bank.GivenArea.{GivenArea}
use Rattle.script_text.specs.declared.bank.bank.GivenCell.{GivenCell}

-- The configuration of a simulated device. It has a register map and a list of pairs, each of a
-- frame's number and the fault to inject into the response to that frame.
pub record Setting : Type 0 where
  pub maps : Maps
  pub tricks : List (ℕ × Trick)

-- States that a register map has no value at any of the 65,536 addresses of each kind.
pub record AreUnset (maps : Maps) : Type 0 where
  pub values : (kind : Kind) (address : ℕ) → address < 65536 → value_at maps kind address ≡ None
  pub addresses : HasAllAddresses maps

-- States that a simulated device has no addresses and injects no fault.
pub record IsUnset (now : Setting) : Type 0 where
  pub maps : AreUnset now.maps
  pub tricks : now.tricks ≡ []

-- The range of Modbus addresses that a setup line `area` describes, or `None` if the line's numbers
-- are out of range.
abbrev pub area_of : GivenArea → Option Area
area_of given =
    if nat_le given.start 65535 && nat_le given.count 4294967295
    then Some (record { kind = given.kind; start = given.start; count = given.count }) else None

-- True if a register map accepts a new range of addresses. The range must be valid in Modbus, and
-- must have no address that the map already has.
abbrev pub takes_area : Maps → GivenArea → Bool
takes_area maps area =
    nat_le area.start 65535 && nat_le area.count 4294967295
    && not (is_any_there (table_of maps area.kind) area.start area.count)
    && not (is_past_end (table_of maps area.kind) area.start area.count)

-- True if a register map accepts a value at an address. The value must have 16 bits, and the map
-- must have the address.
abbrev pub takes_cell : Maps → GivenCell → Bool
takes_cell maps cell =
    nat_le cell.address 65535 && nat_le cell.value 65535
    && is_some (value_at maps cell.kind cell.address)

-- The register map with a range of addresses added. If the map does not accept the range, the map
-- is unchanged.
abbrev pub with_area : Maps → GivenArea → Maps
with_area maps area =
    if takes_area maps area
    then with_table maps area.kind (begun_from (table_of maps area.kind) area.start area.count)
    else maps

-- The register map with a value stored at an address. If the map does not accept the value, the map
-- is unchanged.
abbrev pub with_cell : Maps → GivenCell → Maps
with_cell maps cell =
    if takes_cell maps cell
    then with_table maps cell.kind
    (written (table_of maps cell.kind) cell.address (kept cell.kind cell.value)) else maps

-- The configuration of a simulated device after a setup line that adds a range of addresses.
abbrev pub after_area : Setting → GivenArea → Setting
after_area now area = record { maps = with_area now.maps area; tricks = now.tricks }

-- The configuration of a simulated device after a setup line that sets the value at an address.
abbrev pub after_cell : Setting → GivenCell → Setting
after_cell now cell = record { maps = with_cell now.maps cell; tricks = now.tricks }

-- The configuration of a simulated device with one more fault to inject.
abbrev pub with_trick : Setting → ℕ → Trick → Setting
with_trick now frame trick = record { maps = now.maps; tricks = now.tricks ++ (frame, trick) ∷ [] }

-- True if the register map accepts a setup line of a simulated device. A new address range must be
-- valid and must not overlap others. A value must have 16 bits and an existing address. Lines that
-- inject faults are always accepted.
abbrev pub takes : Maps → BankLine → Bool
takes maps (line.Area area) = takes_area maps area
takes maps (line.Set cell) = takes_cell maps cell
takes maps (line.Trick frame trick) = true

-- The configuration of a simulated device after a setup line.
abbrev pub after_line : Setting → BankLine → Setting
after_line now (line.Area area) = after_area now area
after_line now (line.Set cell) = after_cell now cell
after_line now (line.Trick frame trick) = with_trick now frame trick
