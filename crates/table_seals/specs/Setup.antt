-- Defines the lines of a file's time zone, devices and registers that a seal has.
use Rattle.std.specs.Prelude.{◌≡◌, ℕ, ◌==◌, Bool, List, [], ◌∷◌, ◌++◌, Option, Some, None, flat_map, bytes_eq, not, codes, decimal, if◌then◌else◌}
use Rattle.std.specs.Fmt.{signed_decimal}
use Rattle.std.specs.List.{filter, list_any}
use Rattle.std.specs.Option.{option_and_then, option_to_list}
use Rattle.sqlite.specs.declared.types.Value.{Value}
use Rattle.sqlite.specs.Order.{Row, column}
use Rattle.store_tables.specs.Columns.{whole_in, within}
use Rattle.store_tables.specs.Content.{Content}
use Rattle.table_audit.specs.Names.{ShowsDevices, ShowsRegisters}
use Rattle.table_audit.specs.Reading.{name_in}

-- The line of a file's time zone.
abbrev pub zone_line : (zone : List ℕ) → List ℕ
zone_line zone = codes "zone " ++ zone

-- The line of a device: its name and its Modbus unit. None if the row has no valid name, or the
-- unit is not from 0 to 255.
abbrev pub device_line : Row → Option (List ℕ)
device_line row =
    option_and_then (λ name.
    option_and_then (λ unit. Some (codes "device " ++ name ++ codes " unit " ++ decimal unit))
    (whole_in 0 255 (column row 2)))
    (name_in (column row 1))

-- The words for the scale of a register: a scale factor from -3 to 3 if `kind` is 0, otherwise the
-- address of the Modbus register that has the scale factor.
abbrev pub scale_words : (kind : ℕ) → Value → Option (List ℕ)
scale_words kind v =
    if kind == 0
    then option_and_then (λ sf. Some (codes " scale " ++ signed_decimal sf)) (within 3 v)
    else option_and_then (λ at. Some (codes " scale-address " ++ decimal at)) (whole_in 0 65535 v)

-- The line of an accounting register (a named energy counter): its name, its device, and where the
-- counter and its scale are. None if a name is not valid, or another value is out of its range.
abbrev pub register_line : Row → Option (List ℕ)
register_line row =
    option_and_then (λ name.
    option_and_then (λ device.
    option_and_then (λ function.
    option_and_then (λ address.
    option_and_then (λ kind.
    option_and_then (λ scale. Some (codes "register " ++ name ++ codes " at " ++ device
    ++ codes " function " ++ decimal function ++ codes " address " ++ decimal address ++ scale))
    (scale_words kind (column row 6)))
    (whole_in 0 1 (column row 5)))
    (whole_in 0 65535 (column row 4)))
    (whole_in 3 4 (column row 3)))
    (name_in (column row 2)))
    (name_in (column row 1))

-- The lines of all rows that have one.
abbrev pub lines_in : (line : Row → Option (List ℕ)) → List Row → List (List ℕ)
lines_in line rows = flat_map (λ row. option_to_list (line row)) rows

-- The lines of the time zone, the devices and the registers.
abbrev pub setup_of : (zone : List ℕ) → (devices registers : List Row) → List (List ℕ)
setup_of zone devices registers =
    zone_line zone ∷ lines_in device_line devices ++ lines_in register_line registers

-- States that `setup` has the lines of the time zone `zone` and of all devices and registers in the
-- tables.
pub record HasSetup (zone : List ℕ) (content : Content) (setup : List (List ℕ)) : Type 0 where
  pub devices : List Row
  pub registers : List Row
  pub devices_shown : ShowsDevices content devices
  pub registers_shown : ShowsRegisters content registers
  pub setup_is : setup ≡ setup_of zone devices registers

-- True if a text is among the given texts.
abbrev pub is_among : List (List ℕ) → (text : List ℕ) → Bool
is_among texts text = list_any (λ other. bytes_eq other text) texts

-- The sealed lines of the time zone, the devices and the registers that are not among the file's
-- present lines.
abbrev pub gone : (present : List (List ℕ)) → (sealed : List (List ℕ)) → List (List ℕ)
gone present sealed = filter (λ line. not (is_among present line)) sealed

-- States that `lines` has the sealed lines of the time zone, the devices and the registers that the
-- file no longer has.
pub record ReportsSetup (zone : List ℕ) (sealed : List (List ℕ)) (content : Content)
    (lines : List (List ℕ)) : Type 0 where
  pub present : List (List ℕ)
  pub has : HasSetup zone content present
  pub lines_are : lines ≡ gone present sealed
