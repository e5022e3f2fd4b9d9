-- Rows of `devices`, `points` and `registers` (named counters of devices), their columns, and the
-- ranges that the store permits for the values in these columns.
use Rattle.std.specs.Prelude.{◌≡◌, ℕ, ℤ, pos, ◌≤◌, ◌+◌, ◌-◌, min, max, nat_le, true, List, [], ◌∷◌, ◌++◌, map, length, filter, IsTrue, Bool, bytes_eq, ◌==◌, Option, Some, None, if◌then◌else◌, Result, Ok, IsUtf8, string_bytes}
use Rattle.sqlite.specs.declared.types.Value.{Value}
use Rattle.sqlite.specs.declared.types.Value.TheVariants.{Null, Int, Text}
use Rattle.sqlite.specs.Order.{Row, column}
use Rattle.mb_wire.specs.declared.limits.TheConstants.{MAX_READ_REGISTERS}
use Rattle.mb_wire.specs.Spans.{code_of}
use Rattle.poll_core.specs.declared.limits.TheConstants.{MAX_TIMEOUT, MAX_WINDOW}
use Rattle.office_events.specs.declared.limits.TheConstants.{LAST_ADDRESS, LAST_COUNTER, LAST_UNIT}
use Rattle.store_tables.specs.declared.faults.RowFault.{RowFault}
use Rattle.store_tables.specs.Columns.{is_within, whole_in, within, function_in, or_damaged, and_then}
use Rattle.store_tables.specs.Content.{without_where}
use Rattle.store_tables.specs.Limits.{greatest_place, IsPlace}
use Rattle.store_tables.specs.declared.devices.rows.DeviceRow.{DeviceRow}
use Rattle.store_tables.specs.declared.devices.rows.Device.{Device}
use Rattle.store_tables.specs.declared.devices.rows.PointRow.{PointRow}
use Rattle.store_tables.specs.declared.devices.rows.Point.{Point}
use Rattle.store_tables.specs.declared.devices.rows.RegisterRow.{RegisterRow}
use Rattle.store_tables.specs.declared.devices.rows.Register.{Register}
use Rattle.store_tables.specs.declared.devices.rows.RegisterScale.{RegisterScale}
use Rattle.store_tables.specs.declared.devices.rows.RegisterScale.TheVariants as scale

-- Definitions of the rows of the table `devices`: their columns, what queries return of them, and
-- the ranges of their numbers.

-- A Modbus device, as a row of the table `devices`.
pub record Added : Type 0 where
  pub name : List ℕ
  pub row : DeviceRow

-- All columns of a device's row in the table `devices`.
abbrev pub device_columns : Added → Row
device_columns d =
    Int (pos d.row.place) ∷ Null ∷ Text d.name ∷ Int (pos d.row.unit) ∷ Int (pos d.row.timeout)
    ∷ Int (pos d.row.window) ∷ []

-- The columns that a SELECT from `devices` returns for a device.
abbrev pub device_shown : Added → Row
device_shown d =
    Int (pos d.row.place) ∷ Text d.name ∷ Int (pos d.row.unit) ∷ Int (pos d.row.timeout)
    ∷ Int (pos d.row.window) ∷ []

-- The index of a device in the table `devices`.
abbrev pub device_place : Added → ℕ
device_place d = d.row.place

-- The result row of the query for the last device (the one with the greatest index). The row has
-- only the device's index.
abbrev pub device_place_shown : Added → Row
device_place_shown d = Int (pos d.row.place) ∷ []

-- True if every number in a row of `devices` is in the range that the store permits for its column.
pub record IsSoundDevice (d : DeviceRow) : Type 0 where
  pub place : IsPlace d.place
  pub unit : d.unit ≤ LAST_UNIT
  pub timeout : (1 ≤ d.timeout) × (d.timeout ≤ MAX_TIMEOUT)
  pub window : (1 ≤ d.window) × (d.window ≤ MAX_WINDOW)

-- True if every number in a row of `devices` is in the range that the store permits for its column,
-- and the device's name is UTF-8.
pub record IsSoundAdded (d : Added) : Type 0 where
  pub row : IsSoundDevice d.row
  pub name : IsUtf8 d.name

-- True if the device that was read from a result row has the name and the numbers of the stored
-- device.
pub record IsDevice (d : Added) (a : Device) : Type 0 where
  pub name : string_bytes a.name ≡ d.name
  pub row : a.row ≡ d.row

-- The numbers of a device in a result row, or `Damaged` if a number is out of the range that the
-- store permits for its column.
abbrev pub device_in : Row → Result DeviceRow RowFault
device_in row =
    and_then (or_damaged (whole_in 1 greatest_place (column row 0))) (λ place.
    and_then (or_damaged (whole_in 0 LAST_UNIT (column row 2))) (λ unit.
    and_then (or_damaged (whole_in 1 MAX_TIMEOUT (column row 3))) (λ timeout.
    and_then (or_damaged (whole_in 1 MAX_WINDOW (column row 4))) (λ window.
    Ok (record { place = place; unit = unit; timeout = timeout; window = window })))))

-- Definitions of the rows of the table `points`.

-- A point of a device's point list, as a row of the table `points`.
pub record Listed : Type 0 where
  pub device : List ℕ
  pub name : List ℕ
  pub kind : List ℕ
  pub scale : List ℕ
  pub row : PointRow

abbrev pub listed_as : (device name kind scale : List ℕ) → PointRow → Listed
listed_as device name kind scale row =
    record { device = device; name = name; kind = kind; scale = scale; row = row }

-- The columns of a point in the table `points`.
abbrev pub point_columns : Listed → Row
point_columns p =
    Text p.device ∷ Int (pos p.row.place) ∷ Text p.name ∷ Int (pos (code_of p.row.function))
    ∷ Int (pos p.row.area)
    ∷ Int (pos p.row.address) ∷ Text p.kind ∷ Text p.scale ∷ []

-- The columns that a SELECT from `points` returns for a point.
abbrev pub point_shown : Listed → Row
point_shown p =
    Int (pos p.row.place) ∷ Text p.name ∷ Int (pos (code_of p.row.function)) ∷ Int (pos p.row.area)
    ∷ Int (pos p.row.address) ∷ Text p.kind ∷ Text p.scale ∷ []

-- True if a point is in the point list of the device `device`.
abbrev pub is_point_of : (device : List ℕ) → Listed → Bool
is_point_of device p = bytes_eq p.device device

-- The index of a point in the point list of its device.
abbrev pub point_place : Listed → ℕ
point_place p = p.row.place

-- True if every number of a point is in the range that the store permits for its column.
pub record IsSoundPoint (p : PointRow) : Type 0 where
  pub place : IsPlace p.place
  pub area : p.area ≤ 255
  pub address : p.address ≤ LAST_ADDRESS

-- True if every number of a point is in the range that the store permits for its column, and the
-- point's texts are UTF-8.
pub record IsSoundListed (p : Listed) : Type 0 where
  pub row : IsSoundPoint p.row
  pub name : IsUtf8 p.name
  pub kind : IsUtf8 p.kind
  pub scale : IsUtf8 p.scale

-- True if the point that was read from a result row has the texts and the numbers of the stored
-- point.
pub record IsPoint (p : Listed) (a : Point) : Type 0 where
  pub name : string_bytes a.name ≡ p.name
  pub kind : string_bytes a.kind ≡ p.kind
  pub scale : string_bytes a.scale ≡ p.scale
  pub row : a.row ≡ p.row

-- The row of `points` for a point in the point list of the device `device`.
abbrev pub listed_at : (device : List ℕ) → Point → Listed
listed_at device p =
    listed_as device (string_bytes p.name) (string_bytes p.kind) (string_bytes p.scale) p.row

-- The rows of `points` after a list of points was added to the point list of the device `device`.
abbrev pub with_points : (device : List ℕ) → List Point → List Listed → List Listed
with_points device ps rows = map (listed_at device) ps ++ rows

-- The rows of `points` after a list of points replaced the point list of the device `device`.
abbrev pub with_list : (device : List ℕ) → List Point → List Listed → List Listed
with_list device ps rows = with_points device ps (without_where (is_point_of device) rows)

-- The numbers of a point in a result row, or `Damaged` if a number is out of the range that the
-- store permits for its column.
abbrev pub point_in : Row → Result PointRow RowFault
point_in row =
    and_then (or_damaged (whole_in 1 greatest_place (column row 0))) (λ place.
    and_then (or_damaged (function_in (column row 2))) (λ function.
    and_then (or_damaged (whole_in 0 255 (column row 3))) (λ area.
    and_then (or_damaged (whole_in 0 LAST_ADDRESS (column row 4))) (λ address.
    Ok (record { place = place; function = function; area = area; address = address })))))

-- Definitions of the rows of the table `registers`.

-- The number that encodes a scale's kind in `registers`: 0 for a fixed factor, 1 for the Modbus
-- address of the factor.
abbrev pub scale_kind : RegisterScale → ℕ
scale_kind (scale.Fixed sf) = 0
scale_kind (scale.At address) = 1

-- The number that encodes a scale in `registers`: the fixed factor, or the Modbus address of the
-- factor.
abbrev pub scale_number : RegisterScale → ℤ
scale_number (scale.Fixed sf) = sf
scale_number (scale.At address) = pos address

-- True if a fixed scale factor is from -3 to 3, or the address of a scale factor is at most 65535.
abbrev pub IsSoundScale : RegisterScale → Type 0
IsSoundScale (scale.Fixed sf) = IsTrue (is_within 3 sf)
IsSoundScale (scale.At address) = address ≤ LAST_ADDRESS

-- How many Modbus registers one read needs to cover a counter at `address` and its scale. The
-- counter has two Modbus registers.
abbrev pub registers_spanned : (address : ℕ) → RegisterScale → ℕ
registers_spanned address (scale.Fixed sf) = 2
registers_spanned address (scale.At at) = max (address + 2) (at + 1) - min address at

-- True if one read of at most 125 Modbus registers covers a counter at `address` and its scale.
abbrev pub fits_a_read : (address : ℕ) → RegisterScale → Bool
fits_a_read address scale = nat_le (registers_spanned address scale) MAX_READ_REGISTERS

-- An accounting register: a named counter of a device, at which meters are installed.
pub record Registered : Type 0 where
  pub name : List ℕ
  pub device : List ℕ
  pub row : RegisterRow

abbrev pub registered_as : (name device : List ℕ) → RegisterRow → Registered
registered_as name device row = record { name = name; device = device; row = row }

-- The columns of an accounting register (a named counter) in the table `registers`.
abbrev pub register_columns : Registered → Row
register_columns r =
    Int (pos r.row.place) ∷ Null ∷ Text r.name ∷ Text r.device ∷ Int (pos (code_of r.row.function))
    ∷ Int (pos r.row.address)
    ∷ Int (pos (scale_kind r.row.scale)) ∷ Int (scale_number r.row.scale) ∷ []

-- The columns that a SELECT from `registers` returns for an accounting register (a named counter).
abbrev pub register_shown : Registered → Row
register_shown r =
    Int (pos r.row.place) ∷ Text r.name ∷ Text r.device ∷ Int (pos (code_of r.row.function))
    ∷ Int (pos r.row.address)
    ∷ Int (pos (scale_kind r.row.scale)) ∷ Int (scale_number r.row.scale) ∷ []

-- The index of an accounting register (a named counter) in the table `registers`.
abbrev pub register_place : Registered → ℕ
register_place r = r.row.place

-- The result row of the query for the last accounting register (a named counter). The row has only
-- the register's index.
abbrev pub register_place_shown : Registered → Row
register_place_shown r = Int (pos r.row.place) ∷ []

-- True if an accounting register (a named counter) has the name `name`.
abbrev pub is_register : (name : List ℕ) → Registered → Bool
is_register name r = bytes_eq r.name name

-- True if an accounting register (a named counter) belongs to the device `device`.
abbrev pub is_register_of : (device : List ℕ) → Registered → Bool
is_register_of device r = bytes_eq r.device device

-- True if every number of an accounting register (a named counter) is in the range that the store
-- permits for its column. One Modbus read must also cover the counter and its scale.
pub record IsSoundRegister (r : RegisterRow) : Type 0 where
  pub place : IsPlace r.place
  pub address : r.address ≤ LAST_COUNTER
  pub scale : IsSoundScale r.scale
  pub span : fits_a_read r.address r.scale ≡ true

-- True if the numbers of an accounting register (a named counter) are in the ranges that the store
-- permits for their columns, and the register's names are UTF-8.
pub record IsSoundRegistered (r : Registered) : Type 0 where
  pub row : IsSoundRegister r.row
  pub name : IsUtf8 r.name
  pub device : IsUtf8 r.device

-- True if the accounting register (a named counter) in a result row has the names and the numbers
-- of the stored accounting register.
pub record IsRegister (r : Registered) (a : Register) : Type 0 where
  pub name : string_bytes a.name ≡ r.name
  pub device : string_bytes a.device ≡ r.device
  pub row : a.row ≡ r.row

abbrev pub fixed_by : Option ℤ → Option RegisterScale
fixed_by None = None
fixed_by (Some sf) = Some (scale.Fixed sf)

abbrev pub at_by : Option ℕ → Option RegisterScale
at_by None = None
at_by (Some address) = Some (scale.At address)

-- The scale that two columns of `registers` encode: the kind of the scale, and a factor or an
-- address. None if the columns encode no scale.
abbrev pub scale_of : (kind : ℕ) → Value → Option RegisterScale
scale_of kind v = if kind == 0 then fixed_by (within 3 v) else at_by (whole_in 0 LAST_ADDRESS v)

-- The given scale if one Modbus read covers it together with the counter at `address`, otherwise
-- None.
abbrev pub reached_from : (address : ℕ) → Option RegisterScale → Option RegisterScale
reached_from address None = None
reached_from address (Some scale) = if fits_a_read address scale then Some scale else None

-- The numbers of an accounting register (a named counter) in a result row, or `Damaged` if a number
-- is out of the range that the store permits for its column.
abbrev pub register_in : Row → Result RegisterRow RowFault
register_in row =
    and_then (or_damaged (whole_in 1 greatest_place (column row 0))) (λ place.
    and_then (or_damaged (function_in (column row 3))) (λ function.
    and_then (or_damaged (whole_in 0 LAST_COUNTER (column row 4))) (λ address.
    and_then (or_damaged (whole_in 0 1 (column row 5))) (λ kind.
    and_then (or_damaged (reached_from address (scale_of kind (column row 6)))) (λ scale.
    Ok (record { place = place; function = function; address = address; scale = scale }))))))

-- True if a number is the count of the accounting registers (named counters) of the device
-- `device`.
abbrev pub IsRegisterCount : (device : List ℕ) → List Registered → ℕ → Type 0
IsRegisterCount device rows count = count ≡ length (filter (is_register_of device) rows)
