-- Defines the values that the fields of a point list's row encode.
use Rattle.std.specs.Prelude.{ℕ, zero, suc, ℤ, pos, negsuc, ◌==◌, nat_le, ◌&&◌, if◌then◌else◌, List, [], ◌∷◌, drop, codes, Some, None}
use Rattle.std.specs.declared.option.Option.{Option}
use Rattle.std.specs.List.{starts_with}
use Rattle.std.specs.Option.{option_and_then, option_map}
use Rattle.std.specs.Str.{bytes_eq}
use Rattle.sun_points.specs.Numbers.Digits.{number_of_digits}
use Rattle.sun_points.specs.declared.point_type.PointType.{PointType}
use Rattle.sun_points.specs.declared.point_type.PointType.TheVariants as kind
use Rattle.mb_wire.specs.declared.limits.TheConstants.{MAX_READ_REGISTERS}
use Rattle.mb_wire.specs.declared.span.ReadFunction.{ReadFunction}
use Rattle.mb_wire.specs.declared.span.ReadFunction.TheVariants.{HoldingRegisters, InputRegisters}

-- The whole number in a field of one to ten digits, or `None` for any other field.
abbrev pub number_of : List ℕ → Option ℕ
number_of field = number_of_digits 10 field

-- The whole number in a field if it is from the first limit to the second limit, otherwise `None`.
abbrev pub number_within : ℕ → ℕ → List ℕ → Option ℕ
number_within low high field =
    option_and_then (λ n. if nat_le low n && nat_le n high then Some n else None) (number_of field)

-- The read function with the given Modbus function code: 3 reads holding registers, 4 reads input
-- registers. `None` for any other code.
abbrev pub function_coded : ℕ → Option ReadFunction
function_coded n =
    if n == 3 then Some HoldingRegisters else if n == 4 then Some InputRegisters else None

-- The Modbus read function that a field of a point list's row encodes, or `None` if the field
-- encodes none.
abbrev pub function_of : List ℕ → Option ReadFunction
function_of field = option_and_then function_coded (number_of field)

-- The type of a text point that a field encodes: `string` and a number of registers from 1 to 125.
-- `None` for any other field.
abbrev pub text_type_of : List ℕ → Option PointType
text_type_of field =
    if starts_with (λ a b. a == b) field (codes "string")
    then option_and_then (λ n. Some (kind.Text n))
    (number_within 1 MAX_READ_REGISTERS (drop 6 field)) else None

-- The SunSpec point type that a field of a point list's row encodes, or `None` if the field encodes
-- none.
abbrev pub type_of : List ℕ → Option PointType
type_of field =
    if bytes_eq field (codes "int16") then Some kind.Int16
    else if bytes_eq field (codes "uint16") then Some kind.Uint16
    else if bytes_eq field (codes "enum16") then Some kind.Enum16
    else if bytes_eq field (codes "int32") then Some kind.Int32
    else if bytes_eq field (codes "uint32") then Some kind.Uint32
    else if bytes_eq field (codes "bitfield32") then Some kind.Bitfield32
    else if bytes_eq field (codes "acc32") then Some kind.Acc32
    else if bytes_eq field (codes "sunssf") then Some kind.Sunssf
    else text_type_of field

-- The negative of the given number.
abbrev pub minus : ℕ → ℤ
minus zero = pos 0
minus (suc n) = negsuc n

-- The fixed scale that a field encodes: -10 to 10, with `-` as the only sign. `None` for any other
-- field.
abbrev pub fixed_scale_of : List ℕ → Option ℤ
fixed_scale_of [] = None
fixed_scale_of (first ∷ rest) =
    if first == 45 then option_map minus (number_within 0 10 rest)
    else option_map pos (number_within 0 10 (first ∷ rest))
