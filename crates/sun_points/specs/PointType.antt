-- Defines the number of registers of each SunSpec point type.
use Rattle.std.specs.Prelude.{ℕ}
use Rattle.sun_points.specs.declared.point_type.PointType.{PointType}
use Rattle.sun_points.specs.declared.point_type.PointType.TheVariants.{Int16, Uint16, Enum16, Int32, Uint32, Bitfield32, Acc32, Sunssf, Text}

-- The number of registers that a point of this type occupies.
abbrev pub registers_of : PointType → ℕ
registers_of Int16 = 1
registers_of Uint16 = 1
registers_of Enum16 = 1
registers_of Int32 = 2
registers_of Uint32 = 2
registers_of Bitfield32 = 2
registers_of Acc32 = 2
registers_of Sunssf = 1
registers_of (Text registers) = registers
