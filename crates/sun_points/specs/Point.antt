-- Defines the value in a point's registers. The SunSpec Information Model Specification defines the
-- register values that mean "not implemented".
use Rattle.std.specs.Prelude.{ℕ, ℤ, ◌+◌, ◌*◌, Bool, ◌==◌, nat_le, if◌then◌else◌, List, slice_index}
use Rattle.std.specs.Int.{w16, w32, cast_signed}
use Rattle.std.specs.List.{list_all}
use Rattle.sun_points.specs.declared.point_type.PointType.{PointType}
use Rattle.sun_points.specs.declared.point_type.PointType.TheVariants as kind
use Rattle.sun_points.specs.declared.point.Point.{Point}
use Rattle.sun_points.specs.declared.point.Point.TheVariants as lent

-- The value of a SunSpec point as proofs use it. Unlike a `Point`, it borrows no registers.
pub data Value : Type 0 where
  Absent : Value
  Signed : (value : ℤ) → Value
  Unsigned : (value : ℕ) → Value
  Bits : (bits : ℕ) → Value
  Text : (words : List ℕ) → Value

-- The value of a `Point`, without its borrowed registers.
abbrev pub seen : Point → Value
seen lent.Absent = Absent
seen (lent.Signed value) = Signed value
seen (lent.Unsigned value) = Unsigned value
seen (lent.Bits bits) = Bits bits
seen (lent.Text text) = Text text.words.now

-- The 16-bit number in the first register of a point.
abbrev pub word : List ℕ → ℕ
word words = slice_index words 0

-- The 32-bit number in the first two registers of a point, high word first.
abbrev pub long : List ℕ → ℕ
long words = 65536 * slice_index words 0 + slice_index words 1

-- True if the registers of a point have the value that means "not implemented" for the point's
-- type.
abbrev pub is_absent : PointType → List ℕ → Bool
is_absent kind.Int16 words = word words == 0x8000
is_absent kind.Uint16 words = word words == 0xFFFF
is_absent kind.Enum16 words = word words == 0xFFFF
is_absent kind.Int32 words = long words == 0x80000000
is_absent kind.Uint32 words = long words == 0xFFFFFFFF
is_absent kind.Bitfield32 words = nat_le 0x80000000 (long words)
is_absent kind.Acc32 words = long words == 0
is_absent kind.Sunssf words = word words == 0x8000
is_absent (kind.Text registers) words = list_all (λ w. w == 0) words

-- The value of a point of this type, assuming that the point is implemented.
abbrev pub present_value : PointType → List ℕ → Value
present_value kind.Int16 words = Signed (cast_signed w16 (word words))
present_value kind.Uint16 words = Unsigned (word words)
present_value kind.Enum16 words = Unsigned (word words)
present_value kind.Int32 words = Signed (cast_signed w32 (long words))
present_value kind.Uint32 words = Unsigned (long words)
present_value kind.Bitfield32 words = Bits (long words)
present_value kind.Acc32 words = Unsigned (long words)
present_value kind.Sunssf words = Signed (cast_signed w16 (word words))
present_value (kind.Text registers) words = Text words

-- The value that registers encode for a point type, or `Absent` if the point is not implemented.
abbrev pub value_of : PointType → List ℕ → Value
value_of ty words = if is_absent ty words then Absent else present_value ty words
