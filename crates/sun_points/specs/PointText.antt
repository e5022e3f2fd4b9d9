-- Defines the text of a point's value.
use Rattle.std.specs.Prelude.{ℕ, ℤ, pos, List, ◌++◌, codes}
use Rattle.sun_points.specs.Decimal.{low_digits, scaled_text}
use Rattle.sun_points.specs.Point.{Value, Absent, Signed, Unsigned, Bits, Text}
use Rattle.sun_points.specs.Text.{shown_text}

-- The text of a 32-bit bit field: `0x` and eight lower-case hex digits.
abbrev pub bits_text : ℕ → List ℕ
bits_text bits = codes "0x" ++ low_digits 16 8 bits

-- The text of a point's value at a scale. The scale affects only numbers.
abbrev pub point_text : Value → ℤ → List ℕ
point_text Absent scale = codes "absent"
point_text (Signed value) scale = scaled_text value scale
point_text (Unsigned value) scale = scaled_text (pos value) scale
point_text (Bits bits) scale = bits_text bits
point_text (Text words) scale = shown_text words
