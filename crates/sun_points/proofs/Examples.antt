-- Checks the definitions of counts, scale factors, point values and printed texts by examples of
-- register values.
use Rattle.std.proofs.Common.{◌≡◌, pos, negsuc, refl, Some, None, [], ◌∷◌}
use Rattle.std.specs.Prelude.{codes}
use Rattle.std.specs.Fmt.{digits}
use Rattle.sun_points.specs.Counters.{acc32_value, scale_value}
use Rattle.sun_points.specs.Decimal.{scaled_text}
use Rattle.sun_points.specs.Point.{Absent, Signed, Unsigned, Bits, value_of}
use Rattle.sun_points.specs.PointText.{point_text}
use Rattle.sun_points.specs.Scale.{scale_of}
use Rattle.sun_points.specs.Text.{shown_text}
use Rattle.sun_points.specs.declared.point_type.PointType.TheVariants.{Int16, Acc32, Bitfield32}

-- Examples of the printed texts of values with a SunSpec scale factor.

a_tenth : scaled_text (pos 2301) (negsuc 0) ≡ codes "230.1"
unfolding digits
a_tenth = refl

two_decimals : scaled_text (negsuc 4) (negsuc 1) ≡ codes "-0.05"
unfolding digits
two_decimals = refl

a_decimal_of_zero : scaled_text (pos 0) (negsuc 0) ≡ codes "0.0"
unfolding digits
a_decimal_of_zero = refl

no_zeros_after_zero : scaled_text (pos 0) (pos 2) ≡ codes "0"
unfolding digits
no_zeros_after_zero = refl

thousands : scaled_text (pos 12) (pos 3) ≡ codes "12000"
unfolding digits
thousands = refl

least_at_the_least : scaled_text (negsuc 9223372036854775807) (negsuc 9) ≡ codes "-922337203.6854775808"
unfolding digits
least_at_the_least = refl

-- Examples of scale factors in sunssf registers.

zero_where_not_implemented : scale_of 0x8000 ≡ Some (pos 0)
zero_where_not_implemented = refl

ten : scale_of 10 ≡ Some (pos 10)
ten = refl

eleven : scale_of 11 ≡ None
eleven = refl

minus_ten : scale_of 0xFFF6 ≡ Some (negsuc 9)
minus_ten = refl

minus_eleven : scale_of 0xFFF5 ≡ None
minus_eleven = refl

-- Examples of counts of counters, and of the powers of ten of their scale factors.

a_count_of_the_high_word : acc32_value 0x0001 0x0000 ≡ 65536
a_count_of_the_high_word = refl

the_greatest_count : acc32_value 0xFFFF 0xFFFF ≡ 4294967295
the_greatest_count = refl

a_count_of_zero : acc32_value 0 0 ≡ 0
a_count_of_zero = refl

thousandths : scale_value 0xFFFD ≡ negsuc 2
thousandths = refl

no_scale_counts_as_zero : scale_value 0x8000 ≡ pos 0
no_scale_counts_as_zero = refl

-- Examples of values decoded from registers, for each point type.

minus_one : value_of Int16 (0xFFFF ∷ []) ≡ Signed (negsuc 0)
minus_one = refl

no_count : value_of Acc32 (0 ∷ 0 ∷ []) ≡ Absent
no_count = refl

a_million : value_of Acc32 (0x000F ∷ 0x4240 ∷ []) ≡ Unsigned 1000000
a_million = refl

no_bits : value_of Bitfield32 (0x8000 ∷ 0 ∷ []) ≡ Absent
no_bits = refl

bits : value_of Bitfield32 (0x7FFF ∷ 1 ∷ []) ≡ Bits 0x7FFF0001
bits = refl

-- Examples of how the program prints SunSpec points with texts or bit fields.

up_to_the_zero : shown_text (0x4142 ∷ 0x0043 ∷ []) ≡ codes "AB"
up_to_the_zero = refl

a_line_feed : shown_text (0x410A ∷ []) ≡ codes "A\\x0A"
a_line_feed = refl

eight_hex_digits : point_text (Bits 0xAB) (pos 0) ≡ codes "0x000000ab"
eight_hex_digits = refl
