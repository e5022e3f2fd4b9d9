-- Defines SunSpec scale factors: powers of ten in sunssf registers.
use Rattle.std.specs.Prelude.{ℕ, ℤ, pos, negsuc, Bool, ◌&&◌, ◌==◌, int_le, if◌then◌else◌, Some, None}
use Rattle.std.specs.Int.{w16, cast_signed}
use Rattle.std.specs.declared.option.Option.{Option}

-- True if the number is from -10 to 10, the exponents that SunSpec allows for a scale factor.
abbrev pub is_exponent : ℤ → Bool
is_exponent z = int_le (negsuc 9) z && int_le z (pos 10)

-- The scale factor in a sunssf register. It is the register's value from -10 to 10, or 0 for the
-- value 0x8000 ("not implemented"). Any other value gives `None`.
abbrev pub scale_of : ℕ → Option ℤ
scale_of word =
    if word == 0x8000 then Some (pos 0)
    else if is_exponent (cast_signed w16 word) then Some (cast_signed w16 word)
    else None
