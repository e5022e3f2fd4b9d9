-- Defines the count in the registers of a meter's counter, and the power of ten in the register of
-- its scale factor. Each reading of a meter uses both.
use Rattle.std.specs.Prelude.{ℕ, ℤ, pos, ◌+◌, ◌*◌, ◌==◌, if◌then◌else◌}
use Rattle.std.specs.Int.{w16, cast_signed}

-- The count in the two registers of an acc32, high word first. A count of 0 is valid for a reading.
abbrev pub acc32_value : (high low : ℕ) → ℕ
acc32_value high low = high * 65536 + low

-- The signed power of ten in a sunssf register. The value 0x8000 ("not implemented") has the power
-- 0.
abbrev pub scale_value : (word : ℕ) → ℤ
scale_value word = if word == 0x8000 then pos 0 else cast_signed w16 word
