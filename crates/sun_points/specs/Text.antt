-- Defines texts in registers and their printed form.
use Rattle.std.specs.Prelude.{ℕ, ◌/◌, ◌%◌, true, ◌&&◌, ◌==◌, nat_le, if◌then◌else◌, List, [], ◌∷◌, ◌++◌, take, codes}
use Rattle.std.specs.Int.{w16, to_be_bytes}
use Rattle.std.specs.List.{flat_map, before_first}
use Rattle.std.specs.Fmt.{digit_glyph}

-- The bytes of a list of registers, two bytes each, high byte first.
abbrev pub bytes_of : List ℕ → List ℕ
bytes_of words = flat_map (to_be_bytes w16) words

-- The bytes of the text in a list of registers. The text ends before its first zero byte.
abbrev pub text_bytes : List ℕ → List ℕ
text_bytes words = before_first (λ b. b == 0) (bytes_of words)

-- The printed form of a byte: printable ASCII is unchanged, and any other byte becomes `\x` and two
-- upper-case hex digits.
abbrev pub shown_byte : ℕ → List ℕ
shown_byte b =
    if nat_le 0x20 b && nat_le b 0x7E then b ∷ []
    else codes "\\x" ++ digit_glyph true (b / 16) ∷ digit_glyph true (b % 16) ∷ []

-- The printed form of the text in a list of registers. It ends after 125 registers, the limit of
-- one Modbus read.
abbrev pub shown_text : List ℕ → List ℕ
shown_text words = flat_map shown_byte (text_bytes (take 125 words))
