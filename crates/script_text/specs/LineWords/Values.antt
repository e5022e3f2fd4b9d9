-- The numbers, bytes, names and scale factors that the words of a script line spell.
use Rattle.std.specs.Prelude.{◌≡◌, ℕ, ℤ, Vec, pos, neg_ℤ, [], ◌∷◌, option_and_then, option_map, ◌%◌, ◌==◌, nat_le, Bool, ◌&&◌, if◌then◌else◌, List, length, Some, None}
use Rattle.std.specs.declared.option.Option.{Option}
use Rattle.std.specs.List.{list_all}
use Rattle.sun_points.specs.Numbers.Digits.{number_of_digits}
use Rattle.std.specs.Result.{result_ok}
use Rattle.office_events.specs.Names.{named}
use Rattle.office_events.specs.declared.commands.GivenScale.{GivenScale}
use Rattle.office_events.specs.declared.commands.GivenScale.TheVariants.{Fixed, Register}
use Rattle.hex.specs.Hex.{decode_of, is_hex_digit}

-- The given number if it is at most 2^63 - 1, the greatest number in scripts. Otherwise `None`.
abbrev pub not_past : ℕ → Option ℕ
not_past number = if nat_le number 9223372036854775807 then Some number else None

-- The number that a word of one to nineteen digits spells, if the number is at most 2^63 - 1.
-- Otherwise `None`.
abbrev pub number_of : List ℕ → Option ℕ
number_of word = option_and_then not_past (number_of_digits 19 word)

-- True if a word consists of pairs of hexadecimal digits, in upper or lower case.
abbrev pub is_paired : List ℕ → Bool
is_paired word = length word % 2 == 0 && list_all is_hex_digit word

-- The bytes that a word of pairs of hexadecimal digits spells, if there are 1 to 65,536 bytes.
-- Otherwise `None`.
abbrev pub bytes_of : List ℕ → Option (List ℕ)
bytes_of word =
    if nat_le 1 (length word) && nat_le (length word) 131072 then result_ok (decode_of word)
    else None

-- States that parsing a hexadecimal word returned the bytes that the word spells, or `None` if the
-- word spells no bytes.
abbrev pub SpellsBytes : {Z : Type 0} → (word : List ℕ) → (found : Option (Vec ℕ Z)) → Type 0
SpellsBytes word found = option_map (λ bytes. bytes.items) found ≡ bytes_of word

-- The name of a device, an accounting register (a named counter) or a meter that a non-empty word
-- spells. The inner value is `None` if the word is not a valid name (1 to 16 ASCII letters, digits,
-- `_` or `-`, with a letter first).
abbrev pub name_of : List ℕ → Option (Option (List ℕ))
name_of [] = None
name_of (byte ∷ bytes) = Some (named (byte ∷ bytes))

-- The integer that is the negative of a natural number.
abbrev pub negative : ℕ → ℤ
negative n = neg_ℤ (pos n)

-- The integer that a word spells: digits, with or without a leading `-`.
abbrev pub signed_of : List ℕ → Option ℤ
signed_of [] = None
signed_of (byte ∷ bytes) =
    if byte == 45 then option_map negative (number_of bytes)
    else option_map pos (number_of (byte ∷ bytes))

-- The scale factor that a word spells: a fixed power of ten, or `@` (64) and the address of the
-- Modbus register with the scale factor.
abbrev pub scale_of : List ℕ → Option GivenScale
scale_of [] = None
scale_of (byte ∷ bytes) =
    if byte == 64 then option_map Register (number_of bytes)
    else option_map Fixed (signed_of (byte ∷ bytes))
