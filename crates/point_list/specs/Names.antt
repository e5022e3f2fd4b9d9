-- Defines the valid names of points in a point list.
use Rattle.std.specs.Prelude.{ℕ, Bool, false, ◌==◌, nat_le, ◌&&◌, ◌||◌, List, [], ◌∷◌, length}
use Rattle.std.specs.Char.{is_ascii_alphabetic, is_ascii_alphanumeric}
use Rattle.std.specs.List.{list_all}

-- True if the byte is an ASCII letter, a digit, `_` or `.`.
abbrev pub is_name_byte : ℕ → Bool
is_name_byte byte = is_ascii_alphanumeric byte || byte == 95 || byte == 46

-- True if the bytes are a valid point name: 1 to 32 letters, digits, `_` and `.`, with a letter
-- first.
abbrev pub is_name : List ℕ → Bool
is_name [] = false
is_name (first ∷ rest) =
    is_ascii_alphabetic first && nat_le (length rest) 31 && list_all is_name_byte rest
