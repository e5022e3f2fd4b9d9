-- Defines digits and the decimal text of `value * 10 ^ scale`.
use Rattle.std.specs.Prelude.{ℕ, zero, suc, ◌*◌, ◌/◌, ◌%◌, ◌^◌, false, ℤ, pos, negsuc, unsigned_abs, if◌then◌else◌, List, [], ◌∷◌, ◌++◌, codes}
use Rattle.std.specs.Int.{is_negative}
use Rattle.std.specs.Fmt.{decimal, digit_glyph}

-- The lowest `k` digits of `n` in a base, the most significant digit first.
abbrev pub low_digits : ℕ → ℕ → ℕ → List ℕ
low_digits base zero n = []
low_digits base (suc k) n = digit_glyph false (n / base ^ k % base) ∷ low_digits base k n

-- The decimal text of `n * 10 ^ scale`. A scale of -k gives k decimal places.
abbrev pub magnitude_text : ℕ → ℤ → List ℕ
magnitude_text n (pos zeros) = decimal (n * 10 ^ zeros)
magnitude_text n (negsuc k) = decimal (n / 10 ^ suc k) ++ codes "." ++ low_digits 10 (suc k) n

-- The sign of a number as text: `-` for a negative number, otherwise the empty text.
abbrev pub sign_text : ℤ → List ℕ
sign_text value = if is_negative value then codes "-" else []

-- The decimal text of `value * 10 ^ scale`, with its sign.
abbrev pub scaled_text : ℤ → ℤ → List ℕ
scaled_text value scale = sign_text value ++ magnitude_text (unsigned_abs value) scale
