-- Defines the encoding of 16-bit numbers as bytes, high byte first (Modbus Application Protocol
-- V1.1b3, section 4.2).
use Rattle.std.specs.Prelude.{ℕ, ◌+◌, ◌*◌, ◌/◌, ◌%◌, ◌<◌, List, [], ◌∷◌, ◌++◌, slice_index}

-- The two bytes of a 16-bit number, high byte first.
abbrev pub word : ℕ → List ℕ
word n = n / 256 ∷ n % 256 ∷ []

-- The 16-bit number in the two bytes from an index on, high byte first.
abbrev pub number_at : List ℕ → ℕ → ℕ
number_at bytes place = 256 * slice_index bytes place + slice_index bytes (place + 1)

-- The 16-bit numbers that a byte list encodes, two bytes each, high byte first.
abbrev pub words_of : List ℕ → List ℕ
words_of [] = []
words_of (high ∷ []) = []
words_of (high ∷ low ∷ bytes) = (256 * high + low) ∷ words_of bytes

-- The bytes that encode a list of 16-bit numbers, two bytes each, high byte first.
abbrev pub word_bytes : List ℕ → List ℕ
word_bytes [] = []
word_bytes (n ∷ numbers) = word n ++ word_bytes numbers

-- True if each number of the list is below 256, as bytes are.
abbrev pub AreBytes : List ℕ → Type 0
AreBytes bytes = (place : ℕ) → slice_index bytes place < 256
