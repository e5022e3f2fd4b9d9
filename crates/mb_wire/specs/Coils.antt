-- Coils in bytes, eight to a byte (Modbus Application Protocol V1.1b3, section 6.1). The lowest bit
-- of the first byte is the first coil. The spare bits of the last byte are not coils.
use Rattle.std.specs.Prelude.{ℕ, zero, suc, ◌+◌, ◌-◌, ◌*◌, ◌/◌, ◌%◌, ◌^◌, ◌==◌, min, Bool, if◌then◌else◌, List, [], ◌∷◌, ◌++◌, length, take, drop}

-- The lowest bits of a number, as many as the first argument, the lowest bit first.
unfoldable pub bits_in : ℕ → ℕ → List Bool
bits_in zero n = []
bits_in (suc k) n = (n % 2 == 1) ∷ bits_in k (n / 2)

-- The number whose binary digits are these bits, the lowest bit first.
abbrev pub number_of : List Bool → ℕ
number_of [] = 0
number_of (bit ∷ bits) = (if bit then 1 else 0) + 2 * number_of bits

-- All bits of a byte list as coils, the lowest bit of the first byte first.
unfoldable pub coils_in : List ℕ → List Bool
coils_in [] = []
coils_in (byte ∷ bytes) = bits_in 8 byte ++ coils_in bytes

-- The first `quantity` coils that a byte list encodes.
abbrev pub coils_of : ℕ → List ℕ → List Bool
coils_of quantity bytes = take quantity (coils_in bytes)

-- The number of bytes that `quantity` coils need.
abbrev pub bytes_for : ℕ → ℕ
bytes_for quantity = (quantity + 7) / 8

-- A list of `count` bytes that encode the coils, with spare bits (unused bits of the last coil
-- byte) set to 0.
unfoldable pub packed_in : ℕ → List Bool → List ℕ
packed_in zero coils = []
packed_in (suc count) coils = number_of (take 8 coils) ∷ packed_in count (drop 8 coils)

-- The bytes that encode a list of coils, with spare bits (unused bits of the last coil byte) set to
-- 0.
abbrev pub packed : List Bool → List ℕ
packed coils = packed_in (bytes_for (length coils)) coils

-- The bytes with every bit after the first `quantity` coils set to 0.
unfoldable pub cleared_after : ℕ → List ℕ → List ℕ
cleared_after quantity [] = []
cleared_after quantity (byte ∷ bytes) =
    byte % 2 ^ min quantity 8 ∷ cleared_after (quantity - 8) bytes
