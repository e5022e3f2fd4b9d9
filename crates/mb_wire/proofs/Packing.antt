-- Lemmas: packing coils into bytes and unpacking them are inverse, except that spare bits (unused
-- bits of the last coil byte) are set to 0.
use Rattle.std.proofs.Common.{◌≡◌, ℕ, zero, suc, ◌+◌, ◌-◌, ◌*◌, ◌/◌, ◌%◌, ◌^◌, ◌<◌, ◌≤◌, ◌==◌, min, ◌⊎◌, inl, inr, Bool, true, false, if◌then◌else◌, List, [], ◌∷◌, ◌++◌, length, take, drop, slice_index, slice_get, Some, None, refl, sym, ap, ◌∙◌, arith, length-append, length-take-le, length-drop}
use Rattle.std.proofs.Math.Nat.{min-eq_left, min-eq_right, div-div-eq-div-mul, pow-succ'}
use Rattle.std.proofs.Math.Seq.{take-append-add, drop-append-add}
use Rattle.std.proofs.lemmas.Bool.{cases_lt}
use Rattle.std.proofs.lemmas.List.{take-append-le, drop_all, take_all, take-append-drop, length-take, take-take, drop-take, nil_from_length}
use Rattle.std.proofs.lemmas.Nat.{mod-pow-add}
use Rattle.mb_wire.specs.Bytes.{AreBytes}
use Rattle.mb_wire.specs.Coils.{bits_in, number_of, coils_in, coils_of, bytes_for, packed_in, packed, cleared_after}

pub length-bits_in : (k n : ℕ) → length (bits_in k n) ≡ k
unfolding bits_in
length-bits_in zero n = refl
length-bits_in (suc k) n = ap suc (length-bits_in k (n / 2))

-- The first `j` of the `k` lowest bits of a number are its `j` lowest bits, if `j` is at most `k`.
pub take-bits_in : (j k n : ℕ) → j ≤ k → take j (bits_in k n) ≡ bits_in j n
unfolding bits_in
take-bits_in zero k n h = refl
take-bits_in (suc j) zero n h = absurd (omega arith)
take-bits_in (suc j) (suc k) n h = ap (λ bits. (n % 2 == 1) ∷ bits) (take-bits_in j k (n / 2) (omega arith))

bit_value : (n : ℕ) → (if n % 2 == 1 then 1 else 0) ≡ n % 2
bit_value n = grind arith

pub number_of-bits_in : (k n : ℕ) → number_of (bits_in k n) ≡ n % 2 ^ k
unfolding bits_in
number_of-bits_in zero n = omega arith
number_of-bits_in (suc k) n =
    let more : number_of (bits_in k (n / 2)) ≡ n / 2 % 2 ^ k = number_of-bits_in k (n / 2) in
    let split : n % 2 ^ (k + 1) ≡ (n / 2 ^ 1 % 2 ^ k) * 2 ^ 1 + n % 2 ^ 1 = mod-pow-add n k 1 in
    let bit = bit_value n in
    let next : k + 1 ≡ suc k = omega arith in
    let whole : n % 2 ^ suc k ≡ n % 2 ^ (k + 1) = ap (λ m. n % 2 ^ m) (sym next) in
    omega arith

value_of_bit : Bool → ℕ
value_of_bit bit = if bit then 1 else 0

odd : (bit : Bool) (n : ℕ) → (((if bit then 1 else 0) + 2 * n) % 2 == 1) ≡ bit
odd true n = let e : (1 + 2 * n) % 2 ≡ 1 = omega arith in ap (λ m. m == 1) e
odd false n = let e : (0 + 2 * n) % 2 ≡ 0 = omega arith in ap (λ m. m == 1) e

half : (bit : Bool) (n : ℕ) → ((if bit then 1 else 0) + 2 * n) / 2 ≡ n
half true n = omega arith
half false n = omega arith

-- A list of bits equals the lowest bits of the number that it encodes.
pub bits_in-number_of : (bits : List Bool) (k : ℕ) → length bits ≤ k → take (length bits) (bits_in k (number_of bits)) ≡ bits
unfolding bits_in
bits_in-number_of [] k h = refl
bits_in-number_of (bit ∷ bits) zero h = absurd (omega arith)
bits_in-number_of (bit ∷ bits) (suc k) h =
    ap (λ n. (((if bit then 1 else 0) + 2 * number_of bits) % 2 == 1) ∷ take (length bits) (bits_in k n)) (half bit (number_of bits))
    ∙ ap (λ rest. (((if bit then 1 else 0) + 2 * number_of bits) % 2 == 1) ∷ rest) (bits_in-number_of bits k (omega arith))
    ∙ ap (λ first. first ∷ bits) (odd bit (number_of bits))

pub length-coils_in : (bytes : List ℕ) → length (coils_in bytes) ≡ 8 * length bytes
unfolding coils_in
length-coils_in [] = refl
length-coils_in (byte ∷ bytes) =
    let here = length-bits_in 8 byte in
    let rest = length-coils_in bytes in
    let both = length-append (bits_in 8 byte) (coils_in bytes) in
    omega arith

pub length-coils_of : (quantity : ℕ) (bytes : List ℕ) → length (coils_of quantity bytes) ≡ min quantity (8 * length bytes)
length-coils_of quantity bytes = length-take quantity (coils_in bytes) ∙ ap (min quantity) (length-coils_in bytes)

-- If a byte list has as many bytes as `quantity` coils need, then it encodes `quantity` coils.
pub length-coils_of-whole : (quantity : ℕ) (bytes : List ℕ) → length bytes ≡ bytes_for quantity → length (coils_of quantity bytes) ≡ quantity
length-coils_of-whole quantity bytes h =
    let few : quantity ≤ 8 * length bytes = omega arith in
    length-coils_of quantity bytes ∙ min-eq_left few

first_coils : (quantity byte : ℕ) (bytes : List ℕ) → take 8 (coils_of quantity (byte ∷ bytes)) ≡ bits_in (min quantity 8) byte
unfolding coils_in
first_coils quantity byte bytes =
    let long : length (bits_in 8 byte) ≡ 8 = length-bits_in 8 byte in
    let whole = bits_in 8 byte ++ coils_in bytes in
    elim (cases_lt quantity 8) [
      | inl few ↦
          let front : take quantity whole ≡ take quantity (bits_in 8 byte) = take-append-le quantity (bits_in 8 byte) (coils_in bytes) (omega arith) in
          let short : length (bits_in quantity byte) ≡ quantity = length-bits_in quantity byte in
          ap (take 8) (front ∙ take-bits_in quantity 8 byte (omega arith))
          ∙ take_all 8 (bits_in quantity byte) (omega arith)
          ∙ ap (λ n. bits_in n byte) (sym (min-eq_left (omega arith)))
      | inr many ↦
          take-take 8 quantity whole many
          ∙ take-append-le 8 (bits_in 8 byte) (coils_in bytes) (omega arith)
          ∙ take_all 8 (bits_in 8 byte) (omega arith)
          ∙ ap (λ n. bits_in n byte) (sym (min-eq_right many))
    ]

other_coils : (quantity byte : ℕ) (bytes : List ℕ) → drop 8 (coils_of quantity (byte ∷ bytes)) ≡ coils_of (quantity - 8) bytes
unfolding coils_in
other_coils quantity byte bytes =
    let long : length (bits_in 8 byte) ≡ 8 = length-bits_in 8 byte in
    let whole = bits_in 8 byte ++ coils_in bytes in
    elim (cases_lt quantity 8) [
      | inl few ↦
          let none : quantity - 8 ≡ 0 = omega arith in
          let cut : length (take quantity whole) ≡ min quantity (length whole) = length-take quantity whole in
          drop_all 8 (take quantity whole) (omega arith) ∙ sym (ap (λ n. take n (coils_in bytes)) none)
      | inr many ↦
          let sum : 8 + (quantity - 8) ≡ quantity = omega arith in
          let back : drop (length (bits_in 8 byte) + 0) whole ≡ drop 0 (coils_in bytes) = drop-append-add (bits_in 8 byte) (coils_in bytes) 0 in
          let eight : length (bits_in 8 byte) + 0 ≡ 8 = omega arith in
          ap (λ n. drop 8 (take n whole)) (sym sum)
          ∙ drop-take 8 (quantity - 8) whole
          ∙ ap (λ n. take (quantity - 8) (drop n whole)) (sym eight)
          ∙ ap (take (quantity - 8)) back
    ]

-- Unpacking `quantity` coils from a byte list and packing them again sets all other bits to 0.
pub packed_in-coils_of : (bytes : List ℕ) (quantity : ℕ) → packed_in (length bytes) (coils_of quantity bytes) ≡ cleared_after quantity bytes
unfolding packed_in cleared_after
packed_in-coils_of [] quantity = refl
packed_in-coils_of (byte ∷ bytes) quantity =
    ap (λ bits. number_of bits ∷ packed_in (length bytes) (drop 8 (coils_of quantity (byte ∷ bytes)))) (first_coils quantity byte bytes)
    ∙ ap (λ n. n ∷ packed_in (length bytes) (drop 8 (coils_of quantity (byte ∷ bytes)))) (number_of-bits_in (min quantity 8) byte)
    ∙ ap (λ coils. byte % 2 ^ min quantity 8 ∷ packed_in (length bytes) coils) (other_coils quantity byte bytes)
    ∙ ap (λ rest. byte % 2 ^ min quantity 8 ∷ rest) (packed_in-coils_of bytes (quantity - 8))

pub packed-coils_of : (quantity : ℕ) (bytes : List ℕ) → length bytes ≡ bytes_for quantity → packed (coils_of quantity bytes) ≡ cleared_after quantity bytes
packed-coils_of quantity bytes h =
    let long = length-coils_of-whole quantity bytes h in
    ap (λ n. packed_in n (coils_of quantity bytes)) (ap bytes_for long ∙ sym h) ∙ packed_in-coils_of bytes quantity

pub length-cleared_after : (quantity : ℕ) (bytes : List ℕ) → length (cleared_after quantity bytes) ≡ length bytes
unfolding cleared_after
length-cleared_after quantity [] = refl
length-cleared_after quantity (byte ∷ bytes) = ap suc (length-cleared_after (quantity - 8) bytes)

pub length-packed_in : (count : ℕ) (coils : List Bool) → length (packed_in count coils) ≡ count
unfolding packed_in
length-packed_in zero coils = refl
length-packed_in (suc count) coils = ap suc (length-packed_in count (drop 8 coils))

-- Clearing the spare bits of a byte list changes nothing if all bits of the list are coils.
pub cleared_after-whole : (bytes : List ℕ) → AreBytes bytes → cleared_after (8 * length bytes) bytes ≡ bytes
unfolding cleared_after
cleared_after-whole [] h = refl
cleared_after-whole (byte ∷ bytes) h =
    let small : byte < 256 = h 0 in
    let eight : min (8 * length (byte ∷ bytes)) 8 ≡ 8 = min-eq_right (omega arith) in
    let keep : byte % 256 ≡ byte = omega arith in
    let rest : 8 * length (byte ∷ bytes) - 8 ≡ 8 * length bytes = omega arith in
    ap (λ n. byte % 2 ^ n ∷ cleared_after (8 * length (byte ∷ bytes) - 8) bytes) eight
    ∙ ap (λ n. byte % 256 ∷ cleared_after n bytes) rest
    ∙ ap (λ n. n ∷ cleared_after (8 * length bytes) bytes) keep
    ∙ ap (λ xs. byte ∷ xs) (cleared_after-whole bytes (λ place. h (suc place)))

-- If the last byte of a byte list has spare bits (bits after the last coil), then clearing them
-- changes only this byte.
pub cleared_after-part : (whole : ℕ) (part : ℕ) (bytes : List ℕ) → AreBytes bytes → part < 8 → length bytes ≡ whole + 1 → cleared_after (8 * whole + part) bytes ≡ take whole bytes ++ (slice_index bytes whole % 2 ^ part) ∷ []
unfolding cleared_after
cleared_after-part whole part [] h small e = absurd (omega arith)
cleared_after-part zero part (byte ∷ []) h small e =
    let least : min (8 * 0 + part) 8 ≡ part = ap (λ n. min n 8) (omega arith) ∙ min-eq_left (omega arith) in
    ap (λ n. byte % 2 ^ n ∷ []) least
cleared_after-part zero part (byte ∷ next ∷ bytes) h small e = absurd (omega arith)
cleared_after-part (suc whole) part (byte ∷ bytes) h small e =
    let fits : byte < 256 = h 0 in
    let eight : min (8 * suc whole + part) 8 ≡ 8 = min-eq_right (omega arith) in
    let keep : byte % 256 ≡ byte = omega arith in
    let rest : 8 * suc whole + part - 8 ≡ 8 * whole + part = omega arith in
    ap (λ n. byte % 2 ^ n ∷ cleared_after (8 * suc whole + part - 8) bytes) eight
    ∙ ap (λ n. byte % 256 ∷ cleared_after n bytes) rest
    ∙ ap (λ n. n ∷ cleared_after (8 * whole + part) bytes) keep
    ∙ ap (λ xs. byte ∷ xs) (cleared_after-part whole part bytes (λ place. h (suc place)) small (omega arith))

-- Unpacking packed coils returns the same coils.
pub coils_in-packed_in : (count : ℕ) (coils : List Bool) → length coils ≤ 8 * count → take (length coils) (coils_in (packed_in count coils)) ≡ coils
unfolding packed_in coils_in
coils_in-packed_in zero coils h =
    let none : coils ≡ [] = nil_from_length coils (omega arith) in
    ap (λ xs. take (length xs) []) none ∙ sym none
coils_in-packed_in (suc count) coils h =
    let first = bits_in 8 (number_of (take 8 coils)) in
    let others = coils_in (packed_in count (drop 8 coils)) in
    let long : length first ≡ 8 = length-bits_in 8 (number_of (take 8 coils)) in
    elim (cases_lt (length coils) 8) [
      | inl few ↦
          let all : take 8 coils ≡ coils = take_all 8 coils (omega arith) in
          take-append-le (length coils) first others (omega arith)
          ∙ ap (λ xs. take (length coils) (bits_in 8 (number_of xs))) all
          ∙ bits_in-number_of coils 8 (omega arith)
      | inr many ↦
          let eight : length (take 8 coils) ≡ 8 = length-take-le 8 coils many in
          let left : length (drop 8 coils) ≡ length coils - 8 = length-drop 8 coils in
          let sum : length coils ≡ length first + length (drop 8 coils) = omega arith in
          let here : first ≡ take 8 coils =
          sym (take_all 8 first (omega arith)) ∙ ap (λ n. take n first) (sym eight) ∙ bits_in-number_of (take 8 coils) 8 (omega arith) in
          ap (λ n. take n (first ++ others)) sum
          ∙ take-append-add first others (length (drop 8 coils))
          ∙ ap (λ xs. first ++ xs) (coils_in-packed_in count (drop 8 coils) (omega arith))
          ∙ ap (λ xs. xs ++ drop 8 coils) here
          ∙ take-append-drop 8 coils
    ]

pub coils_of-packed : (coils : List Bool) → coils ≡ coils_of (length coils) (packed coils)
coils_of-packed coils = sym (coils_in-packed_in (bytes_for (length coils)) coils (omega arith))

-- If the quantity of coils is a multiple of 8, the data bytes have no spare bits to clear.
pub cleared_after-even : (quantity : ℕ) (bytes : List ℕ) → AreBytes bytes → length bytes ≡ bytes_for quantity → quantity % 8 ≡ 0 → take (quantity / 8) bytes ≡ cleared_after quantity bytes
cleared_after-even quantity bytes h e even =
    let whole : quantity / 8 ≡ length bytes = omega arith in
    let all : 8 * length bytes ≡ quantity = omega arith in
    take_all (quantity / 8) bytes (omega arith) ∙ sym (cleared_after-whole bytes h) ∙ ap (λ n. cleared_after n bytes) all

pub cleared_after-odd : (quantity : ℕ) (bytes : List ℕ) → AreBytes bytes → length bytes ≡ bytes_for quantity → (quantity % 8 ≡ 0 → ⊥) → take (quantity / 8) bytes ++ (slice_index bytes (quantity / 8) % 2 ^ (quantity % 8)) ∷ [] ≡ cleared_after quantity bytes
cleared_after-odd quantity bytes h e some =
    let whole : 8 * (quantity / 8) + quantity % 8 ≡ quantity = omega arith in
    sym (cleared_after-part (quantity / 8) (quantity % 8) bytes h (omega arith) (omega arith)) ∙ ap (λ n. cleared_after n bytes) whole

-- Bit `i` of the number `n` is `n / 2 ^ i % 2`.
bit_in_number : (k n i : ℕ) → i < k → slice_get (bits_in k n) i ≡ Some (n / 2 ^ i % 2 == 1)
unfolding bits_in
bit_in_number zero n i h = absurd (omega arith)
bit_in_number (suc k) n zero h = let e : n / 1 ≡ n = omega arith in ap (λ m. Some (m % 2 == 1)) (sym e)
bit_in_number (suc k) n (suc i) h =
    let more = bit_in_number k (n / 2) i (omega arith) in
    let two : n / 2 / 2 ^ i ≡ n / (2 * 2 ^ i) = div-div-eq-div-mul n 2 (2 ^ i) in
    let power : 2 ^ suc i ≡ 2 * 2 ^ i = pow-succ' 2 i in
    more ∙ ap (λ m. Some (m % 2 == 1)) (two ∙ ap (λ m. n / m) (sym power))

get-append_left : (xs ys : List Bool) (i : ℕ) → i < length xs → slice_get (xs ++ ys) i ≡ slice_get xs i
get-append_left [] ys i h = absurd (omega arith)
get-append_left (x ∷ xs) ys zero h = refl
get-append_left (x ∷ xs) ys (suc i) h = get-append_left xs ys i (omega arith)

get-append_right : (xs ys : List Bool) (i : ℕ) → slice_get (xs ++ ys) (length xs + i) ≡ slice_get ys i
get-append_right [] ys i = ap (slice_get ys) (omega arith)
get-append_right (x ∷ xs) ys i =
    let e : length (x ∷ xs) + i ≡ suc (length xs + i) = omega arith in
    ap (slice_get (x ∷ (xs ++ ys))) e ∙ get-append_right xs ys i

get-take : (n : ℕ) (xs : List Bool) (i : ℕ) → i < n → slice_get (take n xs) i ≡ slice_get xs i
get-take zero xs i h = absurd (omega arith)
get-take (suc n) [] i h = refl
get-take (suc n) (x ∷ xs) zero h = refl
get-take (suc n) (x ∷ xs) (suc i) h = get-take n xs i (omega arith)

get_past : (xs : List Bool) (i : ℕ) → length xs ≤ i → slice_get xs i ≡ None
get_past [] i h = refl
get_past (x ∷ xs) zero h = absurd (omega arith)
get_past (x ∷ xs) (suc i) h = get_past xs i (omega arith)

coil_in : (bytes : List ℕ) (i : ℕ) → i / 8 < length bytes → slice_get (coils_in bytes) i ≡ Some (slice_index bytes (i / 8) / 2 ^ (i % 8) % 2 == 1)
unfolding coils_in
coil_in [] i h = absurd (omega arith)
coil_in (byte ∷ bytes) i h =
    let long : length (bits_in 8 byte) ≡ 8 = length-bits_in 8 byte in
    elim (cases_lt i 8) [
      | inl here ↦
          let row : i / 8 ≡ 0 = omega arith in
          let column : i % 8 ≡ i = omega arith in
          get-append_left (bits_in 8 byte) (coils_in bytes) i (omega arith)
          ∙ bit_in_number 8 byte i here
          ∙ ap (λ m. Some (byte / 2 ^ m % 2 == 1)) (sym column)
          ∙ ap (λ m. Some (slice_index (byte ∷ bytes) m / 2 ^ (i % 8) % 2 == 1)) (sym row)
      | inr later ↦
          let sum : i ≡ length (bits_in 8 byte) + (i - 8) = omega arith in
          let row : suc ((i - 8) / 8) ≡ i / 8 = omega arith in
          let column : (i - 8) % 8 ≡ i % 8 = omega arith in
          ap (slice_get (bits_in 8 byte ++ coils_in bytes)) sum
          ∙ get-append_right (bits_in 8 byte) (coils_in bytes) (i - 8)
          ∙ coil_in bytes (i - 8) (omega arith)
          ∙ ap (λ m. Some (slice_index bytes ((i - 8) / 8) / 2 ^ m % 2 == 1)) column
          ∙ ap (λ m. Some (slice_index (byte ∷ bytes) m / 2 ^ (i % 8) % 2 == 1)) row
    ]

-- Coil `i` of the first `quantity` coils is bit `i % 8` of byte `i / 8`.
pub some_coil : (quantity : ℕ) (bytes : List ℕ) (i : ℕ) → i < quantity → i / 8 < length bytes → slice_get (coils_of quantity bytes) i ≡ Some (slice_index bytes (i / 8) / 2 ^ (i % 8) % 2 == 1)
some_coil quantity bytes i few row = get-take quantity (coils_in bytes) i few ∙ coil_in bytes i row

pub no_coil : (quantity : ℕ) (bytes : List ℕ) (i : ℕ) → (quantity ≤ i) ⊎ (length bytes ≤ i / 8) → slice_get (coils_of quantity bytes) i ≡ None
no_coil quantity bytes i past =
    let long : length (coils_of quantity bytes) ≡ min quantity (8 * length bytes) = length-coils_of quantity bytes in
    get_past (coils_of quantity bytes) i (elim past [ inl over ↦ omega arith | inr row ↦ omega arith ])
