-- Lemmas about registers encoded in bytes: the number of registers, the register at an index, and
-- that decoding and encoding are inverse.
use Rattle.std.proofs.Common.{◌≡◌, ℕ, zero, suc, ◌+◌, ◌*◌, ◌/◌, ◌%◌, ◌<◌, ◌≤◌, List, [], ◌∷◌, length, drop, refl, ap, ◌∙◌, subst, arith, slice_index, slice_get, Some, None}
use Rattle.mb_wire.specs.Bytes.{AreBytes, words_of, word_bytes}

pub some_word : (bytes : List ℕ) (i : ℕ) → 2 * i + 1 < length bytes → slice_get (words_of bytes) i ≡ Some (256 * slice_index (drop (2 * i) bytes) 0 + slice_index (drop (2 * i) bytes) 1)
some_word [] i h = absurd (omega arith)
some_word (high ∷ []) i h = absurd (omega arith)
some_word (high ∷ low ∷ bytes) zero h = refl
some_word (high ∷ low ∷ bytes) (suc i) h =
    let e : suc (suc (2 * i)) ≡ 2 * suc i = omega arith in
    let P : ℕ → Type 0 = λ n. slice_get (words_of bytes) i ≡ Some (256 * slice_index (drop n (high ∷ low ∷ bytes)) 0 + slice_index (drop n (high ∷ low ∷ bytes)) 1) in
    subst P e (some_word bytes i (omega arith))

pub no_word : (bytes : List ℕ) (i : ℕ) → length bytes ≤ 2 * i + 1 → slice_get (words_of bytes) i ≡ None
no_word [] i h = refl
no_word (high ∷ []) i h = refl
no_word (high ∷ low ∷ bytes) zero h = absurd (omega arith)
no_word (high ∷ low ∷ bytes) (suc i) h = no_word bytes i (omega arith)

pub length-words_of : (bytes : List ℕ) → length (words_of bytes) ≡ length bytes / 2
length-words_of [] = refl
length-words_of (high ∷ []) = refl
length-words_of (high ∷ low ∷ bytes) = let more = length-words_of bytes in omega arith

pub length-word_bytes : (numbers : List ℕ) → length (word_bytes numbers) ≡ 2 * length numbers
length-word_bytes [] = refl
length-word_bytes (n ∷ numbers) = let more = length-word_bytes numbers in omega arith

-- If an even number of bytes is decoded into registers, encoding these registers gives the same
-- bytes.
pub word_bytes-words_of : (count : ℕ) (bytes : List ℕ) → AreBytes bytes → length bytes ≡ 2 * count → word_bytes (words_of bytes) ≡ bytes
word_bytes-words_of zero [] h e = refl
word_bytes-words_of (suc count) [] h e = refl
word_bytes-words_of zero (high ∷ []) h e = absurd (omega arith)
word_bytes-words_of (suc count) (high ∷ []) h e = absurd (omega arith)
word_bytes-words_of zero (high ∷ low ∷ bytes) h e = absurd (omega arith)
word_bytes-words_of (suc count) (high ∷ low ∷ bytes) h e =
    let small : low < 256 = h 1 in
    let first : (256 * high + low) / 256 ≡ high = omega arith in
    let second : (256 * high + low) % 256 ≡ low = omega arith in
    ap (λ x. x ∷ (256 * high + low) % 256 ∷ word_bytes (words_of bytes)) first
    ∙ ap (λ x. high ∷ x ∷ word_bytes (words_of bytes)) second
    ∙ ap (λ xs. high ∷ low ∷ xs) (word_bytes-words_of count bytes (λ place. h (suc (suc place))) (omega arith))

pub words_of-word_bytes : (numbers : List ℕ) → words_of (word_bytes numbers) ≡ numbers
words_of-word_bytes [] = refl
words_of-word_bytes (n ∷ numbers) =
    let whole : 256 * (n / 256) + n % 256 ≡ n = omega arith in
    ap (λ x. x ∷ words_of (word_bytes numbers)) whole ∙ ap (λ xs. n ∷ xs) (words_of-word_bytes numbers)
