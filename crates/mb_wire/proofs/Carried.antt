-- Lemmas: the data bytes of a write request have the same length after they are decoded and encoded
-- again.
use Rattle.std.proofs.Common.{◌≡◌, ℕ, ◌*◌, List, length, ap, sym, ◌∙◌}
use Rattle.mb_wire.specs.Bytes.{words_of, word_bytes}
use Rattle.mb_wire.specs.Coils.{bytes_for, coils_of, packed}
use Rattle.mb_wire.proofs.Packing.{length-coils_of-whole, length-packed_in}
use Rattle.mb_wire.proofs.Words.{length-word_bytes}

pub count_of_coils : (quantity : ℕ) (bytes : List ℕ) → length bytes ≡ bytes_for quantity → bytes_for (length (coils_of quantity bytes)) ≡ length bytes
count_of_coils quantity bytes h = ap bytes_for (length-coils_of-whole quantity bytes h) ∙ sym h

pub length_of_coils : (quantity : ℕ) (bytes : List ℕ) → length bytes ≡ bytes_for quantity → length (packed (coils_of quantity bytes)) ≡ length bytes
length_of_coils quantity bytes h =
    length-packed_in (bytes_for (length (coils_of quantity bytes))) (coils_of quantity bytes) ∙ count_of_coils quantity bytes h

pub length_of_words : (bytes : List ℕ) → length bytes ≡ 2 * length (words_of bytes) → length (word_bytes (words_of bytes)) ≡ length bytes
length_of_words bytes h = length-word_bytes (words_of bytes) ∙ sym h
