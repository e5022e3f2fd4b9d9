-- Defines a memory image: the words that were read from a device, by address.
use Rattle.std.specs.Prelude.{ℕ, zero, suc, ◌+◌, ◌-◌, false, ◌&&◌, nat_le, nat_lt, if◌then◌else◌, List, [], ◌∷◌, length, slice_index, slice_index_or, Some, None, option_map, option_and_then}
use Rattle.std.specs.declared.option.Option.{Option}
use Rattle.sun_chain.specs.declared.image.Image.{Image}

-- A function from each address to the word that was read there, or to `None` if the word was not
-- read.
abbrev pub Words : Type 0
Words = ℕ → Option ℕ

-- The words of an `Image` (a memory image of a device), by address.
abbrev pub word_in : Image → Words
word_in image address =
    if slice_index_or image.read.items address false
    then Some (slice_index image.words.items address)
    else None

-- The words of a memory image (the words read from a device) after new words were written at
-- consecutive addresses from the given address.
abbrev pub add_words : Words → ℕ → List ℕ → Words
add_words word address words at =
    if nat_le address at && nat_lt at (address + length words)
    then Some (slice_index words (at - address)) else word at

-- The given number of words of a memory image from an address on, or `None` unless all of them were
-- read from the device.
unfoldable pub words_in : Words → ℕ → ℕ → Option (List ℕ)
words_in word address zero = Some []
words_in word address (suc count) =
    option_and_then (λ first. option_map (λ rest. first ∷ rest) (words_in word (address + 1) count))
    (word address)
