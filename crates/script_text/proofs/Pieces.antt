-- Lemmas: if words spell the name of a device and bytes in hexadecimal, then parsing these words
-- returns at least one byte.
use Rattle.std.proofs.Common.{◌≡◌, inl, inr, ℕ, ◌<◌, ◌&&◌, true, List, [], ◌∷◌, Some, None, Option, refl, sym, ap, ◌∙◌, arith}
use Rattle.std.specs.Prelude.{nat_le, length, IsSome, Result, Ok, Err}
use Rattle.std.specs.Result.{result_ok}
use Rattle.hex.specs.Hex.{decode_of}
use Rattle.hex.specs.declared.error.FromHexError.{FromHexError}
use Rattle.hex.proofs.HexLemmas.{decode_of-ok}
use Rattle.script_text.specs.LineWords.Fields.{AnyName, Hex, first_value, end_of_words, ◌>>=◌}
use Rattle.script_text.specs.LineReader.{SaysPiece, device_bytes_said, made}
use Rattle.script_text.specs.LineWords.Values.{bytes_of}
use Rattle.script_text.proofs.Chosen.{chosen, same}
use Rattle.script_text.proofs.Made.{made_again, spelled_made}

-- If decoding a hexadecimal word succeeds with some bytes, then the decoder's result is `Ok` with
-- the same bytes.
decoded : (r : Result (List ℕ) FromHexError) (bytes : List ℕ) → result_ok r ≡ Some bytes → r ≡ Ok bytes
decoded (Ok read) bytes h = ap Ok (same read bytes h)
decoded (Err e) bytes h = cc h

no_hex : (hex : List ℕ) → bytes_of hex ≡ Some [] → ⊥
no_hex hex h =
    elim (chosen (nat_le 1 (length hex) && nat_le (length hex) 131072) (result_ok (decode_of hex)) None [] h) [
      | inl here ↦
          let ok = decode_of-ok hex [] (decoded (decode_of hex) [] here.1) in
          let empty : length hex ≡ 0 = ok.2 in
          let t : (nat_le 1 0 && nat_le 0 131072) ≡ true = rw empty at here.0 in
          cc t
      | inr none ↦ cc none
    ]

some_bytes : (hex : List ℕ) (o : Option (List ℕ)) → bytes_of hex ≡ o → IsSome o → (bytes : List ℕ) × (bytes_of hex ≡ Some bytes) × (0 < length bytes)
some_bytes hex None is h = cc h
some_bytes hex (Some []) is h = absurd (no_hex hex is)
some_bytes hex (Some (byte ∷ bytes)) is h = (byte ∷ bytes, is, omega arith)

abbrev Pair : Type 0
Pair = Option (List ℕ) × List ℕ

abbrev piece_after : Option (List ℕ) → List (List ℕ) → Option Pair
piece_after device words = made {X = Pair} (Hex ∷ []) (λ values. (device, values.0)) words

abbrev piece_alone : List (List ℕ) → Option (List ℕ)
piece_alone words = made {X = List ℕ} (Hex ∷ []) (λ values. values.0) words

abbrev with_device : Option (List ℕ) → List ℕ → Pair
with_device device piece = (device, piece)

only_piece : (device : Option (List ℕ)) (hex bytes : List ℕ) → bytes_of hex ≡ Some bytes → piece_after device (hex ∷ []) ≡ Some (with_device device bytes)
only_piece device hex bytes h =
    let alone : piece_alone (hex ∷ []) ≡ Some bytes = spelled_made {X = List ℕ} (Hex ∷ []) (λ values. values.0) (bytes, tt) (hex ∷ []) (h, tt) in
    made_again {X = List ℕ} {Y = Pair} (Hex ∷ []) (λ values. values.0) (with_device device) (hex ∷ []) bytes alone

pub piece_said : (words following rest : List (List ℕ)) (device : Option (List ℕ)) (hex : List ℕ) → Some (device, following) ≡ first_value AnyName words
    → following ≡ hex ∷ rest → Some tt ≡ end_of_words rest → IsSome (bytes_of hex) → SaysPiece (device_bytes_said words)
piece_said words following (word ∷ rest) device hex first next none some = cc none
piece_said words following [] device hex first next none some =
    let bytes = some_bytes hex (bytes_of hex) refl some in
    let said : device_bytes_said words ≡ piece_after device following =
    ap (λ (o : Option (Option (List ℕ) × List (List ℕ))). o >>= (λ first. piece_after first.0 first.1)) (sym first) in
    let here : piece_after device following ≡ piece_after device (hex ∷ []) = ap (λ (following : List (List ℕ)). piece_after device following) next in
    (device, bytes.0, said ∙ here ∙ only_piece device hex bytes.0 bytes.1, bytes.2)
