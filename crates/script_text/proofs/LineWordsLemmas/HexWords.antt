-- Lemmas: the hexadecimal decoder accepts exactly the words that consist of pairs of hexadecimal
-- digits.
use Rattle.std.proofs.Common.{◌≡◌, ℕ, ◌≤◌, Option, ◌%◌, ◌&&◌, Bool, true, false, List, length, None, refl, sym, ◌∙◌, arith}
use Rattle.std.specs.Prelude.{if◌then◌else◌, nat_le, IsSome, Result, Ok, Err}
use Rattle.std.specs.List.{list_all}
use Rattle.std.specs.Result.{result_ok}
use Rattle.std.proofs.lemmas.List.Sums.{AllPass-from_list_all, list_all-from_AllPass}
use Rattle.std.proofs.lemmas.Grind.{common_steps}
use Rattle.hex.specs.Hex.{decode_of, is_hex_digit}
use Rattle.hex.specs.declared.error.FromHexError.{FromHexError}
use Rattle.script_text.specs.LineWords.Values.{bytes_of, is_paired}
use Rattle.hex.proofs.HexLemmas.{decode_of-digits, decode_of-ok}

paired : (word : List ℕ) → length word % 2 ≡ 0 → list_all is_hex_digit word ≡ true → is_paired word ≡ true
paired word even digits = rw (even, digits) refl

none_of : (word : List ℕ) (r : Result (List ℕ) FromHexError) → decode_of word ≡ r → is_paired word ≡ false → result_ok r ≡ None
none_of word (Err e) is h = refl
none_of word (Ok bytes) is h =
    let ok = decode_of-ok word bytes is in
    cc (sym h ∙ paired word ok.0 (list_all-from_AllPass is_hex_digit word ok.1))

not_decoded : (word : List ℕ) → is_paired word ≡ false → result_ok (decode_of word) ≡ None
not_decoded word h = none_of word (decode_of word) refl h

is_decoded : (word : List ℕ) → is_paired word ≡ true → (bytes : List ℕ) × (decode_of word ≡ Ok bytes)
is_decoded word h =
    let even : length word % 2 ≡ 0 = grind (arith, common_steps) in
    let digits : list_all is_hex_digit word ≡ true = grind (arith, common_steps) in
    decode_of-digits word even (AllPass-from_list_all is_hex_digit word digits)

neither : {X : Type 0} (b : Bool) (o : Option X) → o ≡ None → (if b then o else None) ≡ None
neither true o h = h
neither false o h = refl

pub no_bytes : (word : List ℕ) → is_paired word ≡ false → bytes_of word ≡ None
no_bytes word h = neither (nat_le 1 (length word) && nat_le (length word) 131072) (result_ok (decode_of word)) (not_decoded word h)

pub hex_spells : (word : List ℕ) → 1 ≤ length word → length word ≤ 131072 → is_paired word ≡ true → IsSome (bytes_of word)
hex_spells word some few h =
    let read = is_decoded word h in
    let low : nat_le 1 (length word) ≡ true = grind (arith, common_steps) in
    let high : nat_le (length word) 131072 ≡ true = grind (arith, common_steps) in
    rw (low, high, read.1) refl
