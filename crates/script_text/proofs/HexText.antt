-- Lemmas: the hex text of bytes can be written in pieces of a few bytes each.
use Rattle.std.proofs.Common.{◌≡◌, ◌/◌, ◌%◌, ℕ, List, [], ◌∷◌, ◌++◌, Option, take, drop, refl, sym, ap, ◌∙◌, append_assoc, append-nil, take-append-drop}
use Rattle.std.specs.Prelude.{slice_index, IsErr, IsOk, OnOk, Ok, Err}
use Rattle.std.specs.declared.result.Result.{Result}
use Rattle.std.specs.Io.KnownBytes.{Appends}
use Rattle.std.proofs.KnownBytes.{Appends-nil}
use Rattle.hex.specs.Hex.{encode_lower, encode_with, lower_digits}
use Rattle.sun_points.specs.Writing.{GotPart, GotText}
use Rattle.script_text.proofs.Got.{appends_both, appends_this, got_first, part_after}

-- The hex text of two concatenated byte strings is the concatenation of their hex texts.
pub encode_lower-append : (xs ys : List ℕ) → encode_lower (xs ++ ys) ≡ encode_lower xs ++ encode_lower ys
unfolding encode_with
encode_lower-append [] ys = refl
encode_lower-append (x ∷ xs) ys =
    ap (λ (more : List ℕ). slice_index lower_digits (x / 16) ∷ slice_index lower_digits (x % 16) ∷ more) (encode_lower-append xs ys)

-- If a writer received nothing, it received the hex text of the empty byte string.
pub none_got : (a : Option (List ℕ)) → Appends a a (encode_lower [])
unfolding encode_with
none_got a = Appends-nil a

-- Moving the first `n` unwritten bytes to the end of the written bytes does not change the
-- concatenation of the written and the unwritten bytes.
pub cut_off : (bytes done rest piece after : List ℕ) (n : ℕ) → bytes ≡ done ++ rest → piece ≡ take n rest → after ≡ drop n rest → bytes ≡ (done ++ piece) ++ after
cut_off bytes done rest piece after n split front back =
    split ∙ ap (λ (l : List ℕ). done ++ l) (sym (take-append-drop n rest)) ∙ ap (λ (l : List ℕ). done ++ (l ++ drop n rest)) (sym front)
    ∙ ap (λ (l : List ℕ). done ++ (piece ++ l)) (sym back) ∙ sym (append_assoc done piece after)

-- If a writer received the hex text of some bytes and then that of the next bytes, the writer
-- received the hex text of both.
pub piece_got : (a b c : Option (List ℕ)) (done piece : List ℕ) → Appends a b (encode_lower done) → Appends b c (encode_lower piece)
    → Appends a c (encode_lower (done ++ piece))
piece_got a b c done piece first second =
    appends_both a b c (encode_lower done) (encode_lower piece) (encode_lower (done ++ piece)) first second (sym (encode_lower-append done piece))

-- If a hex text is written in pieces and the write of one piece failed, the writer received a
-- beginning of the complete hex text.
pub piece_failed : {X E : Type 0} (result : Result X E) (a b c : Option (List ℕ)) (bytes done piece after : List ℕ) → IsErr result → bytes ≡ (done ++ piece) ++ after
    → Appends a b (encode_lower done) → GotPart (encode_lower piece) b c → GotText result (encode_lower bytes) a c
piece_failed result a b c bytes done piece after failed is first second =
    got_first result a c (encode_lower done ++ encode_lower piece) (encode_lower after) (encode_lower bytes) failed
    (part_after a b c (encode_lower done) (encode_lower piece) (encode_lower done ++ encode_lower piece) first second refl)
    (ap (λ (front : List ℕ). front ++ encode_lower after) (sym (encode_lower-append done piece)) ∙ sym (encode_lower-append (done ++ piece) after)
    ∙ ap encode_lower (sym is))

-- If a writer received the hex text of the bytes written so far, and no bytes are left, it received
-- the complete hex text.
pub all_got : (a b : Option (List ℕ)) (bytes done rest : List ℕ) → bytes ≡ done ++ rest → rest ≡ [] → Appends a b (encode_lower done) → Appends a b (encode_lower bytes)
all_got a b bytes done rest split none got =
    appends_this a b (encode_lower done) (encode_lower bytes)
    (ap encode_lower (sym (append-nil done)) ∙ ap (λ (l : List ℕ). encode_lower (done ++ l)) (sym none) ∙ ap encode_lower (sym split)) got

-- If the result of a function is `Ok`, then the condition that the function's contract states for
-- `Ok` is true.
pub filled : {X E : Type 0} (result : Result X E) (P : Type 0) → IsOk result → OnOk result P → P
filled (Ok done) P ok so = so
filled (Err error) P ok so = cc ok
