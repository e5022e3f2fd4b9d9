-- Lemmas: the bytes that a reader returned in several calls are its complete input, and the bytes
-- that a writer accepted in several calls are the complete text.
use Rattle.std.proofs.Common.{◌≡◌, ◌≤◌, ◌-◌, ℕ, List, [], ◌++◌, length, take, drop, Option, None, Some, IfSome, Result, Ok, Err, sym, ap, ◌∙◌, subst, append_assoc, append-nil, arith, take-append-drop}
use Rattle.std.specs.Io.KnownBytes.{Appends, Consumes, IsAtEnd, Keeps}
use Rattle.std.proofs.KnownBytes.{Appends-trans, Consumes-all, Consumes-trans}
use Rattle.std.proofs.lemmas.List.{take-take, length-take, take_rest}
use Rattle.sun_points.specs.Writing.{GotPart, GotText}

-- Bytes that a write accepts from the first `end` bytes of a buffer are a prefix of all buffered
-- bytes.
pub front_of : (end filled : ℕ) (buffered : List ℕ) (n : ℕ) → end ≤ filled → end ≤ length buffered → n ≤ length (take end buffered)
    → (old new : Option (List ℕ)) → Appends old new (take n (take end buffered)) → Appends old new (take n (take filled buffered))
front_of end filled buffered n within long few old new written =
    let short : n ≤ end = omega (arith, length-take end buffered) in
    let same : take n (take end buffered) ≡ take n (take filled buffered) =
    take-take n end buffered short ∙ sym (take-take n filled buffered (omega arith)) in
    rw same at written

-- If a reader returned the bytes `whole` and is at its end, `whole` is the complete input.
pub all_read : (a b c : Option (List ℕ)) (whole piece : List ℕ) (n : ℕ) → Consumes a b whole → Consumes b c (take n piece) → n ≡ 0 → IsAtEnd c
    → IfSome a (λ all. whole ≡ all)
all_read a b c whole piece n before last none end =
    let none_given : take n piece ≡ [] = ap (λ k. take k piece) none in
    let nothing : Consumes b c [] = rw none_given at last in
    let both : Consumes a c (whole ++ []) = Consumes-trans a b c whole [] before nothing in
    let joined : whole ++ [] ≡ whole = append-nil whole in
    let consumed : Consumes a c whole = rw joined at both in
    Consumes-all a c whole [] whole consumed end (let e : whole ≡ [] ++ whole = search arith in e)

-- The bytes of a slice from index `n` on: `length bytes - n` bytes after the first `n` bytes. The
-- function `write_rest` passes these bytes to its recursive call.
abbrev rest_from : ℕ → List ℕ → List ℕ
rest_from n bytes = take (length bytes - n) (drop n bytes)

-- If a writer accepted the text `first` and then `next`, it accepted `first` followed by `next`.
both_taken : {X E : Type 0} (result : Result X E) (a b c : Option (List ℕ)) (first next : List ℕ) → Appends a b first → GotText result next b c
    → GotText result (first ++ next) a c
both_taken (Ok done) a b c first next taken more = Appends-trans a b c first next taken more
both_taken (Err error) a b c first next taken more = (
  first ++ more.0,
  more.1,
  ap (λ (t : List ℕ). first ++ t) more.2 ∙ sym (append_assoc first more.0 more.1),
  Appends-trans a b c first more.0 taken more.3,
)

-- If a writer accepted the first `n` bytes of a text and then the text's remaining bytes, it
-- accepted the complete text.
pub some_then_rest : {X E : Type 0} (result : Result X E) (a b c : Option (List ℕ)) (bytes : List ℕ) (n : ℕ) → Appends a b (take n bytes)
    → GotText result (rest_from n bytes) b c → GotText result bytes a c
some_then_rest result a b c bytes n first next =
    let whole : take n bytes ++ rest_from n bytes ≡ bytes = ap (λ (t : List ℕ). take n bytes ++ t) (take_rest bytes n) ∙ take-append-drop n bytes in
    subst (λ (text : List ℕ). GotText result text a c) whole (both_taken result a b c (take n bytes) (rest_from n bytes) first next)

-- If a writer accepted no bytes in one call and a text in the next, it accepted exactly that text.
pub kept_then : (a b c : Option (List ℕ)) (bytes : List ℕ) → Keeps a b → Appends b c bytes → Appends a c bytes
kept_then None b c bytes kept taken = tt
kept_then (Some x) None c bytes kept taken = absurd kept
kept_then (Some x) (Some y) None bytes kept taken = absurd taken
kept_then (Some x) (Some y) (Some z) bytes kept taken = taken ∙ ap (λ (l : List ℕ). l ++ bytes) kept
