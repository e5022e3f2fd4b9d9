-- Lemmas about the function `words_in`, which reads consecutive words of a memory image (the words
-- read from a device). It returns the words, or `None` if one of them was not read.
use Rattle.std.proofs.Common.{◌≡◌, ℕ, zero, suc, ◌+◌, ◌<◌, ◌≤◌, Bool, true, false, ◌&&◌, Option, Some, None, List, [], ◌∷◌, length, get_or, take, drop, arith, refl, sym, ◌∙◌, ap, add-one, drop-cons, option_map, option_and_then, true≢false}
use Rattle.std.proofs.lemmas.List.{get_or_past}
use Rattle.std.specs.List.{list_all}
use Rattle.sun_chain.specs.Image.{Words, words_in}
use Rattle.sun_chain.proofs.Splices.{cell}

abbrev pub all_read : List Bool → ℕ → ℕ → Bool
all_read read start count = list_all (λ mark. mark) (take count (drop start read))

first_read : (read : List Bool) (start count : ℕ) → start < length read →
    all_read read start (suc count) ≡ get_or read start false && all_read read (start + 1) count
first_read read start count inside = rw (drop-cons read start false, add-one) refl

pub and-left : (a b : Bool) → a && b ≡ true → a ≡ true
and-left true b both = refl
and-left false b both = both

pub and-right : (a b : Bool) → a && b ≡ true → b ≡ true
and-right true b both = both
and-right false b both = absurd (true≢false (sym both))

nothing_after : (found : Option ℕ) → option_and_then (λ first. option_map (λ (rest : List ℕ). first ∷ rest) None) found ≡ None
nothing_after None = refl
nothing_after (Some word) = refl

-- The words from an address on, if all were read, are the word at this address, followed by the
-- words from the next address on.
words_in-suc : (word : Words) (start count : ℕ) → words_in word start (suc count) ≡ option_and_then (λ first. option_map (λ rest. first ∷ rest) (words_in word (start + 1) count)) (word start)
unfolding words_in
words_in-suc word start count = refl

words_in-zero : (word : Words) (start : ℕ) → words_in word start 0 ≡ Some []
unfolding words_in
words_in-zero word start = refl

-- If all words of a range of addresses were read, `words_in` returns these words.
pub words_in-read : (read : List Bool) (words : List ℕ) (start count : ℕ) → start + count ≤ length read → length read ≤ length words →
    all_read read start count ≡ true → words_in (cell read words) start count ≡ Some (take count (drop start words))
words_in-read read words start zero fits sized all = words_in-zero (cell read words) start
words_in-read read words start (suc count) fits sized all =
    let both : get_or read start false && all_read read (start + 1) count ≡ true = sym (first_read read start count (omega arith)) ∙ all in
    let one : get_or read start false ≡ true = and-left (get_or read start false) (all_read read (start + 1) count) both in
    let others : all_read read (start + 1) count ≡ true = and-right (get_or read start false) (all_read read (start + 1) count) both in
    let following : words_in (cell read words) (start + 1) count ≡ Some (take count (drop (start + 1) words)) =
    words_in-read read words (start + 1) count (omega arith) sized others in
    let inside : start < length words = omega arith in
    let unfolded : option_and_then (λ first. option_map (λ (rest : List ℕ). first ∷ rest) (words_in (cell read words) (start + 1) count)) (cell read words start)
    ≡ Some (get_or words start 0 ∷ take count (drop (start + 1) words)) = rw (one, following) refl in
    let whole : take (suc count) (drop start words) ≡ get_or words start 0 ∷ take count (drop (start + 1) words) = rw (drop-cons words start 0, add-one) refl in
    words_in-suc (cell read words) start count ∙ unfolded ∙ sym (ap (λ (rest : List ℕ). Some rest) whole)

-- If a word of a range of addresses was not read, `words_in` returns `None`.
pub words_in-unread : (read : List Bool) (words : List ℕ) (start count : ℕ) → start + count ≤ length read →
    all_read read start count ≡ false → words_in (cell read words) start count ≡ None
words_in-unread read words start zero fits some = absurd (true≢false some)
words_in-unread read words start (suc count) fits some =
    let both : get_or read start false && all_read read (start + 1) count ≡ false = sym (first_read read start count (omega arith)) ∙ some in
    let tests : (one : Bool) → get_or read start false ≡ one → words_in (cell read words) start (suc count) ≡ None =
    λ one. elim one as (λ (b : Bool). get_or read start false ≡ b → words_in (cell read words) start (suc count) ≡ None) [
      | true ↦ λ is. words_in-suc (cell read words) start count
          ∙ rw (is, words_in-unread read words (start + 1) count (omega arith) (rw is at both)) refl
      | false ↦ λ is. words_in-suc (cell read words) start count ∙ rw is refl
    ] in
    tests (get_or read start false) refl

-- A memory image has the register words that were read from a device. If a range of addresses
-- extends past the image's last word, `words_in`, which returns the words of a range, returns
-- `None`.
pub words_in-past : (read : List Bool) (words : List ℕ) (start count : ℕ) → 0 < count → length read < start + count →
    words_in (cell read words) start count ≡ None
words_in-past read words start zero many past = absurd (omega arith)
words_in-past read words start (suc zero) many past =
    words_in-suc (cell read words) start 0 ∙ rw (get_or_past read start false (omega arith)) refl
words_in-past read words start (suc (suc count)) many past =
    words_in-suc (cell read words) start (suc count)
    ∙ rw (words_in-past read words (start + 1) (suc count) (omega arith) (omega arith)) (nothing_after (cell read words start))
