-- Lemmas that printing the text in SunSpec registers byte by byte yields the printed form of the
-- complete text.
use Rattle.std.proofs.Common.{◌≡◌, ℕ, ◌+◌, ◌<◌, ◌==◌, List, ◌∷◌, ◌++◌, length, get_or, drop, refl, sym, ◌∙◌, ap, append_assoc, one-add, add-one, drop-cons}
use Rattle.std.proofs.lemmas.Bool.{ne_eqb}
use Rattle.std.specs.Int.{w16, to_be_bytes}
use Rattle.std.specs.List.{flat_map, before_first}
use Rattle.sun_points.specs.Text.{shown_byte, bytes_of}

abbrev pub shown_bytes : List ℕ → List ℕ
shown_bytes bytes = flat_map shown_byte (before_first (λ b. b == 0) bytes)

-- The loop invariant of printing the text in a list of Modbus registers. The printed form of all
-- registers is the form printed until now followed by that of the remaining registers.
abbrev pub ShownUpTo : List ℕ → List ℕ → List ℕ → Type 0
ShownUpTo shown words left = shown_bytes (bytes_of words) ≡ shown ++ shown_bytes (bytes_of left)

pub shown_bytes-other : (b : ℕ) (bytes : List ℕ) → (b ≡ 0 → ⊥) → shown_bytes (b ∷ bytes) ≡ shown_byte b ++ shown_bytes bytes
shown_bytes-other b bytes other = rw (ne_eqb b 0 other, one-add) refl

-- The bytes of the registers from index `i` begin with the two bytes of register `i`.
pub bytes_of-drop : (words : List ℕ) (i : ℕ) {bytes : List ℕ} → i < length words → bytes ≡ to_be_bytes w16 (get_or words i 0) →
    bytes_of (drop i words) ≡ get_or bytes 0 0 ∷ get_or bytes 1 0 ∷ bytes_of (drop (i + 1) words)
bytes_of-drop words i in_range bytes_are = rw (bytes_are, drop-cons words i 0, add-one) refl

pub one_word_more : (shown middle later words left next : List ℕ) (high low : ℕ) → bytes_of left ≡ high ∷ low ∷ bytes_of next →
    (high ≡ 0 → ⊥) → (low ≡ 0 → ⊥) → ShownUpTo shown words left → middle ≡ shown ++ shown_byte high → later ≡ middle ++ shown_byte low →
    ShownUpTo later words next
one_word_more shown middle later words left next high low split high_other low_other so_far first second =
    let both : shown_bytes (bytes_of left) ≡ shown_byte high ++ (shown_byte low ++ shown_bytes (bytes_of next)) =
    ap shown_bytes split
    ∙ shown_bytes-other high (low ∷ bytes_of next) high_other
    ∙ ap (λ (end : List ℕ). shown_byte high ++ end) (shown_bytes-other low (bytes_of next) low_other) in
    rw (second, first)
    (so_far ∙ ap (λ (end : List ℕ). shown ++ end) both
    ∙ sym (append_assoc shown (shown_byte high) (shown_byte low ++ shown_bytes (bytes_of next)))
    ∙ sym (append_assoc (shown ++ shown_byte high) (shown_byte low) (shown_bytes (bytes_of next))))
