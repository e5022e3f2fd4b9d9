-- Lemmas: a scan over the received bytes finds the end of a request head.
use Rattle.std.proofs.Common.{◌≡◌, ◌≢◌, ◌∙◌, ℕ, ◌+◌, ◌-◌, ◌<◌, ◌≤◌, Bool, true, false, List, [], ◌∷◌, ◌++◌, length, get_or, take, drop, refl, sym, ap, arith, length-drop}
use Rattle.std.specs.Prelude.{slice_range}
use Rattle.std.specs.List.{list_any}
use Rattle.std.proofs.lemmas.Bool.{cond-true, cond-false, eq-eqb, ne_eqb}
use Rattle.std.proofs.lemmas.List.{take_more, drop_more, get_or-drop, drop_all}
use Rattle.office_http.specs.Messages.Head.Lines.{ended_lines, is_empty_line, is_ended}

-- True if the lines that a scan has not read yet contain the empty line that ends a request head.
-- The first argument is true if the scan already found a nonempty line. Until then, empty lines
-- don't end the head.
abbrev pub ends_after : Bool → List (List ℕ) → Bool
ends_after true lines = list_any is_empty_line lines
ends_after false lines = is_ended lines

slice_more : (bytes : List ℕ) (start i : ℕ) → start ≤ i → i < length bytes → slice_range bytes start (i + 1) ≡ slice_range bytes start i ++ get_or bytes i 0 ∷ []
slice_more bytes start i le lt =
    let n : (i + 1) - start ≡ (i - start) + 1 = omega arith in
    let inside : i - start < length (drop start bytes) = omega (arith, length-drop start bytes) in
    let at : start + (i - start) ≡ i = omega arith in
    ap (λ m. take m (drop start bytes)) n
    ∙ take_more (drop start bytes) (i - start) 0 inside
    ∙ ap (λ b. take (i - start) (drop start bytes) ++ b ∷ []) (get_or-drop start bytes (i - start) 0 ∙ ap (λ m. get_or bytes m 0) at)

pub step_text : (bytes : List ℕ) (start i : ℕ) → start ≤ i → i < length bytes → get_or bytes i 0 ≢ 10
    → ended_lines (slice_range bytes start i) (drop i bytes) ≡ ended_lines (slice_range bytes start (i + 1)) (drop (i + 1) bytes)
step_text bytes start i le lt ne =
    ap (ended_lines (slice_range bytes start i)) (drop_more bytes i 0 lt)
    ∙ cond-false _ _ _ (ne_eqb _ _ ne)
    ∙ ap (λ l. ended_lines l (drop (i + 1) bytes)) (sym (slice_more bytes start i le lt))

nothing : (bytes : List ℕ) (i : ℕ) → slice_range bytes (i + 1) (i + 1) ≡ []
nothing bytes i = let none : (i + 1) - (i + 1) ≡ 0 = omega arith in ap (λ m. take m (drop (i + 1) bytes)) none

pub step_feed : (bytes : List ℕ) (start i : ℕ) → i < length bytes → get_or bytes i 0 ≡ 10
    → ended_lines (slice_range bytes start i) (drop i bytes) ≡ slice_range bytes start i ∷ ended_lines (slice_range bytes (i + 1) (i + 1)) (drop (i + 1) bytes)
step_feed bytes start i lt is =
    ap (ended_lines (slice_range bytes start i)) (drop_more bytes i 0 lt)
    ∙ cond-true _ _ _ (eq-eqb _ _ is)
    ∙ ap (λ l. slice_range bytes start i ∷ ended_lines l (drop (i + 1) bytes)) (sym (nothing bytes i))

-- An empty line after a nonempty line ends the scan for a request head. After any other line the
-- scan continues.
pub found : (line : List ℕ) (lines : List (List ℕ)) → is_empty_line line ≡ true → ends_after true (line ∷ lines) ≡ true
found line lines e = rw e refl

pub after_empty : (line : List ℕ) (lines : List (List ℕ)) → is_empty_line line ≡ true → ends_after false (line ∷ lines) ≡ ends_after false lines
after_empty line lines e = rw e refl

pub after_text : (seen : Bool) (line : List ℕ) (lines : List (List ℕ)) → is_empty_line line ≡ false → ends_after seen (line ∷ lines) ≡ ends_after true lines
after_text true line lines e = rw e refl
after_text false line lines e = rw e refl

-- After the last received byte, the scan finds no end of a request head.
pub no_more : (seen : Bool) (line bytes : List ℕ) (i : ℕ) → length bytes ≤ i → ends_after seen (ended_lines line (drop i bytes)) ≡ false
no_more true line bytes i le = ap (λ b. list_any is_empty_line (ended_lines line b)) (drop_all i bytes le)
no_more false line bytes i le = ap (λ b. is_ended (ended_lines line b)) (drop_all i bytes le)

-- A byte other than a line feed extends the current line, and the scan for the end of a request
-- head continues.
pub text_on : (seen : Bool) (bytes : List ℕ) (start i : ℕ) → start ≤ i → i < length bytes → get_or bytes i 0 ≢ 10
    → ends_after seen (ended_lines (slice_range bytes start i) (drop i bytes)) ≡ ends_after seen (ended_lines (slice_range bytes start (i + 1)) (drop (i + 1) bytes))
text_on seen bytes start i le lt ne = ap (ends_after seen) (step_text bytes start i le lt ne)

-- A line feed after an empty line, before any nonempty line, does not end the scan for a request
-- head.
pub feed_empty : (bytes : List ℕ) (start i : ℕ) → i < length bytes → get_or bytes i 0 ≡ 10 → is_empty_line (slice_range bytes start i) ≡ true
    → ends_after false (ended_lines (slice_range bytes start i) (drop i bytes)) ≡ ends_after false (ended_lines (slice_range bytes (i + 1) (i + 1)) (drop (i + 1) bytes))
feed_empty bytes start i lt is empty = ap (ends_after false) (step_feed bytes start i lt is) ∙ after_empty (slice_range bytes start i) (ended_lines (slice_range bytes (i + 1) (i + 1)) (drop (i + 1) bytes)) empty

-- A line feed after a nonempty line does not end the scan for a request head.
pub feed_text : (seen : Bool) (bytes : List ℕ) (start i : ℕ) → i < length bytes → get_or bytes i 0 ≡ 10 → is_empty_line (slice_range bytes start i) ≡ false
    → ends_after seen (ended_lines (slice_range bytes start i) (drop i bytes)) ≡ ends_after true (ended_lines (slice_range bytes (i + 1) (i + 1)) (drop (i + 1) bytes))
feed_text seen bytes start i lt is full = ap (ends_after seen) (step_feed bytes start i lt is) ∙ after_text seen (slice_range bytes start i) (ended_lines (slice_range bytes (i + 1) (i + 1)) (drop (i + 1) bytes)) full

-- A line feed after an empty line that follows a nonempty line ends the request head.
pub feed_found : (bytes : List ℕ) (start i : ℕ) → i < length bytes → get_or bytes i 0 ≡ 10 → is_empty_line (slice_range bytes start i) ≡ true
    → ends_after true (ended_lines (slice_range bytes start i) (drop i bytes)) ≡ true
feed_found bytes start i lt is empty = ap (ends_after true) (step_feed bytes start i lt is) ∙ found (slice_range bytes start i) (ended_lines (slice_range bytes (i + 1) (i + 1)) (drop (i + 1) bytes)) empty
