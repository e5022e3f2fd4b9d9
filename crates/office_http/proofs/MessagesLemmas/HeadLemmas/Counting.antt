-- Lemmas: a scan over the received bytes counts the lines of a request head.
use Rattle.std.proofs.Common.{◌≡◌, ◌≢◌, ◌∙◌, ℕ, suc, ◌+◌, ◌<◌, ◌≤◌, Bool, true, false, List, ◌∷◌, length, get_or, drop, refl, ap}
use Rattle.std.specs.Prelude.{slice_range}
use Rattle.std.proofs.lemmas.List.{drop_all}
use Rattle.office_http.specs.Messages.Head.Lines.{ended_lines, head_lines, is_empty_line, text_lines}
use Rattle.office_http.proofs.MessagesLemmas.HeadLemmas.Scanning.{step_feed, step_text}

-- The lines of a request head among the lines that a scan has not read yet. The flag is true if the
-- scan already found a nonempty line.
abbrev pub lines_after : Bool → List (List ℕ) → List (List ℕ)
lines_after true lines = text_lines lines
lines_after false lines = head_lines lines

-- The number of lines of a request head that a scan has not read yet. `seen` is true if the scan
-- has already read a nonempty line of the head.
abbrev pub count_after : Bool → List (List ℕ) → ℕ
count_after seen lines = length (lines_after seen lines)

end_here : (line : List ℕ) (lines : List (List ℕ)) → is_empty_line line ≡ true → count_after true (line ∷ lines) ≡ 0
end_here line lines e = rw e refl

skip_empty : (line : List ℕ) (lines : List (List ℕ)) → is_empty_line line ≡ true → count_after false (line ∷ lines) ≡ count_after false lines
skip_empty line lines e = rw e refl

count_text : (seen : Bool) (line : List ℕ) (lines : List (List ℕ)) → is_empty_line line ≡ false → count_after seen (line ∷ lines) ≡ suc (count_after true lines)
count_text true line lines e = rw e refl
count_text false line lines e = rw e refl

-- At the end of the received bytes, no line of the request head is left to count.
pub none_left : (seen : Bool) (line bytes : List ℕ) (i : ℕ) → length bytes ≤ i → count_after seen (ended_lines line (drop i bytes)) ≡ 0
none_left true line bytes i le = ap (λ b. length (text_lines (ended_lines line b))) (drop_all i bytes le)
none_left false line bytes i le = ap (λ b. length (head_lines (ended_lines line b))) (drop_all i bytes le)

-- A byte other than a line feed extends the current line, and leaves the count of the request
-- head's lines unchanged.
pub text_on : (seen : Bool) (bytes : List ℕ) (start i : ℕ) → start ≤ i → i < length bytes → get_or bytes i 0 ≢ 10
    → count_after seen (ended_lines (slice_range bytes start i) (drop i bytes)) ≡ count_after seen (ended_lines (slice_range bytes start (i + 1)) (drop (i + 1) bytes))
text_on seen bytes start i le lt ne = ap (count_after seen) (step_text bytes start i le lt ne)

-- A line feed after an empty line, before any nonempty line, adds no line to the count of the
-- request head's lines.
pub feed_empty : (bytes : List ℕ) (start i : ℕ) → i < length bytes → get_or bytes i 0 ≡ 10 → is_empty_line (slice_range bytes start i) ≡ true
    → count_after false (ended_lines (slice_range bytes start i) (drop i bytes)) ≡ count_after false (ended_lines (slice_range bytes (i + 1) (i + 1)) (drop (i + 1) bytes))
feed_empty bytes start i lt is empty = ap (count_after false) (step_feed bytes start i lt is) ∙ skip_empty (slice_range bytes start i) (ended_lines (slice_range bytes (i + 1) (i + 1)) (drop (i + 1) bytes)) empty

-- A line feed after a nonempty line adds one line to the count of the request head's lines.
pub feed_text : (seen : Bool) (bytes : List ℕ) (start i : ℕ) → i < length bytes → get_or bytes i 0 ≡ 10 → is_empty_line (slice_range bytes start i) ≡ false
    → count_after seen (ended_lines (slice_range bytes start i) (drop i bytes)) ≡ suc (count_after true (ended_lines (slice_range bytes (i + 1) (i + 1)) (drop (i + 1) bytes)))
feed_text seen bytes start i lt is full = ap (count_after seen) (step_feed bytes start i lt is) ∙ count_text seen (slice_range bytes start i) (ended_lines (slice_range bytes (i + 1) (i + 1)) (drop (i + 1) bytes)) full

-- A line feed after an empty line that follows a nonempty line ends the request head.
pub feed_end : (bytes : List ℕ) (start i : ℕ) → i < length bytes → get_or bytes i 0 ≡ 10 → is_empty_line (slice_range bytes start i) ≡ true
    → count_after true (ended_lines (slice_range bytes start i) (drop i bytes)) ≡ 0
feed_end bytes start i lt is empty = ap (count_after true) (step_feed bytes start i lt is) ∙ end_here (slice_range bytes start i) (ended_lines (slice_range bytes (i + 1) (i + 1)) (drop (i + 1) bytes)) empty
