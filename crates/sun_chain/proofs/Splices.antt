-- Lemmas: after elements of a list were overwritten or appended, a lookup inside the changed part
-- returns the new element. Any other lookup returns the same element as before.
use Rattle.std.proofs.Common.{◌≡◌, ℕ, ◌+◌, ◌-◌, ◌<◌, ◌≤◌, Bool, true, false, nat_le, nat_lt, if◌then◌else◌, Option, Some, None, List, ◌++◌, length, get_or, take, drop, replicate, arith, refl, ◌∙◌, sym, ap, ⊎_elim}
use Rattle.std.proofs.lemmas.List.{get_or_append_left, get_or-append_right, get_or_past, get_or-replicate, length-replicate}
use Rattle.std.proofs.lemmas.Bool.{cases_lt, lt-leb, le-ltb, le-leb, lt-ltb}
use Rattle.std.proofs.lemmas.Grind.{elements}
use Rattle.sun_chain.specs.Image.{add_words}

pub get_or-splice_below : {X : Type 0} (s n : ℕ) (xs ys : List X) (k : ℕ) (d : X) → s ≤ length xs → k < s →
    get_or (take s xs ++ (ys ++ drop n (drop s xs))) k d ≡ get_or xs k d
get_or-splice_below s n xs ys k d fits below = grind (arith, elements)

pub get_or-splice_within : {X : Type 0} (s n : ℕ) (xs ys : List X) (k : ℕ) (d : X) → s ≤ length xs → s ≤ k → k < s + length ys →
    get_or (take s xs ++ (ys ++ drop n (drop s xs))) k d ≡ get_or ys (k - s) d
get_or-splice_within s n xs ys k d fits from before = grind (arith, elements)

pub get_or-splice_above : {X : Type 0} (s n : ℕ) (xs ys : List X) (k : ℕ) (d : X) → s + n ≤ length xs → length ys ≡ n → s + n ≤ k →
    get_or (take s xs ++ (ys ++ drop n (drop s xs))) k d ≡ get_or xs k d
get_or-splice_above s n xs ys k d fits size above = grind (arith, elements)

-- If copies of a default value are appended to a list, every lookup with that default value has the
-- same result as before.
pub get_or-padded : {X : Type 0} (n : ℕ) (xs : List X) (k : ℕ) (d : X) → get_or (xs ++ replicate n d) k d ≡ get_or xs k d
get_or-padded n xs k d =
    ⊎_elim
    (λ (inside : k < length xs). get_or_append_left xs (replicate n d) d k inside)
    (λ (past : length xs ≤ k).
    ⊎_elim
    (λ (in_pad : k - length xs < n).
    get_or-append_right xs (replicate n d) (length xs) k d refl past ∙ get_or-replicate n (k - length xs) d d in_pad ∙ sym (get_or_past xs k d past))
    (λ (following : n ≤ k - length xs).
    get_or-append_right xs (replicate n d) (length xs) k d refl past
    ∙ get_or_past (replicate n d) (k - length xs) d (rw (length-replicate n d) following)
    ∙ sym (get_or_past xs k d past))
    (cases_lt (k - length xs) n))
    (cases_lt k (length xs))

-- The word at an address of a memory image (the words read from a device), or `None` if the word
-- was not read.
abbrev pub cell : List Bool → List ℕ → ℕ → Option ℕ
cell read words at = if get_or read at false then Some (get_or words at 0) else None

pub cell-splice : (read : List Bool) (words new : List ℕ) (s n : ℕ) (marks : List Bool) (copied : List ℕ) (at : ℕ) →
    s + n ≤ length read → length read ≤ length words → length new ≡ n → copied ≡ new → marks ≡ replicate n true →
    cell (take s read ++ (marks ++ drop n (drop s read))) (take s words ++ (copied ++ drop n (drop s words))) at ≡ add_words (cell read words) s new at
cell-splice read words new s n marks copied at fits sized size copies marked =
    let copied_size : length copied ≡ n = ap length copies ∙ size in
    let marks_size : length marks ≡ n = ap length marked ∙ length-replicate n true in
    let start : s ≤ length read = omega arith in
    let start_too : s ≤ length words = omega arith in
    let following : s + length new ≡ s + n = ap (λ (m : ℕ). s + m) size in
    ⊎_elim
    (λ (below : at < s).
    rw (get_or-splice_below s n read marks at false start below, get_or-splice_below s n words copied at 0 start_too below, lt-leb s at below) refl)
    (λ (from : s ≤ at).
    ⊎_elim
    (λ (before : at < s + n).
    let mark : get_or marks (at - s) false ≡ true = rw marked (get_or-replicate n (at - s) true false (omega arith)) in
    let inside : nat_le s at ≡ true = le-leb s at from in
    let before_end : nat_lt at (s + n) ≡ true = lt-ltb at (s + n) before in
    rw (get_or-splice_within s n read marks at false start from (omega arith), get_or-splice_within s n words copied at 0 start_too from (omega arith), mark, copies, following) (rw (inside, before_end) refl))
    (λ (above : s + n ≤ at).
    let inside : nat_le s at ≡ true = le-leb s at from in
    let after_end : nat_lt at (s + n) ≡ false = le-ltb at (s + n) above in
    rw (get_or-splice_above s n read marks at false fits marks_size above, get_or-splice_above s n words copied at 0 (omega arith) copied_size above, following) (rw (inside, after_end) refl))
    (cases_lt at (s + n)))
    (cases_lt at s)

pub cell-padded : (n m : ℕ) (read : List Bool) (words : List ℕ) (at : ℕ) →
    cell (read ++ replicate n false) (words ++ replicate m 0) at ≡ cell read words at
cell-padded n m read words at = rw (get_or-padded n read at false, get_or-padded m words at 0) refl
