-- Lemmas: splitting a text at the first or last byte that satisfies a predicate yields the text
-- before this byte and the text after it.
use Rattle.std.proofs.Common.{◌≡◌, ◌≢◌, ◌∙◌, ◌+◌, ◌-◌, ◌<◌, ◌≤◌, [], ap, sym, ℕ, Bool, List, Option, Some, None, length, take, drop, get_or, not, true, false, arith, length-drop}
use Rattle.std.specs.Borrow.{Bor}
use Rattle.std.specs.Prelude.{MatchOption, ◌==◌}
use Rattle.std.specs.List.{after_first, after_last, before_first, before_last, position_or_len, suffix_len}
use Rattle.std.specs.Str.{NoCharPasses}
use Rattle.std.specs.Str.Pattern.{RFindsChar, SplitsAroundMatch}
use Rattle.std.proofs.Math.ListN.{drop_of_length-le}
use Rattle.std.proofs.Math.Seq.{take-length}
use Rattle.std.proofs.lemmas.List.{get_or-drop}
use Rattle.std.proofs.lemmas.Bool.Decides.{nat_tests}
use Rattle.std.proofs.lemmas.Str.{len_utf8_ascii}
use Rattle.std.proofs.lemmas.Str.Pattern.{IsSplitOnceResult, NoCharPasses-char, split_once_first}
use Rattle.std.proofs.lemmas.List.Sums.{suffix_len_is}

-- A text is split at the first byte that satisfies a predicate. If no byte satisfies it, then the
-- part before the split is the complete text, and the part after it is empty.
first_none : (p : ℕ → Bool) (bs : List ℕ) → position_or_len p bs ≡ length bs → (before_first p bs ≡ bs) × (after_first p bs ≡ [])
first_none p bs e = (ap (λ n. take n bs) e ∙ take-length bs, ap (λ n. drop (n + 1) bs) e ∙ drop_of_length-le bs (omega arith))

pub first_cut : (c : ℕ) (bs : List ℕ) (r : Option (Bor (List ℕ) × Bor (List ℕ))) → IsSplitOnceResult c bs r → c < 128
    → MatchOption r ((before_first (λ b. b == c) bs ≡ bs) × (after_first (λ b. b == c) bs ≡ []))
    (λ x. (x.0.now ≡ before_first (λ b. b == c) bs) × (x.1.now ≡ after_first (λ b. b == c) bs))
first_cut c bs None cut low = first_none (λ b. b == c) bs (split_once_first c bs None cut low)
first_cut c bs (Some x) cut low =
    let h = split_once_first c bs (Some x) cut low in (h.1, h.2)

-- Suppose that byte `j - 1` of a text satisfies a predicate, and no later byte does. Then the
-- longest suffix without bytes that satisfy the predicate begins at byte `j`.
pub last_at : (p : ℕ → Bool) (bs : List ℕ) (j : ℕ) → j ≤ length bs → ((k : ℕ) → j ≤ k → k < length bs → p (get_or bs k 0) ≡ false)
    → (0 < j → p (get_or bs (j - 1) 0) ≡ true) → suffix_len (λ x. not (p x)) bs ≡ length bs - j
last_at p bs j within rest at = suffix_len_is (λ x. not (p x)) bs j 0 within (λ k low high. ap not (rest k low high)) (λ some. ap not (at some))

differs : (a b : ℕ) → a ≢ b → (a == b) ≡ false
differs a b h = grind (arith, nat_tests)

agrees : (a b : ℕ) → a ≡ b → (a == b) ≡ true
agrees a b h = grind (arith, nat_tests)

none_after : (c : ℕ) (bs : List ℕ) (j k : ℕ) → c < 128 → NoCharPasses (λ d. d == c) (drop j bs) → j ≤ k → k < length bs → (get_or bs k 0 == c) ≡ false
none_after c bs j k low free from to =
    let tail : length (drop j bs) ≡ length bs - j = length-drop j bs in
    let inside : k - j < length (drop j bs) = omega arith in
    let place : j + (k - j) ≡ k = omega arith in
    let at : get_or (drop j bs) (k - j) 0 ≡ get_or bs k 0 = get_or-drop j bs (k - j) 0 ∙ ap (λ n. get_or bs n 0) place in
    differs (get_or bs k 0) c (λ e. NoCharPasses-char c (drop j bs) (k - j) free low inside (at ∙ e))

places : (n s i j : ℕ) → s ≡ n - j → j ≤ n → j ≡ i + 1 → (i ≡ n - s - 1) × (j ≡ n - s)
places n s i j size within ends = (omega arith, omega arith)

before_it : (i j : ℕ) → j ≡ i + 1 → i ≡ j - 1
before_it i j ends = omega arith

-- If a text is split at its last byte `c`, then the two parts are the text before this byte and the
-- text after it.
last_found : (c : ℕ) (bs front back : List ℕ) → c < 128 → SplitsAroundMatch (RFindsChar c) bs front back
    → (front ≡ before_last (λ b. b == c) bs) × (back ≡ after_last (λ b. b == c) bs)
last_found c bs front back low cut =
    let ends : cut.1 ≡ cut.0 + 1 = cut.2.1.ends ∙ ap (λ n. cut.0 + n) (len_utf8_ascii c low) in
    let within : cut.1 ≤ length bs = omega (arith, cut.7) in
    let at : (get_or bs (cut.1 - 1) 0 == c) ≡ true =
    agrees _ _ (ap (λ n. get_or bs n 0) (sym (before_it cut.0 cut.1 ends)) ∙ cut.2.1.byte low) in
    let size = last_at (λ b. b == c) bs cut.1 within (λ k from to. none_after c bs cut.1 k low cut.2.0 from to) (λ _. at) in
    let place = places (length bs) _ cut.0 cut.1 size within ends in
    (cut.3 ∙ ap (λ n. take n bs) place.0, cut.4 ∙ ap (λ n. drop n bs) place.1)

no_place : (n s : ℕ) → s ≡ n - 0 → n - s - 1 ≡ 0
no_place n s size = omega arith

last_none : (c : ℕ) (bs : List ℕ) → c < 128 → NoCharPasses (λ d. d == c) bs → before_last (λ b. b == c) bs ≡ []
last_none c bs low free =
    let size = last_at (λ b. b == c) bs 0 (omega arith) (λ k from to. none_after c bs 0 k low free from to) (λ some. absurd (omega (arith, some))) in
    ap (λ n. take n bs) (no_place (length bs) _ size)

pub last_cut : (c : ℕ) (bs : List ℕ) (r : Option (Bor (List ℕ) × Bor (List ℕ))) → c < 128
    → MatchOption r (RFindsChar c bs None) (λ x. SplitsAroundMatch (RFindsChar c) bs x.0.now x.1.now)
    → MatchOption r (before_last (λ b. b == c) bs ≡ [])
    (λ x. (x.0.now ≡ before_last (λ b. b == c) bs) × (x.1.now ≡ after_last (λ b. b == c) bs))
last_cut c bs None low none = last_none c bs low none
last_cut c bs (Some x) low cut = last_found c bs x.0.now x.1.now low cut
