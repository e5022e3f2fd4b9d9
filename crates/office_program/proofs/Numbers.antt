-- Theorems on polls with consecutive numbers: which of the polls are pending, and how many outcomes
-- are reported for the polls.
use Rattle.std.proofs.Common.{◌≡◌, inl, inr, ℕ, zero, suc, ◌+◌, ◌-◌, ◌<◌, ◌≤◌, ◌==◌, nat_le, ◌&&◌, Bool, true, false, cond, List, [], ◌∷◌, ◌++◌, length, refl, sym, ap, ◌∙◌, arith, append_assoc, append-nil}
use Rattle.std.specs.List.{filter}
use Rattle.std.proofs.lemmas.Bool.{cases_eq, cases_lt, cond-false, cond-true, eq-eqb, le-leb, lt-leb, ne_eqb}
use Rattle.std.proofs.lemmas.List.{length-append}
use Rattle.std.proofs.lemmas.List.Elements.{filter-append, filter_agree}
use Rattle.poll_core.specs.declared.outcome.Outcome.{Outcome}
use Rattle.office_events.specs.declared.answers.Note.{Note}
use Rattle.office_events.specs.declared.answers.Note.TheVariants as note
use Rattle.office_program.specs.DeviceRounds.Polls.{ends}
use Rattle.office_program.specs.Polling.{from_on}
use Rattle.office_program.proofs.Reported.{reported}

pub length_from : (first count : ℕ) → length (from_on first count) ≡ count
length_from first zero = refl
length_from first (suc n) = let more = length_from first n in omega (arith, length-append (from_on first n) ((first + n) ∷ []), more)

pub from_both : (first m n : ℕ) → from_on first (m + n) ≡ from_on first m ++ from_on (first + m) n
from_both first m zero =
    let same : m + 0 ≡ m = omega arith in ap (from_on first) same ∙ sym (append-nil (from_on first m))
from_both first m (suc n) =
    let more : m + suc n ≡ suc (m + n) = omega arith in
    let last : first + (m + n) ≡ (first + m) + n = omega arith in
    ap (from_on first) more ∙ ap (λ xs. xs ++ (first + (m + n)) ∷ []) (from_both first m n)
    ∙ append_assoc (from_on first m) (from_on (first + m) n) ((first + (m + n)) ∷ [])
    ∙ ap (λ k. from_on first m ++ (from_on (first + m) n ++ k ∷ [])) last

-- The number of outcomes that the notifications report for `count` consecutive polls, beginning
-- with number `first`.
abbrev pub reported_from : (first count : ℕ) → List Note → ℕ
reported_from first zero notes = 0
reported_from first (suc n) notes = reported_from first n notes + reported (first + n) notes

reported_same : (first count : ℕ) (xs ys : List Note) → ((n : ℕ) → reported n xs ≡ reported n ys) → reported_from first count xs ≡ reported_from first count ys
reported_same first zero xs ys h = refl
reported_same first (suc n) xs ys h = let so = reported_same first n xs ys h in let here = h (first + n) in omega arith

reported_none : (first count : ℕ) → reported_from first count [] ≡ 0
reported_none first zero = refl
reported_none first (suc n) = let so = reported_none first n in let here : reported (first + n) [] ≡ 0 = refl in omega arith

reported_other : (p n : ℕ) (o : Outcome) (notes : List Note) → (p ≡ n → ⊥) → reported n (note.Outcome p o ∷ notes) ≡ reported n notes
reported_other p n o notes other =
    ap length (cond-false (p == n) (note.Outcome p o ∷ filter (ends n) notes) (filter (ends n) notes) (ne_eqb p n other))

reported_this : (p n : ℕ) (o : Outcome) (notes : List Note) → p ≡ n → reported n (note.Outcome p o ∷ notes) ≡ reported n notes + 1
reported_this p n o notes same =
    ap length (cond-true (p == n) (note.Outcome p o ∷ filter (ends n) notes) (filter (ends n) notes) (eq-eqb p n same)) ∙ omega arith

reported_above : (first count p : ℕ) (o : Outcome) (notes : List Note) → first + count ≤ p
    → reported_from first count (note.Outcome p o ∷ notes) ≡ reported_from first count notes
reported_above first zero p o notes h = refl
reported_above first (suc n) p o notes h =
    let so = reported_above first n p o notes (omega (arith, h)) in
    let here = reported_other p (first + n) o notes (λ e. absurd (omega (arith, h, e))) in
    omega arith

reported_below : (first count p : ℕ) (o : Outcome) (notes : List Note) → p < first
    → reported_from first count (note.Outcome p o ∷ notes) ≡ reported_from first count notes
reported_below first zero p o notes h = refl
reported_below first (suc n) p o notes h =
    let so = reported_below first n p o notes h in
    let here = reported_other p (first + n) o notes (λ e. absurd (omega (arith, h, e))) in
    omega arith

reported_within : (first count p : ℕ) (o : Outcome) (notes : List Note) → first ≤ p → p < first + count
    → reported_from first count (note.Outcome p o ∷ notes) ≡ reported_from first count notes + 1
reported_within first zero p o notes low high = absurd (omega (arith, low, high))
reported_within first (suc n) p o notes low high =
    elim (cases_eq p (first + n)) [
      | inl same ↦
          let so = reported_above first n p o notes (omega (arith, same)) in
          let here = reported_this p (first + n) o notes same in
          omega arith
      | inr other ↦
          let less : p < first + n = omega (arith, high, other) in
          let so = reported_within first n p o notes low less in
          let here = reported_other p (first + n) o notes other in
          omega arith
    ]

-- Suppose that no outcome is reported for a poll after the last of `count` polls. Then each outcome
-- that is reported for a number from `first` on belongs to one of these polls.
counts_more : (first count p : ℕ) (o : Outcome) (notes : List Note) (xs : List Note) → length xs ≡ reported_from first count notes → p < first + count
    → length (cond (nat_le first p) (note.Outcome p o ∷ xs) xs) ≡ reported_from first count (note.Outcome p o ∷ notes)
counts_more first count p o notes xs so high =
    elim (cases_lt p first) [
      | inl below ↦
          ap length (cond-false (nat_le first p) (note.Outcome p o ∷ xs) xs (lt-leb first p below)) ∙ so ∙ sym (reported_below first count p o notes below)
      | inr low ↦
          let within = reported_within first count p o notes low high in
          let longer : suc (length xs) ≡ reported_from first count (note.Outcome p o ∷ notes) = omega (arith, within, so) in
          ap length (cond-true (nat_le first p) (note.Outcome p o ∷ xs) xs (le-leb first p low)) ∙ longer
    ]

less_reported : (n p : ℕ) (o : Outcome) (notes : List Note) → reported n (note.Outcome p o ∷ notes) ≡ 0 → reported n notes ≡ 0
less_reported n p o notes h =
    elim (cases_eq p n) [
      | inl same ↦ absurd (omega (arith, reported_this p n o notes same, h))
      | inr other ↦ sym (reported_other p n o notes other) ∙ h
    ]

low_enough : (p last : ℕ) (o : Outcome) (notes : List Note) → ((n : ℕ) → last ≤ n → reported n (note.Outcome p o ∷ notes) ≡ 0) → p < last
low_enough p last o notes h =
    elim (cases_lt p last) [
      | inl less ↦ less
      | inr past ↦ absurd (omega (arith, h p past, reported_this p p o notes refl))
    ]

pub counts_from : (first count : ℕ) (test : Note → Bool) (notes : List Note)
    → ((p : ℕ) (o : Outcome) → test (note.Outcome p o) ≡ nat_le first p)
    → ((one : Note) → ((n : ℕ) → ends n one ≡ false) → test one ≡ false)
    → ((n : ℕ) → first + count ≤ n → reported n notes ≡ 0) → length (filter test notes) ≡ reported_from first count notes
counts_from first count test [] ended other beyond = sym (reported_none first count)
counts_from first count test (note.Outcome p o ∷ notes) ended other beyond =
    let so = counts_from first count test notes ended other (λ n past. less_reported n p o notes (beyond n past)) in
    ap (λ b. length (cond b (note.Outcome p o ∷ filter test notes) (filter test notes))) (ended p o)
    ∙ counts_more first count p o notes (filter test notes) so (low_enough p (first + count) o notes beyond)
counts_from first count test (note.Reading meter raw rolls step ∷ notes) ended other beyond =
    let one = note.Reading meter raw rolls step in
    ap length (cond-false (test one) (one ∷ filter test notes) (filter test notes) (other one (λ n. refl)))
    ∙ counts_from first count test notes ended other beyond
    ∙ reported_same first count notes (one ∷ notes) (λ n. refl)
counts_from first count test (note.Held meter raw cause ∷ notes) ended other beyond =
    let one = note.Held meter raw cause in
    ap length (cond-false (test one) (one ∷ filter test notes) (filter test notes) (other one (λ n. refl)))
    ∙ counts_from first count test notes ended other beyond
    ∙ reported_same first count notes (one ∷ notes) (λ n. refl)

-- A list that has a given poll only if the store has no outcome of this poll has length 1 if there
-- is no outcome, otherwise 0.
one_open : (x n : ℕ) → length (cond (n == 0) (x ∷ []) []) ≡ 1 - n
one_open x zero = refl
one_open x (suc n) = ap length (cond-false (suc n == 0) (x ∷ []) [] (ne_eqb (suc n) 0 (λ e. absurd (omega (arith, e))))) ∙ omega arith

pub fewer_open : (before after : ℕ → ℕ) (notes : List Note) → ((n : ℕ) → after n ≡ reported n notes + before n) → ((n : ℕ) → after n ≤ 1)
    → (first count : ℕ)
    → length (filter (λ n. before n == 0) (from_on first count)) ≡ length (filter (λ n. after n == 0) (from_on first count)) + reported_from first count notes
fewer_open before after notes more once first zero = refl
fewer_open before after notes more once first (suc n) =
    let x = first + n in
    let so = fewer_open before after notes more once first n in
    let was = ap length (filter-append (λ k. before k == 0) (from_on first n) (x ∷ [])) ∙ length-append (filter (λ k. before k == 0) (from_on first n)) (cond (before x == 0) (x ∷ []) []) in
    let is = ap length (filter-append (λ k. after k == 0) (from_on first n) (x ∷ [])) ∙ length-append (filter (λ k. after k == 0) (from_on first n)) (cond (after x == 0) (x ∷ []) []) in
    let had = one_open x (before x) in
    let has = one_open x (after x) in
    let reported_more = more x in
    let at_most = once x in
    omega (arith, so, was, is, had, has, reported_more, at_most)

-- If a list is filtered by one test and then by another test, then the result has the items that
-- pass both tests.
filter_step : (q : ℕ → Bool) (b : Bool) (x : ℕ) (ys zs : List ℕ) → filter q ys ≡ zs → filter q (cond b (x ∷ ys) ys) ≡ cond (b && q x) (x ∷ zs) zs
filter_step q true x ys zs h = ap (λ ws. cond (q x) (x ∷ ws) ws) h
filter_step q false x ys zs h = h

filter_both : (p q : ℕ → Bool) (xs : List ℕ) → filter q (filter p xs) ≡ filter (λ x. p x && q x) xs
filter_both p q [] = refl
filter_both p q (x ∷ xs) = filter_step q (p x) x (filter p xs) (filter (λ y. p y && q y) xs) (filter_both p q xs)

sum_none : (m n : ℕ) → ((m + n) == 0) ≡ ((n == 0) && (m == 0))
sum_none zero zero = refl
sum_none zero (suc n) =
    ne_eqb (0 + suc n) 0 (λ e. absurd (omega (arith, e))) ∙ sym (ap (λ b. b && (0 == 0)) (ne_eqb (suc n) 0 (λ e. absurd (omega (arith, e)))))
sum_none (suc m) zero = ne_eqb (suc m + 0) 0 (λ e. absurd (omega (arith, e))) ∙ sym (ne_eqb (suc m) 0 (λ e. absurd (omega (arith, e))))
sum_none (suc m) (suc n) =
    ne_eqb (suc m + suc n) 0 (λ e. absurd (omega (arith, e))) ∙ sym (ap (λ b. b && (suc m == 0)) (ne_eqb (suc n) 0 (λ e. absurd (omega (arith, e)))))

pub left_open : (before after : ℕ → ℕ) (test : ℕ → Bool) (notes : List Note) → ((n : ℕ) → after n ≡ reported n notes + before n)
    → ((n : ℕ) → test n ≡ (reported n notes == 0)) → (xs : List ℕ)
    → filter test (filter (λ n. before n == 0) xs) ≡ filter (λ n. after n == 0) xs
left_open before after test notes more is xs =
    filter_both (λ n. before n == 0) test xs
    ∙ filter_agree (λ n. (before n == 0) && test n) (λ n. after n == 0)
    (λ n. ap (λ b. (before n == 0) && b) (is n) ∙ sym (sum_none (reported n notes) (before n)) ∙ ap (λ k. k == 0) (sym (more n))) xs

-- If all numbers pass a test, then filtering the numbers by this test leaves them unchanged.
pub all_pass : (test : ℕ → Bool) (first count : ℕ) → ((n : ℕ) → first ≤ n → test n ≡ true) → filter test (from_on first count) ≡ from_on first count
all_pass test first zero h = refl
all_pass test first (suc n) h =
    filter-append test (from_on first n) ((first + n) ∷ [])
    ∙ ap (λ xs. xs ++ cond (test (first + n)) ((first + n) ∷ []) []) (all_pass test first n h)
    ∙ ap (λ b. from_on first n ++ cond b ((first + n) ∷ []) []) (h (first + n) (omega arith))
