-- Lists of polls with their outcomes. The lists give the ended polls, the pending polls, and how
-- often a poll number occurs.
use Rattle.std.proofs.Common.{◌≡◌, ℕ, suc, ◌+◌, ◌<◌, ◌≤◌, ◌==◌, Bool, true, false, cond, List, [], ◌∷◌, length, map, refl, sym, ap, ◌∙◌, arith, Option, Some, None, if◌then◌else◌}
use Rattle.std.specs.List.{filter, filter_map, cons_option, find}
use Rattle.std.specs.Option.{option_to_list, option_map, option_and_then, is_none}
use Rattle.std.specs.List.Sorted.{IsPermutation}
use Rattle.std.proofs.lemmas.List.Sorted.{length_permutation}
use Rattle.std.proofs.lemmas.Bool.{eqb-true}
use Rattle.std.proofs.lemmas.Bool.Decides.{nat_tests}
use Rattle.poll_core.specs.declared.outcome.Outcome.{Outcome}
use Rattle.office_events.specs.declared.facts.Poll.{Poll}
use Rattle.office_books.specs.PollEndings.{AreNumbered}
use Rattle.office_books.proofs.Permutations.{IsPermutation-filter, IsPermutation-filter_map}

-- The number of a poll, with the poll's outcome if it has one.
abbrev pub Ended : Type 0
Ended = ℕ × Option Outcome

abbrev pub reported : Ended → Option (ℕ × Outcome)
reported poll = option_map (λ o. (poll.0, o)) poll.1

abbrev pub numbers_in : List Ended → List ℕ
numbers_in polls = map (λ poll. poll.0) polls

abbrev pub ends_in : List Ended → List (ℕ × Outcome)
ends_in polls = filter_map reported polls

abbrev pub waiting_in : List Ended → List ℕ
waiting_in polls = map (λ poll. poll.0) (filter (λ poll. is_none poll.1) polls)

abbrev pub one_if : Bool → ℕ
one_if true = 1
one_if false = 0

-- The number of occurrences of a number in a list.
abbrev pub times : ℕ → List ℕ → ℕ
times n [] = 0
times n (x ∷ xs) = one_if (x == n) + times n xs

-- The outcome in a pair of a poll number and an outcome, if the poll number is `n`, otherwise
-- `None`.
abbrev pub is_of : ℕ → ℕ × Outcome → Option Outcome
is_of n end = if end.0 == n then Some end.1 else None

abbrev pub pick : ℕ → List (ℕ × Outcome) → List Outcome
pick n ends = filter_map (is_of n) ends

are_equal : (a b : ℕ) → a ≡ b → (a == b) ≡ true
are_equal a b h = grind (arith, nat_tests)

not_equal : (a b : ℕ) → (a ≡ b → ⊥) → (a == b) ≡ false
not_equal a b h = grind (arith, nat_tests)

-- Counting the elements that satisfy a predicate one by one yields the length of the filtered list.
counted_step : (b : Bool) (x : ℕ) (xs : List ℕ) (k : ℕ) → k ≡ length xs → one_if b + k ≡ length (cond b (x ∷ xs) xs)
counted_step true x xs k h = omega arith
counted_step false x xs k h = omega arith

counted : (n : ℕ) (xs : List ℕ) → times n xs ≡ length (filter (λ x. x == n) xs)
counted n [] = refl
counted n (x ∷ xs) = counted_step (x == n) x (filter (λ y. y == n) xs) (times n xs) (counted n xs)

pub times-IsPermutation : (n : ℕ) (xs ys : List ℕ) → IsPermutation xs ys → times n xs ≡ times n ys
times-IsPermutation n xs ys p =
    counted n xs ∙ sym (length_permutation _ _ (IsPermutation-filter (λ x. x == n) xs ys p)) ∙ sym (counted n ys)

pub picked-IsPermutation : (n : ℕ) (xs ys : List (ℕ × Outcome)) → IsPermutation xs ys → length (pick n xs) ≡ length (pick n ys)
picked-IsPermutation n xs ys p = sym (length_permutation _ _ (IsPermutation-filter_map (is_of n) xs ys p))

reported_step : (b : Bool) (o : Outcome) (xs : List Outcome) (w k : ℕ) → length xs + w ≡ k → length (cons_option (if b then Some o else None) xs) + w ≡ one_if b + k
reported_step true o xs w k h = omega arith
reported_step false o xs w k h = omega arith

pub times_split : (n : ℕ) (polls : List Ended) → length (pick n (ends_in polls)) + times n (waiting_in polls) ≡ times n (numbers_in polls)
times_split n [] = refl
times_split n ((m, None) ∷ polls) = let h = times_split n polls in omega arith
times_split n ((m, Some o) ∷ polls) = reported_step (m == n) o (pick n (ends_in polls)) (times n (waiting_in polls)) (times n (numbers_in polls)) (times_split n polls)

-- If a number exceeds the number of polls, then no poll of a consecutively numbered list has this
-- number.
none_beyond : (n : ℕ) (polls : List Poll) → AreNumbered polls → length polls < n → times n (map (λ poll. poll.number) polls) ≡ 0
none_beyond n [] h l = refl
none_beyond n (p ∷ polls) h l =
    let f : one_if (p.number == n) ≡ 0 = ap one_if (not_equal p.number n (λ e. let g = h.0 in omega arith)) in
    let rest = none_beyond n polls h.1 (omega arith) in
    omega arith

once_step : (b : Bool) (r : ℕ) → (b ≡ true → r ≡ 0) → r ≤ 1 → one_if b + r ≤ 1
once_step true r h l = let z = h refl in omega arith
once_step false r h l = omega arith

pub numbered_once : (n : ℕ) (polls : List Poll) → AreNumbered polls → times n (map (λ poll. poll.number) polls) ≤ 1
numbered_once n [] h = omega arith
numbered_once n (p ∷ polls) h =
    once_step (p.number == n) (times n (map (λ poll. poll.number) polls))
    (λ here. none_beyond n polls h.1 (let e : p.number ≡ n = eqb-true p.number n here in let g = h.0 in omega arith))
    (numbered_once n polls h.1)

-- If a list of outcomes has length 0, then the list is empty.
none_if_empty : (xs : List Outcome) → length xs ≡ 0 → xs ≡ []
none_if_empty [] h = refl
none_if_empty (x ∷ xs) h = absurd (let e : suc (length xs) ≡ 0 = h in omega arith)

abbrev pub outcome_from : ℕ → List Ended → Option Outcome
outcome_from n polls = option_and_then (λ poll. poll.1) (find (λ poll. poll.0 == n) polls)

found_step : (n : ℕ) (b : Bool) (m : ℕ) (o : Option Outcome) (polls : List Ended) (xs : List Outcome)
    → pick n (ends_in polls) ≡ xs → (b ≡ true → xs ≡ []) → xs ≡ option_to_list (outcome_from n polls)
    → cons_option (option_and_then (λ x. if b then Some x else None) o) (pick n (ends_in polls))
    ≡ option_to_list (option_and_then (λ poll. poll.1) (cond b (Some (m, o)) (find (λ poll. poll.0 == n) polls)))
found_step n true m None polls xs e none rest = e ∙ none refl
found_step n true m (Some o) polls xs e none rest = ap (λ ys. o ∷ ys) (e ∙ none refl)
found_step n false m None polls xs e none rest = e ∙ rest
found_step n false m (Some o) polls xs e none rest = e ∙ rest

none_after : (n m : ℕ) (polls : List Ended) → times n (m ∷ numbers_in polls) ≤ 1 → (m == n) ≡ true → pick n (ends_in polls) ≡ []
none_after n m polls l here =
    let split = times_split n polls in
    let one : one_if (m == n) ≡ 1 = ap one_if here in
    none_if_empty (pick n (ends_in polls)) (omega arith)

pub picked_is : (n : ℕ) (polls : List Ended) → times n (numbers_in polls) ≤ 1 → pick n (ends_in polls) ≡ option_to_list (outcome_from n polls)
picked_is n [] l = refl
picked_is n ((m, None) ∷ polls) l =
    found_step n (m == n) m None polls (pick n (ends_in polls)) refl (none_after n m polls l) (picked_is n polls (omega arith))
picked_is n ((m, Some o) ∷ polls) l =
    found_step n (m == n) m (Some o) polls (pick n (ends_in polls)) refl (none_after n m polls l) (picked_is n polls (omega arith))

-- If a number is the first element of a list, then the number occurs in the list at least once.
one_there : (m : ℕ) (xs : List ℕ) → 1 ≤ times m (m ∷ xs)
one_there m xs = let e : one_if (m == m) ≡ 1 = ap one_if (are_equal m m refl) in omega arith

one_picked : (m : ℕ) (o : Outcome) (xs : List (ℕ × Outcome)) → 1 ≤ length (pick m ((m, o) ∷ xs))
one_picked m o xs =
    let e : length (pick m ((m, o) ∷ xs)) ≡ suc (length (pick m xs)) = ap (λ b. length (cons_option (cond b (Some o) None) (pick m xs))) (are_equal m m refl) in
    omega arith

more_times : (n m : ℕ) (xs : List ℕ) → times n xs ≤ times n (m ∷ xs)
more_times n m xs = omega arith

more_step : (b : Bool) (o : Outcome) (ys : List Outcome) → length ys ≤ length (cons_option (if b then Some o else None) ys)
more_step true o ys = omega arith
more_step false o ys = omega arith

more_picked : (n : ℕ) (e : ℕ × Outcome) (xs : List (ℕ × Outcome)) → length (pick n xs) ≤ length (pick n (e ∷ xs))
more_picked n e xs = more_step (e.0 == n) e.1 (pick n xs)

kept_if : (b : Bool) (m : ℕ) (xs ys : List ℕ) → b ≡ true → xs ≡ ys → cond b (m ∷ xs) xs ≡ m ∷ ys
kept_if true m xs ys h e = ap (λ zs. m ∷ zs) e
kept_if false m xs ys h e = cc

left_if : (b : Bool) (m : ℕ) (xs ys : List ℕ) → b ≡ false → xs ≡ ys → cond b (m ∷ xs) xs ≡ ys
left_if true m xs ys h e = cc
left_if false m xs ys h e = e

pub waiting_by : (t : ℕ → Bool) (ended waits : ℕ → ℕ) → ((n : ℕ) → ended n + waits n ≤ 1) → ((n : ℕ) → t n ≡ (ended n == 0))
    → (polls : List Ended) → ((n : ℕ) → length (pick n (ends_in polls)) ≤ ended n) → ((n : ℕ) → times n (waiting_in polls) ≤ waits n)
    → filter t (numbers_in polls) ≡ waiting_in polls
waiting_by t ended waits once test [] e w = refl
waiting_by t ended waits once test ((m, None) ∷ polls) e w =
    let here = one_there m (waiting_in polls) in
    let wm : times m (m ∷ waiting_in polls) ≤ waits m = w m in
    let om = once m in
    let zero_m : ended m ≡ 0 = omega arith in
    kept_if (t m) m (filter t (numbers_in polls)) (waiting_in polls) (test m ∙ are_equal (ended m) 0 zero_m)
    (waiting_by t ended waits once test polls e (λ n. let wn : times n (m ∷ waiting_in polls) ≤ waits n = w n in omega (arith, more_times n m (waiting_in polls))))
waiting_by t ended waits once test ((m, Some o) ∷ polls) e w =
    let here = one_picked m o (ends_in polls) in
    let em : length (pick m ((m, o) ∷ ends_in polls)) ≤ ended m = e m in
    let some_m : ended m ≡ 0 → ⊥ = λ z. omega arith in
    left_if (t m) m (filter t (numbers_in polls)) (waiting_in polls) (test m ∙ not_equal (ended m) 0 some_m)
    (waiting_by t ended waits once test polls (λ n. let en : length (pick n ((m, o) ∷ ends_in polls)) ≤ ended n = e n in omega (arith, more_picked n (m, o) (ends_in polls))) w)
