-- The interval rows (energies of quarter hours) of a list of steps add up to the energy of the
-- steps. A step is the energy between two readings.
use Rattle.std.proofs.Common.{◌≡◌, ℕ, ◌+◌, ◌-◌, ◌*◌, ◌/◌, ◌%◌, ◌<◌, ◌≤◌, min, max, List, [], ◌∷◌, get_or, sum_by, refl, sym, ap, ◌∙◌, inl, inr, arith}
use Rattle.std.specs.Prelude.{All, Contains}
use Rattle.std.proofs.lemmas.Bool.{cases_lt}
use Rattle.std.proofs.lemmas.List.Elements.{All-cons, All-head, All-tail, All-contains, Contains-append_cases, Contains-push_cases, Contains-get_or}
use Rattle.std.proofs.lemmas.List.{get_or_default}
use Rattle.std.proofs.lemmas.List.Sums.{sum_by-cons}
use Rattle.energy_core.specs.declared.entries.Step.{Step}
use Rattle.interval_core.specs.declared.shares.Share.{Share}
use Rattle.interval_core.specs.Share.{running_energy, share_at}
use Rattle.interval_core.specs.Account.{Touches, IsAscending, IsAccount, starts_of, energy_of}
use Rattle.interval_core.proofs.ShareLemmas.{running_mono}
use Rattle.interval_core.proofs.SumLemmas.{running-from, running-till}

-- True if a time is the start of a quarter-hour interval, at or after a bound.

abbrev IsStartFrom : ℕ → ℕ → Type 0
IsStartFrom bound start = (bound ≤ start) × (start % 900 ≡ 0)

-- The start of the first quarter hour that starts at or after a bound, and ends after the step (the
-- energy between two readings) begins.
abbrev first_from : Step → ℕ → ℕ
first_from step bound = max bound (step.from / 900 * 900)

touched-first : (step : Step) (bound : ℕ) → step.from < step.till → bound % 900 ≡ 0 → bound < step.till → Touches step (first_from step bound)
touched-first step bound forward whole before =
    elim (cases_lt bound (step.from / 900 * 900)) [
      | inl lt ↦ let is : first_from step bound ≡ step.from / 900 * 900 = omega (arith, lt) in rw is (omega arith, omega (arith, forward), omega arith)
      | inr ge ↦ let is : first_from step bound ≡ bound = omega (arith, ge) in rw is (whole, before, omega (arith, ge))
    ]

-- In an ascending list of interval starts, all starts are at or after the first start.
not_before : (x : ℕ) (xs : List ℕ) (t : ℕ) → IsAscending (x ∷ xs) → Contains (x ∷ xs) t → x ≤ t
not_before x xs t order contains =
    let P : ℕ → Type 0 = λ y. x ≤ y in
    All-contains P (x ∷ xs) t (All-cons P x xs (omega arith) (λ k d lt. let later = order.0 k d lt in omega (arith, later))) contains

-- Lemma: let an ascending list of interval starts begin with `x`. A start in this list that is
-- later than `x` is among the starts after `x`.
in_rest : (x : ℕ) (xs : List ℕ) (t : ℕ) → x < t → Contains (x ∷ xs) t → Contains xs t
in_rest x xs t lt contains =
    elim (Contains-append_cases (x ∷ []) xs t contains) [
      | inl one ↦ elim (Contains-push_cases [] x t one) [
        | inl none ↦ absurd (omega (arith, none.1))
        | inr same ↦ absurd (omega (arith, lt, same))
      ]
      | inr there ↦ there
    ]

-- The shares of a step in the intervals that start at or after `bound` add up to the step's energy
-- after `bound`. A step is the energy between two readings, a share its energy in one quarter hour.
energy-from : (step : Step) (xs : List ℕ) (bound : ℕ) → step.from < step.till → bound % 900 ≡ 0 → IsAscending xs → All (IsStartFrom bound) xs
    → ((t : ℕ) → bound ≤ t → Touches step t → Contains xs t)
    → sum_by (share_at step) xs ≡ running_energy step step.till - running_energy step (min (max bound step.from) step.till)
energy-from step [] bound forward whole order starts has =
    elim (cases_lt bound step.till) [
      | inl lt ↦ let none = has (first_from step bound) (omega arith) (touched-first step bound forward whole lt) in absurd (omega (arith, none.1))
      | inr ge ↦
          let done : min (max bound step.from) step.till ≡ step.till = omega (arith, ge) in
          let same = ap (running_energy step) done in
          omega (arith, same)
    ]
energy-from step (x ∷ xs) bound forward whole order starts has =
    let R = running_energy step in
    let here = All-head (IsStartFrom bound) x xs starts in
    let bound_le = here.0 in
    let x_whole = here.1 in
    let others : All (IsStartFrom (x + 900)) xs = λ k d lt.
    let later = order.0 k d lt in
    let start = All-tail (IsStartFrom bound) x xs starts k d lt in
    let its = start.1 in
    (omega (arith, later, its, x_whole), its) in
    let later = energy-from step xs (x + 900) forward (omega (arith, x_whole)) order.1 others
    (λ t le touches. in_rest x xs t (omega (arith, le)) (has t (omega (arith, le, bound_le)) touches)) in
    let first = sum_by-cons (share_at step) x xs in
    let start_le : bound < step.till → x ≤ first_from step bound = λ lt. not_before x xs (first_from step bound) order (has (first_from step bound) (omega arith) (touched-first step bound forward whole lt)) in
    let gap : R (min (max bound step.from) step.till) ≡ R (min (max x step.from) step.till) =
    ap R (elim (cases_lt bound step.till) [
      | inl lt ↦ let le = start_le lt in omega (arith, le, bound_le, lt, forward)
      | inr ge ↦ omega (arith, ge, bound_le)
    ]) in
    elim (cases_lt x step.till) [
      | inr over ↦
          let at_x : min (max x step.from) step.till ≡ step.till = omega (arith, over) in
          let at_next : min (max (x + 900) step.from) step.till ≡ step.till = omega (arith, over) in
          let at_stop : min (x + 900) step.till ≡ step.till = omega (arith, over) in
          let up = running_mono step step.till (max x step.from) forward (omega (arith, over)) in
          omega (arith, first, later, gap, ap R at_x, ap R at_next, ap R at_stop, up)
      | inl under ↦ elim (cases_lt step.from (x + 900)) [
        | inr early ↦
            let at_x : min (max x step.from) step.till ≡ step.from = omega (arith, early, forward) in
            let at_next : min (max (x + 900) step.from) step.till ≡ step.from = omega (arith, early, forward) in
            let begin : max x step.from ≡ step.from = omega (arith, early) in
            let up = running_mono step (min (x + 900) step.till) step.from forward (omega (arith, early)) in
            omega (arith, first, later, gap, ap R at_x, ap R at_next, ap R begin, up)
        | inl within ↦
            let at_x : min (max x step.from) step.till ≡ max x step.from = omega (arith, under, forward) in
            let at_next : min (max (x + 900) step.from) step.till ≡ min (x + 900) step.till = omega (arith, within) in
            let up = running_mono step (max x step.from) (min (x + 900) step.till) forward (omega (arith, under, within, forward)) in
            let up_more = running_mono step (min (x + 900) step.till) step.till forward (omega arith) in
            omega (arith, first, later, gap, ap R at_x, ap R at_next, up, up_more)
      ]
    ]

-- If two functions agree on each element of a list, their sums over the list are equal.

same_sums : {X : Type 0} (f g : X → ℕ) (xs : List X) → All (λ x. f x ≡ g x) xs → sum_by f xs ≡ sum_by g xs
same_sums f g [] all = refl
same_sums {X} f g (x ∷ xs) all =
    let P : X → Type 0 = λ y. f y ≡ g y in
    let here = All-head P x xs all in
    let rest = same_sums f g xs (All-tail P x xs all) in
    sum_by-cons f x xs ∙ omega (arith, here, rest) ∙ sym (sum_by-cons g x xs)

sum-zero : {X : Type 0} (xs : List X) → sum_by (λ _. 0) xs ≡ 0
sum-zero [] = refl
sum-zero {X} (x ∷ xs) = let zeros : X → ℕ = λ _. 0 in let rest = sum-zero xs in omega (arith, sum_by-cons zeros x xs, rest)

sum-plus : {X : Type 0} (f g : X → ℕ) (xs : List X) → sum_by (λ x. f x + g x) xs ≡ sum_by f xs + sum_by g xs
sum-plus f g [] = refl
sum-plus {X} f g (x ∷ xs) =
    let both : X → ℕ = λ y. f y + g y in
    let rest = sum-plus f g xs in
    omega (arith, sum_by-cons both x xs, sum_by-cons f x xs, sum_by-cons g x xs, rest)

-- A double sum does not depend on the order of summation.
swapped : {X Y : Type 0} (f : X → Y → ℕ) (xs : List X) (ys : List Y) → sum_by (λ x. sum_by (f x) ys) xs ≡ sum_by (λ y. sum_by (λ x. f x y) xs) ys
swapped f [] ys = sym (sum-zero ys)
swapped {X} {Y} f (x ∷ xs) ys =
    let across : X → ℕ = λ x. sum_by (f x) ys in
    let down : Y → ℕ = λ y. sum_by (λ x. f x y) xs in
    let column : Y → ℕ = λ y. sum_by (λ z. f z y) (x ∷ xs) in
    let split : sum_by column ys ≡ sum_by (λ y. f x y + down y) ys =
    same_sums column (λ y. f x y + down y) ys (λ k d lt. let at : X → ℕ = λ z. f z (get_or ys k d) in sum_by-cons at x xs) in
    let rest = swapped f xs ys in
    let plus = sum-plus (f x) down ys in
    omega (arith, sum_by-cons across x xs, rest, split, plus)

sum-starts : (f : ℕ → ℕ) (rows : List Share) → sum_by (λ row. f row.start) rows ≡ sum_by f (starts_of rows)
sum-starts f [] = refl
sum-starts f (row ∷ rows) =
    let at : Share → ℕ = λ r. f r.start in
    sum_by-cons at row rows ∙ ap (λ n. f row.start + n) (sum-starts f rows) ∙ sym (sum_by-cons f row.start (starts_of rows))

pub rows_add_up : (steps : List Step) (rows : List Share) → All (λ step. step.from < step.till) steps → IsAccount steps rows → energy_of rows ≡ sum_by (λ step. step.mwh) steps
rows_add_up steps rows forward account =
    let total : Share → ℕ = λ row. row.mwh in
    let shared : Share → ℕ = λ row. sum_by (λ step. share_at step row.start) steps in
    let of_step : Step → ℕ = λ step. sum_by (λ row. share_at step row.start) rows in
    let energy : Step → ℕ = λ step. step.mwh in
    let starts : All (IsStartFrom 0) (starts_of rows) = λ k d lt.
    let some = (account.touched (get_or (starts_of rows) k d)).0 (Contains-get_or (starts_of rows) k d lt) in
    (omega arith, some.4.0) in
    let each : All (λ (step : Step). of_step step ≡ energy step) steps = λ k d lt.
    let step = get_or steps k d in
    let on : step.from < step.till = forward k d lt in
    let all = energy-from step (starts_of rows) 0 on refl account.in_order starts
    (λ t le touches. (account.touched t).1 (k, step, lt, get_or_default steps k step d lt, touches)) in
    let begin : min (max 0 step.from) step.till ≡ step.from = omega (arith, on) in
    sum-starts (share_at step) rows ∙ omega (arith, all, ap (running_energy step) begin, running-from step, running-till step on) in
    same_sums total shared rows account.each ∙ swapped (λ (row : Share) (step : Step). share_at step row.start) rows steps ∙ same_sums of_step energy steps each
