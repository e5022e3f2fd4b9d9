-- Lemmas: the interval rows of an accounting register (an energy counter) are in order of time.
-- They are the energy by quarter hour of its meters, one meter after another.
use Rattle.std.proofs.Common.{◌≡◌, ℕ, zero, suc, ◌+◌, ◌*◌, ◌^◌, ◌%◌, ◌<◌, ◌≤◌, List, [], ◌∷◌, ◌++◌, reverse, length, refl, sym, ap, subst, ◌∙◌, inl, inr, ◌⊎◌, arith}
use Rattle.std.specs.Prelude.{All, slice_index_or}
use Rattle.std.specs.List.{flat_map}
use Rattle.std.proofs.lemmas.Grind.{flat_map-append}
use Rattle.std.proofs.lemmas.List.{append-nil}
use Rattle.std.proofs.lemmas.List.Elements.{All-nil, All-cons, All-head, All-tail}
use Rattle.std.proofs.lemmas.List.Sums.{sum_by-append}
use Rattle.interval_core.specs.declared.shares.Share.{Share}
use Rattle.interval_core.specs.Account.{starts_of, energy_of, IsAscending}
use Rattle.meter_journal.specs.Laws as laws
use Rattle.meter_journal.specs.Changes.{LiesWithin, RowsLieWithin, VoidsGoNoFurther}
use Rattle.office_events.specs.declared.facts.Opening.{Opening}
use Rattle.office_events.specs.declared.facts.Fact.{Fact}
use Rattle.office_books.specs.Facts.{moment_limit, latest_in}
use Rattle.office_books.specs.Meters.{installed, journal_of}
use Rattle.office_books.specs.Intervals.{rows_of_opening}
use Rattle.office_books.specs.Lawful.{AreLawful}
use Rattle.office_books.specs.Registers.{RegistersAreInTurn}
use Rattle.office_books.proofs.Lists.{reverse_cons}
use Rattle.office_books.proofs.Journals.{IsInstalled, installed_fits, well}
use Rattle.office_books.proofs.InTurn.{last_at, last_is_recorded, AllOver, InTurn, openings_at, in_turn}

-- The theorems about the energy of single meters by quarter hour that the proofs about accounting
-- registers (named energy counters) use.
pub record FromJournals : Type 0 where
  pub kept : laws.JournalsAreKept
  pub accounts : laws.IntervalRowsAreAccounts
  pub sums : laws.IntervalRowsAddUp
  pub within : RowsLieWithin
  pub no_further : VoidsGoNoFurther

-- True if all interval rows (energy by quarter hour) begin at or after the time `n`.
abbrev From : ℕ → List Share → Type 0
From n [] = Unit {0}
From n (row ∷ rows) = (n ≤ row.start) × From n rows

abbrev NeverFall : List Share → Type 0
NeverFall [] = Unit {0}
NeverFall (row ∷ rows) = From row.start rows × NeverFall rows

-- True if all interval rows are quarter hours that begin before the time `n`. `RowsAfter` is true
-- if all of them are quarter hours that end after `n`.
abbrev Before : ℕ → List Share → Type 0
Before n [] = Unit {0}
Before n (row ∷ rows) = (row.start % 900 ≡ 0) × (row.start < n) × Before n rows

abbrev RowsAfter : ℕ → List Share → Type 0
RowsAfter n [] = Unit {0}
RowsAfter n (row ∷ rows) = (row.start % 900 ≡ 0) × (n < row.start + 900) × RowsAfter n rows

from_append : (n : ℕ) (xs ys : List Share) → From n xs → From n ys → From n (xs ++ ys)
from_append n [] ys h k = k
from_append n (x ∷ xs) ys h k = (h.0, from_append n xs ys h.1 k)

before_append : (n : ℕ) (xs ys : List Share) → Before n xs → Before n ys → Before n (xs ++ ys)
before_append n [] ys h k = k
before_append n (x ∷ xs) ys h k = (h.0, h.1, before_append n xs ys h.2 k)

before_later : (m n : ℕ) (rows : List Share) → m ≤ n → Before m rows → Before n rows
before_later m n [] le h = tt
before_later m n (row ∷ rows) le h = (h.0, omega (arith, h.1, le), before_later m n rows le h.2)

from_row : (s n : ℕ) (rows : List Share) → s % 900 ≡ 0 → s < n → RowsAfter n rows → From s rows
from_row s n [] whole lt h = tt
from_row s n (row ∷ rows) whole lt h = (omega (arith, whole, lt, h.0, h.1), from_row s n rows whole lt h.2)

never_append : (n : ℕ) (xs ys : List Share) → NeverFall xs → NeverFall ys → Before n xs → RowsAfter n ys → NeverFall (xs ++ ys)
never_append n [] ys h k before following = k
never_append n (x ∷ xs) ys h k before following = (
  from_append x.start xs ys h.0 (from_row x.start n ys before.0 before.1 following),
  never_append n xs ys h.1 k before.2 following,
)

from_at : (n : ℕ) (rows : List Share) (j : ℕ) (d : Share) → From n rows → j < length rows → n ≤ (slice_index_or rows j d).start
from_at n [] j d h lt = absurd (omega (arith, lt))
from_at n (row ∷ rows) zero d h lt = h.0
from_at n (row ∷ rows) (suc j) d h lt = from_at n rows j d h.1 (omega (arith, lt))

never_at : (rows : List Share) (i j : ℕ) (d : Share) → NeverFall rows → i ≤ j → j < length rows
    → (slice_index_or rows i d).start ≤ (slice_index_or rows j d).start
never_at [] i j d h le lt = absurd (omega (arith, lt))
never_at (row ∷ rows) zero zero d h le lt = omega arith
never_at (row ∷ rows) zero (suc j) d h le lt = from_at row.start rows j d h.0 (omega (arith, lt))
never_at (row ∷ rows) (suc i) zero d h le lt = absurd (omega (arith, le))
never_at (row ∷ rows) (suc i) (suc j) d h le lt = never_at rows i j d h.1 (omega (arith, le)) (omega (arith, lt))

-- Lemmas that the interval rows (energy by quarter hour) of one meter are in order of time, and
-- between the meter's first and last entry.

from_ascending : (n : ℕ) (rows : List Share) → All (λ later. n < later) (starts_of rows) → From n rows
from_ascending n [] h = tt
from_ascending n (row ∷ rows) h =
    let P : ℕ → Type 0 = λ later. n < later in
    let lt : n < row.start = All-head P row.start (starts_of rows) h in
    (omega (arith, lt), from_ascending n rows (All-tail P row.start (starts_of rows) h))

never_ascending : (rows : List Share) → IsAscending (starts_of rows) → NeverFall rows
never_ascending [] h = tt
never_ascending (row ∷ rows) h = (from_ascending row.start rows h.0, never_ascending rows h.1)

before_within : (opened last : ℕ) (rows : List Share) → All (LiesWithin opened last) rows → Before last rows
before_within opened last [] h = tt
before_within opened last (row ∷ rows) h =
    let here = All-head (LiesWithin opened last) row rows h in
    (here.quarter, here.before, before_within opened last rows (All-tail (LiesWithin opened last) row rows h))

after_within : (opened last : ℕ) (rows : List Share) → All (LiesWithin opened last) rows → RowsAfter opened rows
after_within opened last [] h = tt
after_within opened last (row ∷ rows) h =
    let here = All-head (LiesWithin opened last) row rows h in
    (here.quarter, here.following, after_within opened last rows (All-tail (LiesWithin opened last) row rows h))

-- States that the start times of one meter's interval rows (energy by quarter hour) never decrease.
-- The rows are between the meter's first and last entry. Their energies add up to at most 4 * 10^18
-- mWh.
record IsFine (facts : List Fact) (o : Opening) : Type 0 where
  never_fall : NeverFall (rows_of_opening facts o)
  within : All (LiesWithin o.at (last_at facts o)) (rows_of_opening facts o)
  energy : energy_of (rows_of_opening facts o) ≤ 4 * 10 ^ 18

fine : FromJournals → (facts : List Fact) (o : Opening) → AreLawful facts → IsInstalled facts o → IsFine facts o
fine law facts o h there =
    let own = well facts o h there in
    let fits = installed_fits facts o h there in
    let lines = journal_of facts o.meter in
    record {
      never_fall = never_ascending (rows_of_opening facts o) (law.accounts (installed o) lines own fits).in_order;
      within = law.within (installed o) lines own fits;
      energy = omega (arith, law.sums (installed o) lines own fits, (law.kept (installed o) lines own fits).account.within);
    }

-- Lemmas that the interval rows (energy by quarter hour) of several meters, one after another, are
-- in order of time and have a bounded energy.

-- The interval rows (energy by quarter hour) of a list of meters that begins with the latest. The
-- rows of the earliest meter come first.
abbrev rows_in_turn : List Fact → List Opening → List Share
rows_in_turn facts os = flat_map (rows_of_opening facts) (reverse os)

one_more : (facts : List Fact) (o : Opening) (os : List Opening) → rows_in_turn facts (o ∷ os) ≡ rows_in_turn facts os ++ rows_of_opening facts o
one_more facts o os =
    let f : Opening → List Share = rows_of_opening facts in
    ap (flat_map f) (reverse_cons o os) ∙ flat_map-append f (reverse os) (o ∷ []) ∙ ap (λ rows. rows_in_turn facts os ++ rows) (append-nil (f o))

-- True if the timestamp of each meter's last entry is at most `at`.
abbrev LastBy : List Fact → (at : ℕ) → List Opening → Type 0
LastBy facts at [] = Unit {0}
LastBy facts at (o ∷ os) = (last_at facts o ≤ at) × LastBy facts at os

last_over : (facts : List Fact) (at : ℕ) (os : List Opening) → AllOver facts at os → LastBy facts at os
last_over facts at [] h = tt
last_over facts at (o ∷ os) h = (h.0.last, last_over facts at os h.1)

last_now : VoidsGoNoFurther → (facts : List Fact) (os : List Opening) → AreLawful facts → InTurn facts os → LastBy facts (latest_in facts) os
last_now law facts [] h turn = tt
last_now law facts (o ∷ os) h turn = (last_is_recorded law facts o h turn.0, last_now law facts os h turn.2)

all_before : FromJournals → (facts : List Fact) (at : ℕ) (os : List Opening) → AreLawful facts → InTurn facts os → LastBy facts at os
    → Before at (rows_in_turn facts os)
all_before law facts at [] h turn last = tt
all_before law facts at (o ∷ os) h turn last =
    subst (Before at) (sym (one_more facts o os))
    (before_append at (rows_in_turn facts os) (rows_of_opening facts o) (all_before law facts at os h turn.2 last.1)
    (before_later (last_at facts o) at (rows_of_opening facts o) last.0
    (before_within o.at (last_at facts o) (rows_of_opening facts o) (fine law facts o h turn.0).within)))

all_never_fall : FromJournals → (facts : List Fact) (os : List Opening) → AreLawful facts → InTurn facts os → NeverFall (rows_in_turn facts os)
all_never_fall law facts [] h turn = tt
all_never_fall law facts (o ∷ os) h turn =
    let this = fine law facts o h turn.0 in
    subst NeverFall (sym (one_more facts o os))
    (never_append o.at (rows_in_turn facts os) (rows_of_opening facts o) (all_never_fall law facts os h turn.2) this.never_fall
    (all_before law facts o.at os h turn.2 (last_over facts o.at os turn.1))
    (after_within o.at (last_at facts o) (rows_of_opening facts o) this.within))

-- If a meter has no interval rows (energy by quarter hour), then it has no energy. If it has
-- interval rows, then its last entry is later than its first.
rows_go_on : (opened last : ℕ) (rows : List Share) → All (LiesWithin opened last) rows → energy_of rows ≤ 4 * 10 ^ 18
    → (energy_of rows ≡ 0) ⊎ (opened < last)
rows_go_on opened last [] h few = inl refl
rows_go_on opened last (row ∷ rows) h few = inr (All-head (LiesWithin opened last) row rows h).gone_on

energy_with : (facts : List Fact) (o : Opening) (os : List Opening)
    → energy_of (rows_in_turn facts (o ∷ os)) ≡ energy_of (rows_in_turn facts os) + energy_of (rows_of_opening facts o)
energy_with facts o os =
    let mwh : Share → ℕ = λ row. row.mwh in
    ap energy_of (one_more facts o os) ∙ sum_by-append mwh (rows_in_turn facts os) (rows_of_opening facts o)

-- If no meter of an accounting register has an entry later than `at`, the total energy of these
-- meters is at most 4 * 10^18 mWh times `at`. The time `at` is in seconds since 1970-01-01.
all_energy : FromJournals → (facts : List Fact) (at : ℕ) (os : List Opening) → AreLawful facts → InTurn facts os → LastBy facts at os
    → energy_of (rows_in_turn facts os) ≤ at * (4 * 10 ^ 18)
all_energy law facts at [] h turn last = omega arith
all_energy law facts at (o ∷ os) h turn last =
    let this = fine law facts o h turn.0 in
    elim (rows_go_on o.at (last_at facts o) (rows_of_opening facts o) this.within this.energy) [
      | inl none ↦ omega (arith, none, energy_with facts o os, all_energy law facts at os h turn.2 last.1)
      | inr lt ↦
          omega (
            arith,
            lt,
            this.energy,
            last.0,
            energy_with facts o os,
            all_energy law facts o.at os h turn.2 (last_over facts o.at os turn.1),
          )
    ]

-- Lemmas for records that follow the rules for adding records (`AreLawful`): the interval rows
-- (energy by quarter hour) of an accounting register (an energy counter) are in order of time and
-- within limits.

moments_bounded : (facts : List Fact) → AreLawful facts → latest_in facts ≤ moment_limit
moments_bounded [] h = omega arith
moments_bounded (f ∷ facts) h = omega (arith, h.0.1, moments_bounded facts h.1)

all_moments : (at : ℕ) (rows : List Share) → at ≤ moment_limit → Before at rows → All (λ row. row.start ≤ moment_limit) rows
all_moments at [] le h = All-nil (λ (row : Share). row.start ≤ moment_limit)
all_moments at (row ∷ rows) le h =
    All-cons (λ (row : Share). row.start ≤ moment_limit) row rows (omega (arith, le, h.1)) (all_moments at rows le h.2)

pub registers_are_in_turn : FromJournals → RegistersAreInTurn
registers_are_in_turn law facts register h =
    let os : List Opening = openings_at facts register in
    let turn = in_turn law.no_further facts register h in
    let last = last_now law.no_further facts os h turn in
    let bound = moments_bounded facts h in
    record {
      never_fall = λ i j d le lt. never_at (rows_in_turn facts os) i j d (all_never_fall law facts os h turn) le lt;
      moments = all_moments (latest_in facts) (rows_in_turn facts os) bound (all_before law facts (latest_in facts) os h turn last);
      energy = omega (arith, bound, all_energy law facts (latest_in facts) os h turn last);
    }
