-- Lemmas on interval rows (energy by quarter hour) of successive meters: the rows are in order of
-- time if each meter's rows are, and if each meter was closed when the next meter was opened.
use Rattle.std.proofs.Common.{◌≡◌, ℕ, zero, suc, ◌+◌, ◌%◌, ◌<◌, ◌≤◌, List, [], ◌∷◌, ◌++◌, length, arith}
use Rattle.std.specs.Prelude.{All, slice_index_or}
use Rattle.std.specs.List.Sorted.{IsNonDecreasingBy}
use Rattle.std.proofs.lemmas.List.Elements.{All-nil, All-cons, All-head, All-tail, All-append, All-weaker}
use Rattle.interval_core.specs.declared.shares.Share.{Share}
use Rattle.interval_core.specs.Account.{starts_of, IsAscending}
use Rattle.meter_journal.specs.Changes.{LiesWithin}

-- True if an interval row begins at or after the time `n`.
abbrev pub IsFrom : ℕ → Share → Type 0
IsFrom n row = n ≤ row.start

-- States that an interval row is a quarter hour that ends after the time `n`.
pub record EndsAfter (n : ℕ) (row : Share) : Type 0 where
  pub quarter : row.start % 900 ≡ 0
  pub following : n < row.start + 900

-- True if the start times of the interval rows never decrease.
abbrev pub NeverFall : List Share → Type 0
NeverFall [] = Unit {0}
NeverFall (row ∷ rows) = All (IsFrom row.start) rows × NeverFall rows

never_at : (rows : List Share) (i j : ℕ) (d : Share) → NeverFall rows → i ≤ j → j < length rows
    → (slice_index_or rows i d).start ≤ (slice_index_or rows j d).start
never_at [] i j d h le lt = absurd (omega (arith, lt))
never_at (row ∷ rows) zero zero d h le lt = omega arith
never_at (row ∷ rows) zero (suc j) d h le lt = h.0 j d (omega (arith, lt))
never_at (row ∷ rows) (suc i) zero d h le lt = absurd (omega (arith, le))
never_at (row ∷ rows) (suc i) (suc j) d h le lt = never_at rows i j d h.1 (omega (arith, le)) (omega (arith, lt))

pub never_decreasing : (rows : List Share) → NeverFall rows → IsNonDecreasingBy (λ row. row.start) rows
never_decreasing rows h = λ i j d le lt. never_at rows i j d h le lt

from_ascending : (n : ℕ) (rows : List Share) → All (λ later. n < later) (starts_of rows) → All (IsFrom n) rows
from_ascending n [] h = All-nil (IsFrom n)
from_ascending n (row ∷ rows) h =
    let P : ℕ → Type 0 = λ later. n < later in
    let lt : n < row.start = All-head P row.start (starts_of rows) h in
    All-cons (IsFrom n) row rows (omega (arith, lt)) (from_ascending n rows (All-tail P row.start (starts_of rows) h))

pub never_ascending : (rows : List Share) → IsAscending (starts_of rows) → NeverFall rows
never_ascending [] h = tt
never_ascending (row ∷ rows) h = (from_ascending row.start rows h.0, never_ascending rows h.1)

-- The start times never decrease from one meter to the next under two conditions. The first meter's
-- rows begin before its last entry, and the rows of later meters end after this entry.
pub never_append : (opened last : ℕ) (xs ys : List Share) → NeverFall xs → NeverFall ys → All (LiesWithin opened last) xs → All (EndsAfter last) ys
    → NeverFall (xs ++ ys)
never_append opened last [] ys h k within following = k
never_append opened last (x ∷ xs) ys h k within following =
    let here : LiesWithin opened last x = All-head (LiesWithin opened last) x xs within in
    let whole : x.start % 900 ≡ 0 = here.quarter in
    let later : All (IsFrom x.start) ys =
    All-weaker (EndsAfter last) (IsFrom x.start) (λ y after. omega (arith, whole, here.before, after.quarter, after.following)) ys following in (
      All-append (IsFrom x.start) xs ys h.0 later,
      never_append opened last xs ys h.1 k (All-tail (LiesWithin opened last) x xs within) following,
    )

-- The rows of a meter end after each time up to the meter's opening (first) entry.
pub end_after : (n opened last : ℕ) (rows : List Share) → n ≤ opened → All (LiesWithin opened last) rows → All (EndsAfter n) rows
end_after n opened last rows le within =
    All-weaker (LiesWithin opened last) (EndsAfter n) (λ row here. record {
      quarter = here.quarter;
      following = let lt : opened < row.start + 900 = here.following in omega (arith, le, lt);
    }) rows within
