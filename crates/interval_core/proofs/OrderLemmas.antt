-- Lemmas: a list of day accounts (energies of civil days) in the order of their days stays in order
-- if an account is replaced or inserted at its index.
use Rattle.std.proofs.Common.{◌≡◌, ℕ, zero, suc, ◌<◌, List, [], ◌∷◌, ◌++◌, length, get_or, take, true, false, arith}
use Rattle.std.specs.Prelude.{ℤ, ◌<ℤ◌, ◌≤ℤ◌, All}
use Rattle.std.specs.Cmp.{int_ranks}
use Rattle.std.specs.Ordering.{MatchOrdering, int_cmp, is_le}
use Rattle.std.specs.declared.cmp.Ordering.TheVariants.{Less, Equal, Greater}
use Rattle.jiff.proofs.SpanFacts.{signed_arith}
use Rattle.std.proofs.lemmas.List.Elements.{All-nil, All-cons, All-head, All-tail, All-append, All-get_or}
use Rattle.interval_core.specs.Days.{DayAccount, AreInOrder}

-- True if the day account (the energy of a civil day) is of a day before the given day.
abbrev pub Earlier : ℤ → DayAccount → Type 0
Earlier day account = account.day <ℤ day

abbrev pub Later : ℤ → DayAccount → Type 0
Later day account = day <ℤ account.day

-- If a day account in an ordered list is of a day before `day`, then all earlier accounts of the
-- list are also of days before `day`. A day account is the energy of a civil day.
pub earlier-take : (day : ℤ) (accounts : List DayAccount) (place : ℕ) (d : DayAccount) → AreInOrder accounts → place < length accounts
    → (get_or accounts place d).day <ℤ day → All (Earlier day) (take (suc place) accounts)
earlier-take day [] place d order within last = absurd (omega arith)
earlier-take day (a ∷ rest) zero d order within last = All-cons (Earlier day) a [] last (All-nil (Earlier day))
earlier-take day (a ∷ rest) (suc place) d order within last =
    let here : a.day <ℤ (get_or rest place d).day = All-get_or (Later a.day) rest place d (omega arith) order.0 in
    All-cons (Earlier day) a (take (suc place) rest) (omega (arith, signed_arith, here, last)) (earlier-take day rest place d order.1 (omega arith) last)

-- A property of all elements of two concatenated lists is a property of all elements of each list.
pub All-split : {X : Type 0} (P : X → Type 0) (xs ys : List X) → All P (xs ++ ys) → All P xs × All P ys
All-split P [] ys all = (All-nil P, all)
All-split P (x ∷ xs) ys all =
    let tail = All-split P xs ys (All-tail P x (xs ++ ys) all) in
    (All-cons P x xs (All-head P x (xs ++ ys) all) tail.0, tail.1)

-- In an ordered list of day accounts (energies of civil days), accounts before an account are of
-- earlier days, and later accounts of later days.
pub in_order-between : (before : List DayAccount) (a : DayAccount) (after : List DayAccount) → AreInOrder (before ++ a ∷ after)
    → All (Earlier a.day) before × All (Later a.day) after
in_order-between [] a after order = (All-nil (Earlier a.day), order.0)
in_order-between (b ∷ before) a after order =
    let tail = in_order-between before a after order.1 in
    let parts = All-split (Later b.day) before (a ∷ after) order.0 in
    (All-cons (Earlier a.day) b before (All-head (Later b.day) a after parts.1) tail.0, tail.1)

-- A list of day accounts (energies of civil days) stays in order if an account is replaced by
-- another account of the same day.
pub in_order-changed : (before : List DayAccount) (a b : DayAccount) (after : List DayAccount) → b.day ≡ a.day → AreInOrder (before ++ a ∷ after)
    → AreInOrder (before ++ b ∷ after)
in_order-changed [] a b after same order = (rw same order.0, order.1)
in_order-changed (x ∷ before) a b after same order =
    let parts = All-split (Later x.day) before (a ∷ after) order.0 in
    let here : x.day <ℤ b.day = rw same (All-head (Later x.day) a after parts.1) in (
      All-append (Later x.day) before (b ∷ after) parts.0 (All-cons (Later x.day) b after here (All-tail (Later x.day) a after parts.1)),
      in_order-changed before a b after same order.1,
    )

-- A list of day accounts (energies of civil days) stays in order if an account is inserted between
-- the earlier and the later days.
pub in_order-inserted : (before : List DayAccount) (a : DayAccount) (after : List DayAccount) → All (Earlier a.day) before → All (Later a.day) after
    → AreInOrder (before ++ after) → AreInOrder (before ++ a ∷ after)
in_order-inserted [] a after earlier later order = (later, order)
in_order-inserted (x ∷ before) a after earlier later order =
    let parts = All-split (Later x.day) before after order.0 in (
      All-append (Later x.day) before (a ∷ after) parts.0 (All-cons (Later x.day) a after (All-head (Earlier a.day) x before earlier) parts.1),
      in_order-inserted before a after (All-tail (Earlier a.day) x before earlier) later order.1,
    )

-- A comparison that returns "less or equal" means that the first number is at most the second.
pub le_from_cmp : (x y : ℤ) → is_le (int_cmp x y) ≡ true → x ≤ℤ y
le_from_cmp x y test =
    elim (int_cmp x y) as (λ r. MatchOrdering r (x <ℤ y) (x ≡ y) (y <ℤ x) → is_le r ≡ true → x ≤ℤ y) [
      | Less ↦ λ lt _. omega (arith, signed_arith, lt)
      | Equal ↦ λ eq _. omega (arith, signed_arith, eq)
      | Greater ↦ λ gt no. cc
    ] (int_ranks x y) test

pub lt_from_cmp : (x y : ℤ) → is_le (int_cmp x y) ≡ false → y <ℤ x
lt_from_cmp x y test =
    elim (int_cmp x y) as (λ r. MatchOrdering r (x <ℤ y) (x ≡ y) (y <ℤ x) → is_le r ≡ false → y <ℤ x) [
      | Less ↦ λ lt no. cc
      | Equal ↦ λ eq no. cc
      | Greater ↦ λ gt _. gt
    ] (int_ranks x y) test
