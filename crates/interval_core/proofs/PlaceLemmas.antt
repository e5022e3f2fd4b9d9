-- Lemmas: adding a row at the index of its day changes only this day's account in the list of day
-- accounts (energies of civil days).
use Rattle.std.proofs.Common.{◌≡◌, ◌≢◌, ℕ, zero, suc, ◌+◌, ◌-◌, ◌^◌, ◌<◌, ◌≤◌, min, List, [], ◌∷◌, ◌++◌, map, length, get_or, set, take, drop, sym, ap, ◌∙◌, refl, true, false, inl, inr, arith}
use Rattle.std.specs.Prelude.{ℤ, ◌<ℤ◌, ◌≤ℤ◌, All, Contains, insert}
use Rattle.std.specs.Ordering.{int_eq}
use Rattle.std.proofs.Math.Seq.{drop-cons}
use Rattle.std.proofs.lemmas.Bool.{cases_lt}
use Rattle.std.proofs.lemmas.Bool.Decides.{Decides-int_eq, not_from_Decides}
use Rattle.std.proofs.lemmas.List.{length-map, get_or-map, map-set, map-append, set_split, take-append-drop, take-map, drop-map, drop_all}
use Rattle.std.proofs.lemmas.List.Elements.{All-nil, All-cons, All-head, All-append, All-weaker, All-map, All-contains}
use Rattle.jiff.proofs.SpanFacts.{signed_arith}
use Rattle.jiff.specs.Words.{epoch_day}
use Rattle.interval_core.specs.declared.totals.DayTotal.{DayTotal}
use Rattle.interval_core.specs.Days.{DayAccount, account_of, days_of, AreInOrder}
use Rattle.interval_core.specs.Fold.{HoldsDay, IsGap, Grows, Begins}
use Rattle.interval_core.proofs.OrderLemmas.{Earlier, Later}

abbrev pub NotEarlier : ℤ → DayAccount → Type 0
NotEarlier day account = day ≤ℤ account.day

-- True if the day account (the energy of a civil day) is of a day other than the given day.
abbrev pub Other : ℤ → DayAccount → Type 0
Other day account = account.day ≢ day

-- Converting a list of day totals to day accounts converts the day total at each index.
pub account-at : (totals : List DayTotal) (n : ℕ) (t : DayTotal) → n < length totals → t ≡ get_or totals n t
    → get_or (map account_of totals) n (account_of t) ≡ account_of t
account-at totals n t within is = get_or-map account_of totals n t (account_of t) within ∙ sym (ap account_of is)

pub same_day : (x y : ℤ) → int_eq x y ≡ true → x ≡ y
same_day x y test = (Decides-int_eq x y).0 test

pub other_day : (x y : ℤ) → int_eq x y ≡ false → x ≢ y
other_day x y test = not_from_Decides (int_eq x y) (Decides-int_eq x y) test

-- The day accounts (energies of civil days) from an index on are in order if the complete list is
-- in order.
in_order-drop : (n : ℕ) (accounts : List DayAccount) → AreInOrder accounts → AreInOrder (drop n accounts)
in_order-drop zero accounts order = order
in_order-drop (suc n) [] order = tt
in_order-drop (suc n) (a ∷ accounts) order = in_order-drop n accounts order.1

-- Suppose that a day has no day account (the energy of a civil day) at the index where it belongs
-- in an ordered list. Then the accounts from this index on are of later days.
pub later-from : (day : ℤ) (accounts : List DayAccount) (n : ℕ) (d : DayAccount) → AreInOrder accounts → n ≤ length accounts → All (NotEarlier day) (drop n accounts)
    → (n < length accounts → (get_or accounts n d).day ≢ day) → All (Later day) (drop n accounts)
later-from day accounts n d order within others other =
    elim (cases_lt n (length accounts)) [
      | inl lt ↦
          let a = get_or accounts n d in
          let split = drop-cons accounts n d lt in
          let here : day <ℤ a.day =
          let le = All-head (NotEarlier day) a (drop (suc n) accounts) (rw split at others) in
          let apart = other lt in
          omega (arith, signed_arith, le, apart) in
          let order_here : AreInOrder (a ∷ drop (suc n) accounts) = rw split at (in_order-drop n accounts order) in
          rw split (All-cons (Later day) a (drop (suc n) accounts) here
          (All-weaker (Later a.day) (Later day) (λ x lt'. omega (arith, signed_arith, here, lt')) (drop (suc n) accounts) order_here.0))
      | inr ge ↦
          let none : drop n accounts ≡ [] = drop_all n accounts ge in
          rw none (All-nil (Later day))
    ]

-- Replacing a day account (the energy of a civil day) by one of the same day changes only this
-- account of the list. The new account has `count` more intervals and `mwh` more energy, but at
-- most 2^128 - 1 mWh.
pub grows : (day : ℤ) (count mwh : ℕ) (totals : List DayTotal) (n : ℕ) (t u : DayTotal) → HoldsDay day (map account_of totals) n → t ≡ get_or totals n t
    → epoch_day u.day ≡ day → u.count ≡ t.count + count → u.mwh ≡ min (t.mwh + mwh) (2 ^ 128 - 1)
    → Grows day count mwh (map account_of totals) (map account_of (set totals n u))
grows day count mwh totals n t u holds is there counted added =
    let accounts = map account_of totals in
    let inside : n < length accounts = holds.0 in
    let within : n < length totals = rw (← length-map totals account_of) inside in
    let here : epoch_day t.day ≡ day = rw (account-at totals n t within is) at (holds.1 (account_of t)) in
    let old : account_of t ≡ record { day = day; count = t.count; mwh = t.mwh } = rw here in
    let new : account_of u ≡ record { day = day; count = t.count + count; mwh = min (t.mwh + mwh) (2 ^ 128 - 1) } = rw (there, counted, added) in
    record {
      before = take n accounts;
      after = drop (suc n) accounts;
      had_count = t.count;
      had_mwh = t.mwh;
      old_is = sym (take-append-drop n accounts) ∙ ap (λ (l : List DayAccount). take n accounts ++ l)
          (drop-cons accounts n (account_of t) inside ∙ ap (λ (a : DayAccount). a ∷ drop (suc n) accounts) (account-at totals n t within is ∙ old));
      new_is = map-set account_of totals n u ∙ set_split accounts n (account_of u) inside
          ∙ ap (λ (a : DayAccount). take n accounts ++ a ∷ drop (suc n) accounts) new;
    }

-- Inserting a day account (the energy of a civil day) for a day without one adds only this account
-- to the list.
pub begins : (day : ℤ) (mwh : ℕ) (totals : List DayTotal) (n : ℕ) (u : DayTotal) → IsGap day (map account_of totals) n
    → epoch_day u.day ≡ day → u.count ≡ 1 → u.mwh ≡ mwh → Begins day mwh (map account_of totals) (map account_of (insert totals n u))
begins day mwh totals n u gap there counted added =
    let accounts = map account_of totals in
    let new : account_of u ≡ record { day = day; count = 1; mwh = mwh } = rw (there, counted, added) in
    record {
      before = take n accounts;
      after = drop n accounts;
      earlier = gap.earlier;
      later = gap.later;
      old_is = sym (take-append-drop n accounts);
      new_is = map-append account_of (take n totals) (u ∷ drop n totals)
          ∙ rw (take-map account_of n totals, drop-map account_of n totals, new);
    }

-- If all day accounts of a list are of days earlier or later than a given day, no day account is of
-- this day.
pub absent : (day : ℤ) (before after : List DayAccount) → All (Earlier day) before → All (Later day) after → All (Other day) (before ++ after)
absent day before after earlier later =
    All-append (Other day) before after
    (All-weaker (Earlier day) (Other day) (λ x lt same. omega (arith, signed_arith, lt, same)) before earlier)
    (All-weaker (Later day) (Other day) (λ x lt same. omega (arith, signed_arith, lt, same)) after later)

pub not_contained : (day : ℤ) (accounts : List DayAccount) → All (Other day) accounts → Contains (days_of accounts) day → ⊥
not_contained day accounts others contains =
    let P : ℤ → Type 0 = λ x. x ≢ day in
    All-contains P (days_of accounts) day (All-map P (λ (a : DayAccount). a.day) accounts others) contains refl
