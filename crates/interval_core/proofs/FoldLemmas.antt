-- Lemmas: after one more row is added to a `DayFold`, which adds up energy by civil day, it has the
-- sum of all its rows and keeps its invariant.
use Rattle.std.proofs.Common.{◌≡◌, ◌≢◌, ℕ, ◌+◌, ◌-◌, ◌^◌, ◌<◌, ◌≤◌, min, Bool, true, false, not, if◌then◌else◌, List, [], ◌∷◌, ◌++◌, map, length, get_or, take, refl, sym, ap, subst, ◌∙◌, inl, inr, ◌==◌, nat_eq, arith}
use Rattle.std.specs.Prelude.{ℤ, All, Option, Some, None}
use Rattle.std.specs.Option.{ForSome, option_eq}
use Rattle.std.proofs.lemmas.Bool.{cases_Bool}
use Rattle.std.proofs.lemmas.Bool.Decides.{Decides-eqb, not_from_Decides}
use Rattle.std.proofs.lemmas.List.{length-map, length-take, get_or-map, get_or-take}
use Rattle.std.proofs.lemmas.List.Sums.{sum_by_more}
use Rattle.std.specs.List.Sorted.{IsNonDecreasingBy}
use Rattle.std.proofs.lemmas.List.Elements.{All-nil, All-cons, All-head, All-tail, All-append}
use Rattle.interval_core.specs.declared.shares.Share.{Share}
use Rattle.interval_core.specs.declared.totals.DayTotal.{DayTotal}
use Rattle.interval_core.specs.declared.zone.Zone.{Zone}
use Rattle.interval_core.specs.Account.{energy_of}
use Rattle.interval_core.specs.Zone.{day_at}
use Rattle.interval_core.specs.Days.{DayAccount, account_of, AreInOrder, account_on}
use Rattle.interval_core.specs.Fold.{no_rows, HasTaken, IsSoundFold, IsAdded, IsLatest, most_intervals}
use Rattle.interval_core.proofs.OrderLemmas.{All-split, in_order-changed, in_order-inserted}
use Rattle.interval_core.proofs.AccountLemmas.{grown, begun, known-is, is_known, is_latest, latest-push}

-- A property of all elements of a mapped list holds for the image of each original element.
pub All-of_map : {X Y : Type 0} (P : Y → Type 0) (f : X → Y) (xs : List X) → All P (map f xs) → All (λ x. P (f x)) xs
All-of_map P f xs all = λ k d lt. rw (← get_or-map f xs k d (f d) lt) (all k (f d) (rw (length-map xs f) lt))

-- If the state of a `DayFold` (energy by civil day) satisfies its invariant `IsSoundFold`, then no
-- day's number of intervals reaches 2^32 - 1.
pub count-fits : (latest : Option ℕ) (totals : List DayTotal) → IsSoundFold (map account_of totals) latest → All (λ (total : DayTotal). total.count < 2 ^ 32 - 1) totals
count-fits latest totals sound = λ k d lt.
    let P : DayAccount → Type 0 = λ a. a.count ≤ most_intervals latest in
    let small = All-of_map P account_of totals sound.counts k d lt in
    omega (arith, small, sound.moments)

-- Comparing a start time with the latest start time (an option), as the program does, gives the
-- same result as the definition `is_latest`.
pub is_latest-eq : (latest : Option ℕ) (start : ℕ) → option_eq nat_eq latest (Some start) ≡ is_latest latest start
is_latest-eq None start = refl
is_latest-eq (Some latest) start = refl

abbrev IsUpTo : ℕ → DayAccount → Type 0
IsUpTo most account = account.count ≤ most

-- The number of a day's quarter hours that have a row stays within its upper bound
-- (`most_intervals`). A row at a new start adds one quarter hour, and a row at the latest start
-- adds none.
count-more : (latest : Option ℕ) (start had : ℕ) → ForSome latest (λ l. l ≤ start) → had ≤ most_intervals latest → had + (if not (is_latest latest start) then 1 else 0) ≤ start + 1
count-more None start had order bound = omega (arith, bound)
count-more (Some latest) start had order bound =
    let at_most = order latest refl in
    elim (cases_Bool (latest == start)) [
      | inl same ↦ rw same (omega (arith, bound, at_most))
      | inr differs ↦
          let other : latest ≢ start = not_from_Decides (latest == start) (Decides-eqb latest start) differs in
          rw differs (omega (arith, bound, at_most, other))
    ]

most-grows : (latest : Option ℕ) (start : ℕ) → ForSome latest (λ l. l ≤ start) → most_intervals latest ≤ start + 1
most-grows None start order = omega arith
most-grows (Some latest) start order = let bound = order latest refl in omega (arith, bound)

pub sound-added : (latest : Option ℕ) (start : ℕ) (day : ℤ) (mwh : ℕ) (old new : List DayAccount) → IsSoundFold old latest → ForSome latest (λ l. l ≤ start) → start ≤ 4102444800
    → IsAdded day (not (is_latest latest start)) mwh old new → IsSoundFold new (Some start)
sound-added latest start day mwh old new sound order moment (inl grows) =
    let a : DayAccount = record { day = day; count = grows.had_count; mwh = grows.had_mwh } in
    let b : DayAccount = record { day = day; count = grows.had_count + (if not (is_latest latest start) then 1 else 0); mwh = min (grows.had_mwh + mwh) (2 ^ 128 - 1) } in
    let was_in_order : AreInOrder (grows.before ++ a ∷ grows.after) = subst AreInOrder grows.old_is sound.in_order in
    let P : List DayAccount → Type 0 = λ l. All (IsUpTo (most_intervals latest)) l in
    let parts = All-split (IsUpTo (most_intervals latest)) grows.before (a ∷ grows.after) (subst P grows.old_is sound.counts) in
    let had : grows.had_count ≤ most_intervals latest = All-head (IsUpTo (most_intervals latest)) a grows.after parts.1 in
    let after = All-tail (IsUpTo (most_intervals latest)) a grows.after parts.1 in
    let up = most-grows latest start order in
    rw grows.new_is (record {
      in_order = in_order-changed grows.before a b grows.after refl was_in_order;
      counts = All-append (IsUpTo (start + 1)) grows.before (b ∷ grows.after)
          (λ k d lt. let le = parts.0 k d lt in omega (arith, le, up))
          (All-cons (IsUpTo (start + 1)) b grows.after (count-more latest start grows.had_count order had) (λ k d lt. let le = after k d lt in omega (arith, le, up)));
      moments = omega (arith, moment);
    })
sound-added latest start day mwh old new sound order moment (inr begins) =
    let b : DayAccount = record { day = day; count = 1; mwh = mwh } in
    let was_in_order : AreInOrder (begins.before ++ begins.after) = subst AreInOrder begins.old_is sound.in_order in
    let P : List DayAccount → Type 0 = λ l. All (IsUpTo (most_intervals latest)) l in
    let parts = All-split (IsUpTo (most_intervals latest)) begins.before begins.after (subst P begins.old_is sound.counts) in
    let up = most-grows latest start order in
    rw begins.new_is (record {
      in_order = in_order-inserted begins.before b begins.after begins.earlier begins.later was_in_order;
      counts = All-append (IsUpTo (start + 1)) begins.before (b ∷ begins.after)
          (λ k d lt. let le = parts.0 k d lt in omega (arith, le, up))
          (All-cons (IsUpTo (start + 1)) b begins.after (omega arith) (λ k d lt. let le = parts.1 k d lt in omega (arith, le, up)));
      moments = omega (arith, moment);
    })

flipped : (b : Bool) → ◌≡◌ {A = ℕ} (if not b then 1 else 0) (if b then 0 else 1)
flipped true = refl
flipped false = refl

pub taken-added : (zone : Zone) (rows : List Share) (row : Share) (latest : Option ℕ) (old new : List DayAccount) → HasTaken zone rows (record { accounts = old; latest = latest })
    → ForSome latest (λ l. l ≤ row.start) → energy_of rows + row.mwh < 2 ^ 128
    → IsAdded (day_at zone row.start) (not (is_latest latest row.start)) row.mwh old new
    → HasTaken zone (rows ++ row ∷ []) (record { accounts = new; latest = Some row.start })
taken-added zone rows row latest old new taken order fits (inl grows) =
    let counted : (if not (is_latest latest row.start) then 1 else 0) ≡ (if is_known zone rows row.start then 0 else 1) =
    rw (known-is zone rows latest row.start taken.latest order) (flipped (is_latest latest row.start)) in
    record {
      accounts = grown zone rows row (if not (is_latest latest row.start) then 1 else 0) old new taken.accounts grows counted fits;
      latest = latest-push rows latest row taken.latest order;
    }
taken-added zone rows row latest old new taken order fits (inr begins) = record {
  accounts = begun zone rows row old new taken.accounts begins;
  latest = latest-push rows latest row taken.latest order;
}

-- A new `DayFold`, which adds up energy by civil day, has added up the empty list of rows.
pub taken-none : (zone : Zone) → HasTaken zone [] no_rows
taken-none zone = record {
  accounts = record {
    in_order = tt;
    complete = λ day. (λ contains. absurd (omega (arith, contains.1)), λ some. absurd (omega (arith, some)));
    each = All-nil (λ (a : DayAccount). a ≡ account_on zone [] a.day);
  };
  latest = refl;
}

-- In a list of interval rows (energies of quarter hours) ordered by start, each row starts at or
-- after the latest start of the rows before it.
pub latest-before : (rows : List Share) (i latest : ℕ) (d : Share) → IsNonDecreasingBy (λ (row : Share). row.start) rows → i < length rows
    → IsLatest (take i rows) (Some latest) → latest ≤ (get_or rows i d).start
latest-before rows i latest d order within at =
    let start : Share → ℕ = λ row. row.start in
    let k = at.0.0 in
    let place : k < length (take i rows) = rw (← length-map (take i rows) start) at.0.1 in
    let before : k < i = omega (arith, place, length-take i rows) in
    let is : (get_or (take i rows) k d).start ≡ latest = sym (get_or-map start (take i rows) k d latest place) ∙ at.0.2 in
    let same : get_or (take i rows) k d ≡ get_or rows k d = get_or-take i rows k d before in
    let le : (get_or rows k d).start ≤ (get_or rows i d).start = order k i d (omega (arith, before)) within in
    omega (arith, le, is, ap start same)

-- The energy of the first `i` + 1 interval rows (energies of quarter hours) is the energy of the
-- first `i` rows plus that of the next row.
pub energy-more : (rows : List Share) (i : ℕ) (d : Share) → i < length rows → energy_of (take (i + 1) rows) ≡ energy_of (take i rows) + (get_or rows i d).mwh
energy-more rows i d within = sum_by_more (λ (row : Share). row.mwh) rows i d within
