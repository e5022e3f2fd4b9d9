-- Lemmas: if a range of days is cut in two at a day, the energies of both parts add up to the
-- energy of the range.
use Rattle.std.proofs.Common.{◌≡◌, ℕ, ◌+◌, Bool, true, false, cond, Option, Some, None, List, [], ◌∷◌, refl, arith}
use Rattle.std.specs.Prelude.{ℤ, ◌<ℤ◌, ◌≤ℤ◌, ◌&&◌}
use Rattle.std.specs.Ordering.{MatchOrdering, int_cmp, is_le, is_lt}
use Rattle.std.specs.declared.cmp.Ordering.{Ordering}
use Rattle.std.specs.declared.cmp.Ordering.TheVariants.{Less, Equal, Greater}
use Rattle.std.specs.Cmp.{int_ranks}
use Rattle.std.proofs.lemmas.Bool.{not-false}
use Rattle.std.proofs.lemmas.Int.{by_lt_z}
use Rattle.std.proofs.lemmas.List.Sums.{sum_by-cons}
use Rattle.jiff_core.specs.declared.civil.date.Date.{Date}
use Rattle.jiff_core.proofs.SignedLemmas.{signed_arith}
use Rattle.jiff.specs.Words.{epoch_day}
use Rattle.interval_core.specs.declared.totals.DayTotal.{DayTotal}
use Rattle.energy_report.specs.Laws.{energy_of_days, range}
use Rattle.interval_core.specs.Ranges.{begins_by, days_in, ends_after, ends_before, is_in}

pub le_of : (r : Ordering) (a b : ℤ) → MatchOrdering r (a <ℤ b) (a ≡ b) (b <ℤ a) → is_le r ≡ true → a ≤ℤ b
le_of Less a b is le = omega (arith, signed_arith, is)
le_of Equal a b is le = omega (arith, signed_arith, is)
le_of Greater a b is le = absurd (let h : false ≡ true = le in cc)

pub of_le : (r : Ordering) (a b : ℤ) → MatchOrdering r (a <ℤ b) (a ≡ b) (b <ℤ a) → a ≤ℤ b → is_le r ≡ true
of_le Less a b is le = refl
of_le Equal a b is le = refl
of_le Greater a b is le = absurd (omega (arith, signed_arith, is, le))

pub not_le : (r : Ordering) (a b : ℤ) → MatchOrdering r (a <ℤ b) (a ≡ b) (b <ℤ a) → b <ℤ a → is_le r ≡ false
not_le Less a b is lt = absurd (omega (arith, signed_arith, is, lt))
not_le Equal a b is lt = absurd (omega (arith, signed_arith, is, lt))
not_le Greater a b is lt = refl

pub of_lt : (r : Ordering) (a b : ℤ) → MatchOrdering r (a <ℤ b) (a ≡ b) (b <ℤ a) → a <ℤ b → is_lt r ≡ true
of_lt Less a b is lt = refl
of_lt Equal a b is lt = absurd (omega (arith, signed_arith, is, lt))
of_lt Greater a b is lt = absurd (omega (arith, signed_arith, is, lt))

pub not_lt : (r : Ordering) (a b : ℤ) → MatchOrdering r (a <ℤ b) (a ≡ b) (b <ℤ a) → b ≤ℤ a → is_lt r ≡ false
not_lt Less a b is le = absurd (omega (arith, signed_arith, is, le))
not_lt Equal a b is le = refl
not_lt Greater a b is le = refl

-- If a range of days begins on or before the day of a cut, then it begins on or before each later
-- day.
begun : (from : Option Date) (cut day : Date) → begins_by from cut ≡ true → epoch_day cut ≤ℤ epoch_day day → begins_by from day ≡ true
begun None cut day by le = refl
begun (Some first) cut day by le =
    let here : epoch_day first ≤ℤ epoch_day cut = le_of (int_cmp (epoch_day first) (epoch_day cut)) (epoch_day first) (epoch_day cut) (int_ranks (epoch_day first) (epoch_day cut)) by in
    of_le (int_cmp (epoch_day first) (epoch_day day)) (epoch_day first) (epoch_day day) (int_ranks (epoch_day first) (epoch_day day)) (omega (arith, signed_arith, here, le))

-- Suppose that a range of days is cut at a day into an earlier and a later part. If the range ends
-- on or after the day of the cut, then it ends after each day before the cut.
open_still : (till : Option Date) (cut day : Date) → ends_before (Some cut) till ≡ false → epoch_day day <ℤ epoch_day cut → ends_after till day ≡ true
open_still None cut day ordered lt = refl
open_still (Some last) cut day ordered lt =
    let here : epoch_day cut ≤ℤ epoch_day last = le_of (int_cmp (epoch_day cut) (epoch_day last)) (epoch_day cut) (epoch_day last) (int_ranks (epoch_day cut) (epoch_day last)) (not-false (begins_by (Some cut) last) ordered) in
    of_lt (int_cmp (epoch_day day) (epoch_day last)) (epoch_day day) (epoch_day last) (int_ranks (epoch_day day) (epoch_day last)) (omega (arith, signed_arith, here, lt))

-- The arguments say whether a day is in each of the two parts into which a range of days is cut,
-- and in the range. True if a day of the range is in exactly one part, and any other day in
-- neither.
abbrev Once : (first second whole : Bool) → Type 0
Once first second whole = (n : ℕ) → cond first n 0 + cond second n 0 ≡ cond whole n 0

in_first : (b e : Bool) → Once (b && true) (false && e) (b && true)
in_first true e n = omega arith
in_first false e n = refl

in_second : (e : Bool) → Once false e e
in_second true n = omega arith
in_second false n = refl

pub once : (from till : Option Date) (cut day : Date) → ends_before from (Some cut) ≡ false → ends_before (Some cut) till ≡ false
    → Once (is_in (range from (Some cut)) day) (is_in (range (Some cut) till) day) (is_in (range from till) day)
once from till cut day first second = by_lt_z (epoch_day day) (epoch_day cut)
    (λ lt.
    let ends : ends_after (Some cut) day ≡ true = of_lt (int_cmp (epoch_day day) (epoch_day cut)) (epoch_day day) (epoch_day cut) (int_ranks (epoch_day day) (epoch_day cut)) lt in
    let begins : begins_by (Some cut) day ≡ false = not_le (int_cmp (epoch_day cut) (epoch_day day)) (epoch_day cut) (epoch_day day) (int_ranks (epoch_day cut) (epoch_day day)) lt in
    rw (ends, begins, open_still till cut day second lt) (in_first (begins_by from day) (ends_after till day)))
    (λ ge.
    let ends : ends_after (Some cut) day ≡ false = not_lt (int_cmp (epoch_day day) (epoch_day cut)) (epoch_day day) (epoch_day cut) (int_ranks (epoch_day day) (epoch_day cut)) ge in
    let begins : begins_by (Some cut) day ≡ true = of_le (int_cmp (epoch_day cut) (epoch_day day)) (epoch_day cut) (epoch_day day) (int_ranks (epoch_day cut) (epoch_day day)) ge in
    rw (ends, begins, begun from cut day (not-false (begins_by from cut) first) ge) (in_second (ends_after till day)))

-- If a day passes a test, then adding the day to a list adds its energy to that of the days that
-- pass the test. Otherwise this energy is unchanged.
kept : (b : Bool) (total : DayTotal) (days : List DayTotal) → energy_of_days (cond b (total ∷ days) days) ≡ cond b total.mwh 0 + energy_of_days days
kept true total days = sum_by-cons (λ (day : DayTotal). day.mwh) total days
kept false total days = omega arith

pub parts_add_up : (from till : Option Date) (cut : Date) (days : List DayTotal) → ends_before from (Some cut) ≡ false → ends_before (Some cut) till ≡ false
    → energy_of_days (days_in (range from (Some cut)) days) + energy_of_days (days_in (range (Some cut) till) days)
    ≡ energy_of_days (days_in (range from till) days)
parts_add_up from till cut [] first second = refl
parts_add_up from till cut (total ∷ days) first second =
    let a = days_in (range from (Some cut)) days in
    let b = days_in (range (Some cut) till) days in
    let c = days_in (range from till) days in
    let here = once from till cut total.day first second total.mwh in
    let more = parts_add_up from till cut days first second in
    omega (
      arith,
      here,
      more,
      kept (is_in (range from (Some cut)) total.day) total a,
      kept (is_in (range (Some cut) till) total.day) total b,
      kept (is_in (range from till) total.day) total c,
    )
