-- Lemmas on adding up energy intervals (energies of quarter hours) by civil day, one interval after
-- another. The result is the sum of all intervals, or a failure.
use Rattle.std.proofs.Common.{◌≡◌, ℕ, ◌+◌, ◌<◌, ◌^◌, List, [], ◌∷◌, ◌++◌, Option, Some, None, refl, sym, ap, subst, ◌∙◌, arith, append_assoc}
use Rattle.std.specs.Prelude.{Contains, MatchOption, unwrap_or}
use Rattle.std.proofs.lemmas.List.{append-nil}
use Rattle.std.proofs.lemmas.List.Sums.{sum_by-append, sum_by-cons}
use Rattle.interval_core.specs.Account.{energy_of, starts_of}
use Rattle.interval_core.specs.Fold.{FoldState, HasTaken, IsLatest}
use Rattle.interval_core.specs.declared.day.DayFault.{DayFault}
use Rattle.interval_core.specs.declared.day.DayFault.TheVariants as fault
use Rattle.interval_core.specs.declared.shares.Share.{Share}
use Rattle.interval_core.specs.declared.zone.Zone.{Zone}
use Rattle.office_books.specs.Rows.{TakesAll}
use Rattle.carried_books.specs.declared.joining.days.JoinedDays.{JoinedDays}
use Rattle.carried_books.specs.Joining.Days.{AddsRow, AddsUp, AddUp, AreOutOfTurn, HasNumber, TakesShare}

-- Lemmas: an energy interval (energy of a quarter hour) is out of order if it starts before the
-- latest start among the intervals that were added earlier.

behind_latest : (rows : List Share) (latest : Option ℕ) (row : Share) → IsLatest rows latest → row.start < unwrap_or latest 0
    → (earlier : ℕ) × Contains (starts_of rows) earlier × (row.start < earlier)
behind_latest rows None row at less = absurd (omega (arith, less))
behind_latest rows (Some start) row at less = (start, at.0, less)

pub behind : (zone : Zone) (rows : List Share) (fold : FoldState) (latest : Option ℕ) (row : Share) → fold.latest ≡ latest → HasTaken zone rows fold
    → (bound : ℕ) → bound ≡ unwrap_or latest 0 → row.start < bound
    → (earlier : ℕ) × Contains (starts_of rows) earlier × (row.start < earlier)
behind zone rows fold latest row same taken bound is less =
    behind_latest rows latest row (subst (IsLatest rows) same taken.latest) (subst (λ n. row.start < n) is less)

-- If the total energy of a list of intervals fits in 128 bits, then that of each initial part of
-- the list fits too.
pub first_has : (done rest : List Share) → HasNumber (done ++ rest) → HasNumber done
first_has done rest fits =
    let both : energy_of (done ++ rest) ≡ energy_of done + energy_of rest = sum_by-append (λ (r : Share). r.mwh) done rest in
    omega (arith, fits, both)

with_row : (done : List Share) (row : Share) → HasNumber (done ++ row ∷ []) → energy_of done + row.mwh < 2 ^ 128
with_row done row fits =
    let both : energy_of (done ++ row ∷ []) ≡ energy_of done + energy_of (row ∷ []) = sum_by-append (λ (r : Share). r.mwh) done (row ∷ []) in
    let one : energy_of (row ∷ []) ≡ row.mwh + energy_of [] = sum_by-cons (λ (r : Share). r.mwh) row [] in
    omega (arith, fits, both, one)

-- Suppose that an energy interval (energy of a quarter hour) is added to the sum of the intervals
-- `done` by civil day. The result is the sum of `done` and this interval, or a failure.
adds_up : (failed : Option DayFault) (zone : Zone) (done : List Share) (row : Share) (fold : FoldState) → AddsUp failed zone done row fold
    → AddUp failed zone (done ++ row ∷ []) fold
adds_up None zone done row fold adds = adds
adds_up (Some fault.Zone) zone done row fold adds = record { before = done; row = row; after = []; are = refl; is = adds }
adds_up (Some fault.Memory) zone done row fold adds = tt

still_out : (done : List Share) (row : Share) → AreOutOfTurn done → AreOutOfTurn (done ++ row ∷ [])
still_out done row out = record {
  before = out.before;
  row = out.row;
  after = out.after ++ row ∷ [];
  are = ap (λ (rows : List Share). rows ++ row ∷ []) out.are ∙ append_assoc out.before (out.row ∷ out.after) (row ∷ []);
  is = out.is;
}

-- If one more interval is passed to the sum of the intervals `done` by civil day, then the result
-- is the sum of `done` and this interval, or a failure. The time zone of the sum is unchanged.
add_one : (failed : Option DayFault) (done : List Share) (row : Share) (s next : JoinedDays) → s.fault ≡ failed → HasNumber (done ++ row ∷ [])
    → AddUp failed s.zone done s.fold → MatchOption failed (AddsRow s row next) (λ fault. next ≡ s)
    → (next.zone ≡ s.zone) × AddUp next.fault s.zone (done ++ row ∷ []) next.fold
add_one None done row s next is fits added step =
    (step.zone, adds_up next.fault s.zone done row next.fold (step.added done added (with_row done row fits)))
add_one (Some fault.Zone) done row s next is fits added step =
    let Q : JoinedDays → Type 0 = λ t. (t.zone ≡ s.zone) × AddUp t.fault s.zone (done ++ row ∷ []) t.fold in
    let P : Option DayFault → Type 0 = λ f. AddUp f s.zone (done ++ row ∷ []) s.fold in
    subst Q (sym step) (refl, subst P (sym is) (still_out done row added))
add_one (Some fault.Memory) done row s next is fits added step =
    let Q : JoinedDays → Type 0 = λ t. (t.zone ≡ s.zone) × AddUp t.fault s.zone (done ++ row ∷ []) t.fold in
    let P : Option DayFault → Type 0 = λ f. AddUp f s.zone (done ++ row ∷ []) s.fold in
    subst Q (sym step) (refl, subst P (sym is) tt)

-- If the intervals `rest` are passed to the sum of the intervals `done` by civil day, then the
-- result is the sum of `done` and `rest`, or a failure. The time zone of the sum is unchanged.
pub add_all : (zone : Zone) (done rest : List Share) (s after : JoinedDays) → s.zone ≡ zone → HasNumber (done ++ rest) → AddUp s.fault zone done s.fold
    → TakesAll TakesShare s rest after → (after.zone ≡ zone) × AddUp after.fault zone (done ++ rest) after.fold
add_all zone done [] s after is fits added took =
    let P : JoinedDays → Type 0 = λ t. (t.zone ≡ zone) × AddUp t.fault zone (done ++ []) t.fold in
    let Q : List Share → Type 0 = λ rows. AddUp s.fault zone rows s.fold in
    subst P (sym took) (is, subst Q (sym (append-nil done)) added)
add_all zone done (row ∷ rest) s after is fits added took =
    let same : (done ++ row ∷ []) ++ rest ≡ done ++ row ∷ rest = append_assoc done (row ∷ []) rest in
    let fit = subst HasNumber (sym same) fits in
    let one = add_one s.fault done row s took.0 refl (first_has (done ++ row ∷ []) rest fit)
    (subst (λ (z : Zone). AddUp s.fault z done s.fold) (sym is) added) took.1 in
    let next = subst (λ (z : Zone). AddUp took.0.fault z (done ++ row ∷ []) took.0.fold) is one.1 in
    let all = add_all zone (done ++ row ∷ []) rest took.0 after (one.0 ∙ is) fit next took.2 in
    (all.0, subst (λ (rows : List Share). AddUp after.fault zone rows after.fold) same all.1)

-- Adding energy intervals (energies of quarter hours) to a sum by day leaves the time zone of the
-- sum unchanged.

one_zone : (failed : Option DayFault) (row : Share) (s next : JoinedDays) → MatchOption failed (AddsRow s row next) (λ fault. next ≡ s) → next.zone ≡ s.zone
one_zone None row s next step = step.zone
one_zone (Some f) row s next step = ap (λ (t : JoinedDays). t.zone) step

pub same_zone : (rest : List Share) (s after : JoinedDays) → TakesAll TakesShare s rest after → after.zone ≡ s.zone
same_zone [] s after took = ap (λ (t : JoinedDays). t.zone) took
same_zone (row ∷ rest) s after took = same_zone rest took.0 after took.2 ∙ one_zone s.fault row s took.0 took.1
