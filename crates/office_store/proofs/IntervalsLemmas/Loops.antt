-- Proofs about adding the energy between two consecutive meter entries to `intervals`, one quarter
-- hour after another.
use Rattle.std.proofs.Common.{◌≡◌, ◌≤◌, ◌<◌, ◌+◌, inl, inr, ℕ, List, [], ◌∷◌, ◌++◌, Ok, Contains, refl, sym, ap, subst, ◌∙◌, arith}
use Rattle.std.specs.List.{list_any, AllByRecursion}
use Rattle.std.proofs.lemmas.Bool.{cases_Bool}
use Rattle.std.proofs.lemmas.List.Sums.{sum_by-cons}
use Rattle.std.proofs.lemmas.List.Elements.{All-contains_itself, recursion_from_All}
use Rattle.sqlite_keyed.proofs.ListLemmas.{all_both, all_unmap}
use Rattle.energy_core.specs.declared.entries.Step.{Step}
use Rattle.interval_core.specs.declared.shares.Share.{Share}
use Rattle.interval_core.specs.Share.{shares_of}
use Rattle.interval_core.specs.Account.{SharesAddUp, starts_of, energy_of}
use Rattle.sqlite.specs.declared.error.Error.{Error}
use Rattle.sqlite.specs.State.{State}
use Rattle.store_tables.specs.Content.{Content, HasRows, changed_where}
use Rattle.store_tables.specs.Steps.{Steps}
use Rattle.store_tables.proofs.StepLemmas.{no_steps, weaker}
use Rattle.office_store.specs.Intervals.Trees.{intervals}
use Rattle.store_tables.specs.Meters.Rows.{greatest_total}
use Rattle.store_tables.specs.Limits.{latest_moment}
use Rattle.office_store.specs.Intervals.Rows.{Interval, interval_columns, is_at, IsSoundShare}
use Rattle.office_store.specs.Intervals.StepShares.{raised, with_share, with_shares, AreSmall, EditsIf, BooksShares}
use Rattle.office_store.proofs.IntervalsLemmas.Kept.{turns_weaker}

-- No quarter hour gets more energy than all quarter hours together.

within_sum : (shares : List Share) (n : ℕ) → energy_of shares ≤ n → AllByRecursion (λ s. s.mwh ≤ n) shares
within_sum [] n h = tt
within_sum (s ∷ shares) n h =
    let mwh : Share → ℕ = λ r. r.mwh in
    let both : energy_of (s ∷ shares) ≡ s.mwh + energy_of shares = sum_by-cons mwh s shares in
    (omega (arith, both, h), within_sum shares n (omega (arith, both, h)))

all_starts : (shares : List Share) (till : ℕ) → ((start : ℕ) → Contains (starts_of shares) start → start < till) → AllByRecursion (λ s. s.start < till) shares
all_starts shares till each =
    all_unmap (λ n. n < till) (λ (s : Share). s.start) shares (recursion_from_All (λ n. n < till) (starts_of shares) (λ i d low. each _ (All-contains_itself (starts_of shares) i d low)))

pub sound_shares : SharesAddUp → (step : Step) → step.from < step.till → step.mwh ≤ greatest_total → step.till ≤ latest_moment → AllByRecursion IsSoundShare (shares_of step)
sound_shares law step forward energy till =
    let spread = law step forward in
    let starts = all_starts (shares_of step) step.till (λ start has. ((spread.touched start).0 has).1) in
    let sums = within_sum (shares_of step) step.mwh (omega (arith, spread.whole)) in
    all_both _ _ _ (λ s start mwh. record { start = omega (arith, start, till); mwh = omega (arith, mwh, energy) }) (shares_of step) starts sums

-- If two edits of `intervals` follow each other, they have the effect of the one edit that combines
-- both.

edits_then : (May One Two : List Interval → Type 0) (all one two : List Interval → List Interval)
    → ((is : List Interval) → May is → One is × Two (one is) × (two (one is) ≡ all is)) → (x y z : Content) → EditsIf One one x y → EditsIf Two two y z → EditsIf May all x z
edits_then May One Two all one two goes x y z first second = record {
  rows = λ is has may.
      let it = goes is may in
      subst (λ js. HasRows intervals interval_columns js z) it.2 (second.rows (one is) (first.rows is has it.0) it.1);
  others = λ t off. second.others t off ∙ first.others t off;
}

no_edit : (May : List Interval → Type 0) (content after : Content) → after ≡ content → EditsIf May (λ is. is) content after
no_edit May content after same = record {
  rows = λ is has may. subst (HasRows intervals interval_columns is) (sym same) has;
  others = λ t off. ap (λ (f : Content). f t) same;
}

-- Lemmas that adding energy to `intervals` one quarter hour after another has the effect of adding
-- all quarter hours at once.

raised_small : (meter : List ℕ) (start mwh : ℕ) (is : List Interval) → AreSmall (changed_where (is_at meter start) (raised mwh) is) → AreSmall is
raised_small meter start mwh [] small = tt
raised_small meter start mwh (i ∷ is) small = elim (cases_Bool (is_at meter start i)) [
  | inl here ↦ (omega (arith, rw here at small.0), raised_small meter start mwh is small.1)
  | inr off ↦ (rw off at small.0, raised_small meter start mwh is small.1)
]

small_before : (meter : List ℕ) (share : Share) (is : List Interval) → AreSmall (with_share meter share is) → AreSmall is
small_before meter share is small = elim (cases_Bool (list_any (is_at meter share.start) is)) [
  | inl there ↦ raised_small meter share.start share.mwh is (rw there at small)
  | inr none ↦ (rw none at small).1
]

with_one_more : (meter : List ℕ) (shares : List Share) (share : Share) (is : List Interval) → with_share meter share (with_shares meter shares is) ≡ with_shares meter (shares ++ share ∷ []) is
with_one_more meter [] share is = refl
with_one_more meter (s ∷ shares) share is = with_one_more meter shares share (with_share meter s is)

pub booked_then : (meter : List ℕ) (shares : List Share) (share : Share) (x y z : Content) → BooksShares meter shares x y → BooksShares meter (share ∷ []) y z → BooksShares meter (shares ++ share ∷ []) x z
booked_then meter shares share =
    edits_then (λ is. AreSmall (with_shares meter (shares ++ share ∷ []) is)) (λ is. AreSmall (with_shares meter shares is)) (λ is. AreSmall (with_share meter share is))
    (with_shares meter (shares ++ share ∷ [])) (with_shares meter shares) (with_share meter share)
    (λ is small.
    let last = subst AreSmall (sym (with_one_more meter shares share is)) small in
    (small_before meter share (with_shares meter shares is) last, last, with_one_more meter shares share is))

pub nothing_booked : (meter : List ℕ) (a : State) → Steps {X = Unit {0}} {E = Error} a a (Ok tt) (BooksShares meter [])
nothing_booked meter a = weaker a a (Ok tt) _ _ (turns_weaker _ _ a.now a.now (no_edit AreSmall)) (no_steps a tt)
