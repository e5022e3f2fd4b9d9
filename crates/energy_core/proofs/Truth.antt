-- If a meter shows its true counts and is polled often enough, then all its readings are accepted,
-- and their recorded energy is the true energy.
use Rattle.std.proofs.Common.{◌≡◌, ◌≢◌, ℕ, ℤ, ◌+◌, ◌-◌, ◌*◌, ◌%◌, ◌<◌, ◌≤◌, true, false, not, List, [], ◌∷◌, map, IsTrue, nat_le, nat_lt, if◌then◌else◌, refl, ap, sym, ◌∙◌, arith}
use Rattle.std.proofs.Math.Nat.{mod-lt, mul-le-mul_right, add-mul}
use Rattle.std.proofs.lemmas.Bool.{cases_lt}
use Rattle.std.proofs.lemmas.Bool.Decides.{nat_tests}
use Rattle.std.proofs.Common.{inl, inr}
use Rattle.energy_core.specs.declared.entries.Last.{Last}
use Rattle.energy_core.specs.declared.entries.Step.{Step}
use Rattle.energy_core.specs.declared.entries.Entry.{Entry}
use Rattle.energy_core.specs.declared.entries.Entry.TheVariants as entry
use Rattle.energy_core.specs.declared.verdicts.Terms.{Terms}
use Rattle.energy_core.specs.declared.verdicts.Reading.{Reading}
use Rattle.energy_core.specs.declared.verdicts.Cause.{Cause}
use Rattle.energy_core.specs.declared.verdicts.Cause.TheVariants as cause
use Rattle.energy_core.specs.declared.verdicts.Verdict.{Verdict}
use Rattle.energy_core.specs.declared.verdicts.Verdict.TheVariants.{Accepted, Held}
use Rattle.energy_core.specs.Value.{unit_of}
use Rattle.energy_core.specs.Account.{last_of, energy_of, step_to, steps_of, whole_energy, NeverFalls}
use Rattle.energy_core.specs.Verdict.{judged, distance, applies, causes, verdict_of, can_count}
use Rattle.energy_core.specs.Readings.{verdict_on, entries_of_readings, IsAccepted, AllAccepted}
use Rattle.energy_core.specs.TrueRun.{Item, shown, reported, newest, advance, true_steps, IsTrueRun, IsReadOftenEnough, TruthIsBooked}
use Rattle.energy_core.proofs.Tables.{find-none}
use Rattle.energy_core.proofs.Turns.{distance-shown, turned}
use Rattle.energy_core.proofs.Sums.{whole-cons}
use Rattle.energy_core.proofs.Acceptance.{gained}

accepted : (range : ℕ) (terms : Terms) (last : Last) (reading : Reading) → ((c : Cause) → applies range terms last reading c ≡ false)
    → verdict_of range terms last reading
    ≡ Accepted (if nat_lt reading.raw last.raw then 1 else 0) (distance range last.raw reading.raw * unit_of last.sf)
accepted range terms last reading none =
    ap (judged range last reading) (find-none (applies range terms last reading) causes (
      none cause.NotAccumulated,
      (
        none cause.ScaleChanged,
        (
          none cause.NotBelowRange,
          (
            none cause.NotLater,
            (none cause.SpanTooLong, (none cause.GapTooLong, (none cause.TooFast, (none cause.TotalFull, tt)))),
          ),
        ),
      ),
    ))

-- Suppose that a meter's power is at most `ceiling` W for `seconds` seconds. If its counter can
-- then advance by `d` counts, but not by `range` counts (a full turn), `d` is less than `range`.
less_than_a_turn : (ceiling unit seconds range d : ℕ) → can_count ceiling unit seconds d ≡ true → can_count ceiling unit seconds range ≡ false → d < range
less_than_a_turn ceiling unit seconds range d slow long =
    elim (cases_lt d range) [
      | inl lt ↦ lt
      | inr ge ↦
          let lower : range - 1 ≤ d - 1 = omega arith in
          let under : (range - 1) * unit ≤ (d - 1) * unit = mul-le-mul_right unit lower in
          let at_most : (d - 1) * unit * 18 ≤ ceiling * seconds * 5 = grind (arith, nat_tests) in
          let over : ceiling * seconds * 5 < (range - 1) * unit * 18 = grind (arith, nat_tests) in
          absurd (omega arith)
    ]

not_beyond_range : (range count : ℕ) → 0 < range → nat_le range (count % range) ≡ false
not_beyond_range range count pos = let below : count % range < range = mod-lt count pos in grind (arith, nat_tests)

-- The limits for a reading of a meter that shows its true counts: the ceiling (the greatest power),
-- and the true energy so far.
abbrev terms_after : (ceiling : ℕ) → ℤ → Item → Item → Terms
terms_after ceiling sf first a = record { ceiling = ceiling; total = advance sf first a }

-- Suppose that a reading shows the true count of a meter whose power stayed within its ceiling.
-- Suppose also that no cause of rejection applies, apart from `TooFast` (above the ceiling) and
-- `NotBelowRange` (count out of range). Then these two don't apply either, and the reading is
-- accepted with the true energy.
one_reading : (range ceiling : ℕ) (sf : ℤ) (first a b : Item) → 0 < range → a.count ≤ b.count
    → IsTrue (can_count ceiling (unit_of sf) (b.at - a.at) (b.count - a.count))
    → ((c : Cause) → c ≢ cause.TooFast → c ≢ cause.NotBelowRange
    → applies range (terms_after ceiling sf first a) (shown range sf a) (reported range sf b) c ≡ false)
    → (verdict_of range (terms_after ceiling sf first a) (shown range sf a) (reported range sf b)
    ≡ Accepted (if nat_lt (b.count % range) (a.count % range) then 1 else 0) (advance sf a b))
    × (distance range (a.count % range) (b.count % range) ≡ b.count - a.count)
one_reading range ceiling sf first a b pos on slow others =
    let terms : Terms = terms_after ceiling sf first a in
    let not_far : can_count ceiling (unit_of sf) (b.at - a.at) range ≡ false = others cause.GapTooLong (λ e. cc) (λ e. cc) in
    let less : b.count - a.count < range = less_than_a_turn ceiling (unit_of sf) (b.at - a.at) range (b.count - a.count) slow not_far in
    let sum : a.count + (b.count - a.count) ≡ b.count = omega arith in
    let far : distance range (a.count % range) (b.count % range) ≡ b.count - a.count =
    ap (λ n. distance range (a.count % range) (n % range)) (sym sum) ∙ distance-shown range a.count (b.count - a.count) pos less in
    let none : (c : Cause) → applies range terms (shown range sf a) (reported range sf b) c ≡ false =
    λ c. elim c as (λ c. applies range terms (shown range sf a) (reported range sf b) c ≡ false) [
      | cause.NotAccumulated ↦ others cause.NotAccumulated (λ e. cc) (λ e. cc)
      | cause.ScaleChanged ↦ others cause.ScaleChanged (λ e. cc) (λ e. cc)
      | cause.NotLater ↦ others cause.NotLater (λ e. cc) (λ e. cc)
      | cause.SpanTooLong ↦ others cause.SpanTooLong (λ e. cc) (λ e. cc)
      | cause.GapTooLong ↦ others cause.GapTooLong (λ e. cc) (λ e. cc)
      | cause.TooFast ↦ rw far (ap not slow)
      | cause.TotalFull ↦ others cause.TotalFull (λ e. cc) (λ e. cc)
      | cause.NotBelowRange ↦ not_beyond_range range b.count pos
    ] in (
      accepted range terms (shown range sf a) (reported range sf b) none
          ∙ ap (λ n. Accepted (if nat_lt (b.count % range) (a.count % range) then 1 else 0) (n * unit_of sf)) far,
      far,
    )

-- The invariant of reading a meter at its true counts, one by one: the recorded entries match the
-- true counts and the true energy.
record Booked (range ceiling : ℕ) (sf : ℤ) (first : Item) (items : List Item) (es : List Entry) : Type 0 where
  last : last_of (shown range sf first) es ≡ shown range sf (newest first items)
  on : first.count ≤ (newest first items).count
  never_falls : NeverFalls range (shown range sf first) es
  steps : steps_of range (shown range sf first) es ≡ true_steps sf first items
  whole : whole_energy range (shown range sf first) es ≡ advance sf first (newest first items)

joined : (u first a b w e : ℕ) → first ≤ a → a ≤ b → w ≡ (a - first) * u → e ≡ (b - a) * u → w + e ≡ (b - first) * u
joined u first a b w e p q hw he =
    let s : (b - first) ≡ (a - first) + (b - a) = omega arith in
    let t : (b - first) * u ≡ ((a - first) + (b - a)) * u = ap (λ n. n * u) s in
    let d : ((a - first) + (b - a)) * u ≡ (a - first) * u + (b - a) * u = add-mul (a - first) (b - a) u in
    omega arith

next : (range ceiling : ℕ) (sf : ℤ) (first b : Item) (items : List Item) (es : List Entry) → 0 < range
    → (newest first items).count ≤ b.count
    → Booked range ceiling sf first items es
    → distance range ((newest first items).count % range) (b.count % range) ≡ b.count - (newest first items).count
    → Booked range ceiling sf first (b ∷ items) (entry.Step b.at (b.count % range) (if nat_lt (b.count % range) ((newest first items).count % range) then 1 else 0) ∷ es)
next range ceiling sf first b items es pos on h far =
    let a : Item = newest first items in
    let opening : Last = shown range sf first in
    let rolls : ℕ = if nat_lt (b.count % range) (a.count % range) then 1 else 0 in
    let e : Entry = entry.Step b.at (b.count % range) rolls in
    let t : (a.count % range ≤ b.count % range + rolls * range) × (b.count % range + rolls * range ≡ a.count % range + distance range (a.count % range) (b.count % range)) =
    turned range (a.count % range) (b.count % range) (mod-lt a.count pos) (mod-lt b.count pos) in
    let falls : NeverFalls range opening (e ∷ es) = (rw h.last t.0, h.never_falls) in
    let energy : energy_of range (shown range sf a) e ≡ advance sf a b =
    gained (unit_of sf) (a.count % range) (b.count - a.count) (b.count % range + rolls * range) (t.1 ∙ ap (λ n. a.count % range + n) far) in
    let energy_here : energy_of range (last_of opening es) e ≡ advance sf a b = ap (λ (l : Last). energy_of range l e) h.last ∙ energy in
    let step : step_to range (last_of opening es) e ≡ record { from = a.at; till = b.at; mwh = advance sf a b } =
    ap (λ (l : Last). step_to range l e) h.last ∙ ap (λ (n : ℕ). let s : Step = record { from = a.at; till = b.at; mwh = n } in s) energy in
    record {
      last = ap (λ (l : Last). let r : Last = record { at = b.at; raw = b.count % range; sf = l.sf } in r) h.last;
      on = omega (arith, h.on);
      never_falls = falls;
      steps = ap (λ (s : Step). s ∷ steps_of range opening es) step ∙ ap (λ (ss : List Step). record { from = a.at; till = b.at; mwh = advance sf a b } ∷ ss) h.steps;
      whole = whole-cons range opening e es falls ∙ joined (unit_of sf) first.count a.count b.count _ _ h.on on h.whole energy_here;
    }

nothing_yet : (v u n : ℕ) → (v + 0) - (v + 0) ≡ (n - n) * u
nothing_yet v u n = let z : n - n ≡ 0 = omega arith in let m : (n - n) * u ≡ 0 * u = ap (λ k. k * u) z in omega arith

-- If the recorded entries match the true counts (`Booked`), the next reading gets the same verdict
-- after the entries as after the true counts.
verdict_next : (range ceiling : ℕ) (sf : ℤ) (first b : Item) (items : List Item) (es : List Entry) (v : Verdict)
    → Booked range ceiling sf first items es
    → verdict_of range (terms_after ceiling sf first (newest first items)) (shown range sf (newest first items)) (reported range sf b) ≡ v
    → verdict_on range ceiling (shown range sf first) es (reported range sf b) ≡ v
verdict_next range ceiling sf first b items es v h is = rw (h.whole, h.last) is

is_accepted : (v : Verdict) (rolls step : ℕ) → v ≡ Accepted rolls step → IsAccepted v
is_accepted (Accepted r s) rolls step h = tt
is_accepted (Held c) rolls step h = absurd (cc)

record Run (range ceiling : ℕ) (sf : ℤ) (first : Item) (items : List Item) : Type 0 where
  booked : Booked range ceiling sf first items (entries_of_readings range ceiling (shown range sf first) (map (reported range sf) items))
  accepted : AllAccepted range ceiling (shown range sf first) (map (reported range sf) items)

whole_run : (range ceiling : ℕ) (sf : ℤ) (first : Item) (items : List Item) → 0 < range
    → IsTrueRun ceiling sf first items → IsReadOftenEnough range ceiling sf first items → Run range ceiling sf first items
whole_run range ceiling sf first [] pos run often =
    record {
      booked = record {
        last = refl;
        on = omega arith;
        never_falls = tt;
        steps = refl;
        whole = nothing_yet _ (unit_of sf) first.count;
      };
      accepted = tt;
    }
whole_run range ceiling sf first (b ∷ items) pos run often =
    let before = whole_run range ceiling sf first items pos run.3 often.1 in
    let one = one_reading range ceiling sf first (newest first items) b pos run.1 run.2 often.0 in
    let es : List Entry = entries_of_readings range ceiling (shown range sf first) (map (reported range sf) items) in
    let verdict = verdict_next range ceiling sf first b items es _ before.booked one.0 in
    record {
      booked = rw verdict (next range ceiling sf first b items es pos run.1 before.booked one.1);
      accepted = (is_accepted _ _ _ verdict, before.accepted);
    }

pub truth_is_booked : TruthIsBooked
truth_is_booked range ceiling sf first items pos run often =
    let h = whole_run range ceiling sf first items pos run often in
    record { accepted = h.accepted; steps = h.booked.steps; energy = h.booked.whole }
