-- Lemmas that `entered`, the check of entries, records each accepted reading as an entry, with the
-- energy that the verdict on the reading states.
use Rattle.std.proofs.Common.{◌==◌, ◌≢◌, nat_le, ◌≡◌, ℕ, ℤ, ◌+◌, ◌-◌, ◌*◌, ◌<◌, ◌≤◌, false, not, nat_lt, if◌then◌else◌, Option, Some, None, ap, sym, refl, ◌∙◌, arith}
use Rattle.std.proofs.lemmas.Bool.Decides.{nat_tests, Decides-int_eq}
use Rattle.std.specs.List.{find}
use Rattle.std.specs.Ordering.{int_eq}
use Rattle.energy_core.specs.declared.entries.Last.{Last}
use Rattle.energy_core.specs.declared.entries.Step.{Step}
use Rattle.energy_core.specs.declared.entries.Entry.TheVariants as entry
use Rattle.energy_core.specs.declared.verdicts.Terms.{Terms}
use Rattle.energy_core.specs.declared.verdicts.Reading.{Reading}
use Rattle.energy_core.specs.declared.verdicts.Cause.{Cause}
use Rattle.energy_core.specs.declared.verdicts.Verdict.TheVariants.{Accepted}
use Rattle.energy_core.specs.Value.{unit_of}
use Rattle.energy_core.specs.Verdict.{IsPlausible, distance, applies, causes, judged, verdict_of}
use Rattle.energy_core.specs.Admission.{IsBooked}
use Rattle.energy_core.specs.Laws.{AcceptedIsPlausible, AcceptedIsEntered}
use Rattle.energy_core.proofs.Tables.{none_pass, find-none}
use Rattle.energy_core.proofs.Turns.{turned}
use Rattle.energy_core.proofs.Bookings.{not_lt, not_le, at_least, below, entered_where_booked}

judged_accepted : (range : ℕ) (last : Last) (reading : Reading) (o : Option Cause) (rolls step : ℕ)
    → judged range last reading o ≡ Accepted rolls step
    → (o ≡ None) × (rolls ≡ (if nat_lt reading.raw last.raw then 1 else 0)) × (step ≡ distance range last.raw reading.raw * unit_of last.sf)
judged_accepted range last reading None rolls step h = (refl, cc, cc)
judged_accepted range last reading (Some c) rolls step h = absurd (cc)

same_scale : (a b : ℤ) → not (int_eq a b) ≡ false → a ≡ b
same_scale a b h = (Decides-int_eq a b).0 (grind arith)

differs : (a b : ℤ) → a ≡ b → not (int_eq a b) ≡ false
differs a b h = ap not ((Decides-int_eq a b).1 h)

not_zero : (n : ℕ) → (n == 0) ≡ false → n ≢ 0
not_zero n h = grind (arith, nat_tests)

no_zero : (n : ℕ) → n ≢ 0 → (n == 0) ≡ false
no_zero n h = grind (arith, nat_tests)

may : (a b : ℕ) → not (nat_le a b) ≡ false → a ≤ b
may a b h = grind (arith, nat_tests)

may_not : (a b : ℕ) → a ≤ b → not (nat_le a b) ≡ false
may_not a b h = grind (arith, nat_tests)

plausible_where_accepted : (range : ℕ) (terms : Terms) (last : Last) (reading : Reading) (rolls step : ℕ)
    → verdict_of range terms last reading ≡ Accepted rolls step
    → IsPlausible range terms last reading
    × (rolls ≡ (if nat_lt reading.raw last.raw then 1 else 0))
    × (step ≡ distance range last.raw reading.raw * unit_of last.sf)
plausible_where_accepted range terms last reading rolls step h =
    let ok = judged_accepted range last reading (find (applies range terms last reading) causes) rolls step h in
    let none = none_pass (applies range terms last reading) causes ok.0 in (
      record {
        accumulated = not_zero _ none.0;
        scale = same_scale _ _ none.1.0;
        below = below _ _ none.1.1.0;
        later = below _ _ none.1.1.1.0;
        span = at_least _ _ none.1.1.1.1.0;
        gap = below _ _ none.1.1.1.1.1.0;
        speed = may _ _ none.1.1.1.1.1.1.0;
        within = at_least _ _ none.1.1.1.1.1.1.1.0;
      },
      ok.1,
      ok.2,
    )

accepted_where_plausible : (range : ℕ) (terms : Terms) (last : Last) (reading : Reading) (rolls step : ℕ)
    → IsPlausible range terms last reading
    × (rolls ≡ (if nat_lt reading.raw last.raw then 1 else 0))
    × (step ≡ distance range last.raw reading.raw * unit_of last.sf)
    → verdict_of range terms last reading ≡ Accepted rolls step
accepted_where_plausible range terms last reading rolls step h =
    let none : find (applies range terms last reading) causes ≡ None =
    find-none (applies range terms last reading) causes (
      no_zero _ h.0.accumulated,
      (
        differs _ _ h.0.scale,
        (
          not_le _ _ h.0.below,
          (
            not_le _ _ h.0.later,
            (not_lt _ _ h.0.span, (not_le _ _ h.0.gap, (may_not _ _ h.0.speed, (not_lt _ _ h.0.within, tt)))),
          ),
        ),
      ),
    ) in
    rw (h.1, h.2) (ap (judged range last reading) none)

pub accepted_is_plausible : AcceptedIsPlausible
accepted_is_plausible range terms last reading rolls step =
    (plausible_where_accepted range terms last reading rolls step, accepted_where_plausible range terms last reading rolls step)

-- The energy from one count to another is the number of counts between them, times the energy `u`
-- of one count.
pub gained : (u from dist to_ : ℕ) → to_ ≡ from + dist → to_ * u - from * u ≡ dist * u
gained u from dist to_ e = ap (λ n. n * u - from * u) e ∙ (let f : (from + dist) * u - from * u ≡ dist * u = omega arith in f)

pub booked_where_accepted : (range : ℕ) (terms : Terms) (last : Last) (reading : Reading) (rolls step : ℕ) → last.raw < range
    → verdict_of range terms last reading ≡ Accepted rolls step
    → IsBooked range terms.total last (entry.Step reading.at reading.raw rolls)
    (record { at = reading.at; raw = reading.raw; sf = reading.sf }) (record { from = last.at; till = reading.at; mwh = step })
booked_where_accepted range terms last reading rolls step raw h =
    let ok = plausible_where_accepted range terms last reading rolls step h in
    let t = turned range last.raw reading.raw raw ok.0.below in
    record {
      next_is = ap (λ (sf : ℤ). let l : Last = record { at = reading.at; raw = reading.raw; sf = sf } in l) ok.0.scale;
      step_is = rw (ok.1, ok.2) (ap (λ (e : ℕ). let s : Step = record { from = last.at; till = reading.at; mwh = e } in s)
          (sym (gained (unit_of last.sf) last.raw (distance range last.raw reading.raw) _ t.1)));
      follows = record { rises = rw ok.1 t.0; later = ok.0.later; span = ok.0.span; scale = tt; shown = ok.0.below };
      within = rw ok.2 ok.0.within;
    }

pub accepted_is_entered : AcceptedIsEntered
accepted_is_entered range terms last reading rolls step raw h =
    entered_where_booked range terms.total last (entry.Step reading.at reading.raw rolls) _ _
    (booked_where_accepted range terms last reading rolls step raw h)
