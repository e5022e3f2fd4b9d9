-- Worked examples of verdicts on readings, meter entries and total energies, computed from the
-- definitions.
use native.Mathlib.Omega.{arith}
use Rattle.std.proofs.Common.{◌≡◌, ℕ, ℤ, pos, negsuc, refl, [], ◌∷◌, Ok, Err, lit≤, true, false}
use Rattle.energy_core.specs.declared.limits.TheConstants.{MAX_CEILING, MAX_SHOWN, MAX_UNIT}
use Rattle.energy_core.specs.declared.entries.Last.{Last}
use Rattle.energy_core.specs.declared.entries.Step.{Step as StepRecord}
use Rattle.energy_core.specs.declared.entries.Entry.TheVariants as entry
use Rattle.energy_core.specs.declared.admission.TermFault.TheVariants as fault
use Rattle.energy_core.specs.declared.verdicts.Cause.TheVariants as cause
use Rattle.energy_core.specs.declared.verdicts.Reading.{Reading}
use Rattle.energy_core.specs.declared.verdicts.Terms.{Terms}
use Rattle.energy_core.specs.declared.verdicts.Verdict.TheVariants.{Accepted, Held}
use Rattle.energy_core.specs.Value.{unit_of}
use Rattle.energy_core.specs.Account.{intervals_touched, whole_energy, steps_of}
use Rattle.energy_core.specs.Ranged.{IsRange}
use Rattle.energy_core.specs.Verdict.{verdict_of}
use Rattle.energy_core.specs.Admission.{entered, has_bad_scale}

abbrev terms : (ceiling total : ℕ) → Terms
terms ceiling total = record { ceiling = ceiling; total = total }

abbrev last : (at raw : ℕ) → ℤ → Last
last at raw sf = record { at = at; raw = raw; sf = sf }

abbrev reading : (at raw : ℕ) → ℤ → Reading
reading at raw sf = record { at = at; raw = raw; sf = sf }

abbrev step : (from till mwh : ℕ) → StepRecord
step from till mwh = record { from = from; till = till; mwh = mwh }

-- Examples: verdicts on readings of a 32-bit counter.

first_reading : verdict_of 4294967296 (terms 100000 0) (last 1000 5000 (pos 0)) (reading 1900 5200 (pos 0)) ≡ Accepted 0 200000
unfolding unit_of
first_reading = refl

rollover_at_1000_watts : verdict_of 4294967296 (terms 1000 0) (last 1000 4294967200 (pos 0)) (reading 1900 104 (pos 0)) ≡ Accepted 1 200000
unfolding unit_of
rollover_at_1000_watts = refl

rollover_at_796_watts : verdict_of 4294967296 (terms 796 0) (last 1000 4294967200 (pos 0)) (reading 1900 104 (pos 0)) ≡ Accepted 1 200000
unfolding unit_of
rollover_at_796_watts = refl

rollover_at_795_watts : verdict_of 4294967296 (terms 795 0) (last 1000 4294967200 (pos 0)) (reading 1900 104 (pos 0)) ≡ Held cause.TooFast
unfolding unit_of
rollover_at_795_watts = refl

longest_gap : verdict_of 4294967296 (terms 1000000 0) (last 0 500 (negsuc 2)) (reading 15461 501 (negsuc 2)) ≡ Accepted 0 1
unfolding unit_of
longest_gap = refl

gap_too_long : verdict_of 4294967296 (terms 1000000 0) (last 0 500 (negsuc 2)) (reading 15462 501 (negsuc 2)) ≡ Held cause.GapTooLong
unfolding unit_of
gap_too_long = refl

total_just_full : verdict_of 4294967296 (terms 1000000 3999999999999999000) (last 0 1 (pos 0)) (reading 900 2 (pos 0)) ≡ Accepted 0 1000
unfolding unit_of
total_just_full = refl

total_past_full : verdict_of 4294967296 (terms 1000000 3999999999999999000) (last 0 1 (pos 0)) (reading 900 3 (pos 0)) ≡ Held cause.TotalFull
unfolding unit_of
total_past_full = refl

total_full_to_the_last : verdict_of 4294967296 (terms 1000000 3999999999999999999) (last 0 1 (negsuc 2)) (reading 900 2 (negsuc 2)) ≡ Accepted 0 1
unfolding unit_of
total_full_to_the_last = refl

total_past_full_by_one : verdict_of 4294967296 (terms 1000000 4000000000000000000) (last 0 1 (negsuc 2)) (reading 900 2 (negsuc 2)) ≡ Held cause.TotalFull
unfolding unit_of
total_past_full_by_one = refl

longest_span : verdict_of 4294967296 (terms 1000 0) (last 0 1 (pos 0)) (reading 2700000 2 (pos 0)) ≡ Accepted 0 1000
unfolding unit_of
longest_span = refl

span_too_long : verdict_of 4294967296 (terms 1000 0) (last 0 1 (pos 0)) (reading 2700001 2 (pos 0)) ≡ Held cause.SpanTooLong
unfolding unit_of
span_too_long = refl

-- Examples: verdicts on readings of a counter that rolls over at 1,000,000 counts.

ranged_rollover : verdict_of 1000000 (terms 1000 0) (last 0 999900 (pos 0)) (reading 900 100 (pos 0)) ≡ Accepted 1 200000
unfolding unit_of
ranged_rollover = refl

not_below_range : verdict_of 1000000 (terms 1000 0) (last 0 999900 (pos 0)) (reading 900 1000000 (pos 0)) ≡ Held cause.NotBelowRange
unfolding unit_of
not_below_range = refl

ranged_longest_gap : verdict_of 1000000 (terms 100000 0) (last 0 5 (pos 0)) (reading 35999 6 (pos 0)) ≡ Accepted 0 1000
unfolding unit_of
ranged_longest_gap = refl

ranged_gap_too_long : verdict_of 1000000 (terms 100000 0) (last 0 5 (pos 0)) (reading 36000 6 (pos 0)) ≡ Held cause.GapTooLong
unfolding unit_of
ranged_gap_too_long = refl

-- Examples of manual meter entries, each with its result: the counter's new state and the energy,
-- or the fault for which the entry is refused.

back : entered 4294967296 200000 (last 1900 5200 (pos 0)) (entry.Step 2000 5100 0) ≡ Err fault.NegativeStep
unfolding unit_of
back = refl

not_later : entered 4294967296 200000 (last 1900 5200 (pos 0)) (entry.Step 1900 5300 0) ≡ Err fault.NotLater
unfolding unit_of
not_later = refl

too_far_on : entered 4294967296 200000 (last 1900 5200 (pos 0)) (entry.Step 2701801 5300 0) ≡ Err fault.SpanTooLong
unfolding unit_of
too_far_on = refl

as_far_as_can_be : entered 4294967296 200000 (last 1900 5200 (pos 0)) (entry.Step 2701800 5300 0)
    ≡ Ok (last 2701800 5300 (pos 0), step 1900 2701800 100000)
unfolding unit_of
as_far_as_can_be = refl

rescaled : entered 4294967296 200000 (last 1900 5200 (pos 0)) (entry.Change 2000 5200 520 (pos 1))
    ≡ Ok (last 2000 520 (pos 1), step 1900 2000 0)
unfolding unit_of
rescaled = refl

-- Examples: total energies of installed meters after one or more entries.

after_a_reading : whole_energy 4294967296 (last 1000 5000 (pos 0)) (entry.Step 1900 5200 0 ∷ []) ≡ 200000
unfolding unit_of
after_a_reading = refl

after_a_rollover : whole_energy 4294967296 (last 1000 4294967200 (pos 0)) (entry.Step 1900 104 1 ∷ []) ≡ 200000
unfolding unit_of
after_a_rollover = refl

after_a_rescale : whole_energy 4294967296 (last 1000 5000 (pos 0))
    (entry.Step 2800 521 0 ∷ entry.Change 2000 5200 520 (pos 1) ∷ entry.Step 1900 5200 0 ∷ []) ≡ 210000
unfolding unit_of
after_a_rescale = refl

after_a_reset : whole_energy 4294967296 (last 1000 5000 (pos 0))
    (entry.Step 3700 30 0 ∷ entry.Change 2000 5250 0 (pos 0) ∷ entry.Step 1900 5200 0 ∷ []) ≡ 280000
unfolding unit_of
after_a_reset = refl

steps_of_a_reset : steps_of 4294967296 (last 1000 5000 (pos 0))
    (entry.Step 3700 30 0 ∷ entry.Change 2000 5250 0 (pos 0) ∷ entry.Step 1900 5200 0 ∷ [])
    ≡ step 2000 3700 30000 ∷ step 1900 2000 50000 ∷ step 1000 1900 200000 ∷ []
unfolding unit_of
steps_of_a_reset = refl

-- Examples for the lower and the upper limit of a counter's range and of scale factors: the last
-- allowed value and the first refused value.

least_range : IsRange 65536
least_range = (lit≤ tt, lit≤ tt)

below_the_least_range : IsRange 65535 → ⊥
below_the_least_range is = omega (arith, is.0)

greatest_range : IsRange 4294967296
greatest_range = (lit≤ tt, lit≤ tt)

past_the_greatest_range : IsRange 4294967297 → ⊥
past_the_greatest_range is = omega (arith, is.1)

least_scale : has_bad_scale (entry.Change 2000 5200 520 (negsuc 2)) ≡ false
least_scale = refl

below_the_least_scale : has_bad_scale (entry.Change 2000 5200 520 (negsuc 3)) ≡ true
below_the_least_scale = refl

greatest_scale : has_bad_scale (entry.Change 2000 5200 520 (pos 3)) ≡ false
greatest_scale = refl

past_the_greatest_scale : has_bad_scale (entry.Change 2000 5200 520 (pos 4)) ≡ true
past_the_greatest_scale = refl

a_count_at_the_least_scale : unit_of (negsuc 2) ≡ 1
unfolding unit_of
a_count_at_the_least_scale = refl

a_count_at_the_greatest_scale : unit_of (pos 3) ≡ MAX_UNIT
unfolding unit_of
a_count_at_the_greatest_scale = refl

greatest_shown : MAX_SHOWN ≡ 4294967295
greatest_shown = refl

greatest_ceiling : MAX_CEILING ≡ 1000000000
greatest_ceiling = refl

-- Examples: the number of quarter-hour intervals that a time span touches.

within_one_interval : intervals_touched 0 900 ≡ 1
within_one_interval = refl

one_second_in_the_next : intervals_touched 0 901 ≡ 2
one_second_in_the_next = refl

three_thousand : intervals_touched 0 2700000 ≡ 3000
three_thousand = refl

one_more_than_three_thousand : intervals_touched 0 2700001 ≡ 3001
one_more_than_three_thousand = refl
