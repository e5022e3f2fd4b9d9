-- Worked examples of voided (cancelled) readings, and of the entries that may be voided.
use Rattle.std.proofs.Common.{◌≡◌, ℕ, pos, true, false, [], ◌∷◌, Some, None, Ok, Err, refl}
use Rattle.std.specs.Option.{option_map}
use Rattle.energy_core.specs.Value.{unit_of}
use Rattle.energy_core.specs.declared.entries.Entry.TheVariants as entry
use Rattle.energy_core.specs.declared.verdicts.Cause.TheVariants as cause
use Rattle.mb_wire.specs.Frames.{frames, frames_in, rest, rest_in, is_garbled}
use Rattle.poll_core.specs.Settling.{stream, next_id, frames_at, ending_at, settled_by, pending, outcomes_at}
use Rattle.poll_core.specs.Standing.{is_over, is_closed}
use Rattle.meter_journal.specs.declared.lines.EntryKind.TheVariants as kind
use Rattle.meter_journal.specs.declared.lines.EntryRow.{EntryRow}
use Rattle.office_events.specs.declared.facts.Opening.{Opening}
use Rattle.office_events.specs.declared.refusals.Refusal.TheVariants as refusal
use Rattle.office_events.specs.declared.answers.Answer.TheVariants as answer
use Rattle.office_events.specs.declared.answers.CommandKind.TheVariants as done
use Rattle.office_books.specs.Meters.{entry_at}
use Rattle.office_books.specs.History.{History, Fed, facts_of}
use Rattle.office_books.specs.Refusals.{decision_of}
use Rattle.office_books.specs.Intervals.{rows_of_meter}
use Rattle.office_books.proofs.RuleExamples.Samples.{main, m1, full_range, three_words, start, manual, void, reply, answered, house, read, meter, total}

the_only_reading : decision_of answered 4000 (void 2) ≡ Ok (answer.Done done.Void)
unfolding unit_of frames frames_in rest rest_in is_garbled is_over is_closed stream next_id frames_at ending_at settled_by pending outcomes_at
the_only_reading = refl

back_at_its_opening : meter (Fed 4000 (void 2) ∷ answered) m1 ≡ Some (record {
  opening = record { meter = m1; register = main; ceiling = 100000; range = full_range; at = 1000; raw = 5000; sf = pos 0 };
  last = record { at = 1000; raw = 5000; sf = pos 0 };
  total = 0;
  ended = false;
})
unfolding unit_of frames frames_in rest rest_in is_garbled is_over is_closed stream next_id frames_at ending_at settled_by pending outcomes_at
back_at_its_opening = refl

no_intervals_are_left : rows_of_meter (facts_of (Fed 4000 (void 2) ∷ answered)) m1 ≡ []
unfolding unit_of frames frames_in rest rest_in is_garbled is_over is_closed stream next_id frames_at ending_at settled_by pending outcomes_at
no_intervals_are_left = refl

voided_twice : decision_of (Fed 4000 (void 2) ∷ answered) 4000 (void 2) ≡ Err refusal.NotVoidable
unfolding unit_of frames frames_in rest rest_in is_garbled is_over is_closed stream next_id frames_at ending_at settled_by pending outcomes_at
voided_twice = refl

the_opening_stays : decision_of (Fed 4000 (void 2) ∷ answered) 4000 (void 1) ≡ Err refusal.NotVoidable
unfolding unit_of frames frames_in rest rest_in is_garbled is_over is_closed stream next_id frames_at ending_at settled_by pending outcomes_at
the_opening_stays = refl

no_such_entry : decision_of (Fed 4000 (void 2) ∷ answered) 4000 (void 9) ≡ Err refusal.NotFound
unfolding unit_of frames frames_in rest rest_in is_garbled is_over is_closed stream next_id frames_at ending_at settled_by pending outcomes_at
no_such_entry = refl

no_place_0 : decision_of (Fed 4000 (void 2) ∷ answered) 4000 (void 0) ≡ Err refusal.NotFound
unfolding unit_of frames frames_in rest rest_in is_garbled is_over is_closed stream next_id frames_at ending_at settled_by pending outcomes_at
no_place_0 = refl

before_one_by_hand : decision_of (Fed 2800 (manual 5300 0 None) ∷ answered) 4000 (void 2) ≡ Err refusal.NotVoidable
unfolding unit_of frames frames_in rest rest_in is_garbled is_over is_closed stream next_id frames_at ending_at settled_by pending outcomes_at
before_one_by_hand = refl

-- Example events with two readings of a meter. The second reading has 5300 counts at 2800 s.
abbrev two : History
two = Fed 2800 (reply 1 20 180 0) ∷ Fed 2800 (start three_words) ∷ answered

the_first_of_two : rows_of_meter (facts_of (Fed 4000 (void 2) ∷ two)) m1
    ≡ record { start = 900; mwh = 133333 } ∷ record { start = 1800; mwh = 150000 } ∷ record { start = 2700; mwh = 16667 } ∷ []
unfolding unit_of frames frames_in rest rest_in is_garbled is_over is_closed stream next_id frames_at ending_at settled_by pending outcomes_at
the_first_of_two = refl

abbrev opening : Opening
opening = record { meter = m1; register = main; ceiling = 100000; range = full_range; at = 1000; raw = 5000; sf = pos 0 }

abbrev row : (place at raw : ℕ) → EntryRow
row place at raw = record { place = place; kind = kind.Reading; entry = entry.Step at raw 0; stands = true }

with_its_neighbours : entry_at (facts_of two) m1 2 ≡ Some (record {
  before = record { opening = opening; last = record { at = 1000; raw = 5000; sf = pos 0 }; total = 0; ended = false };
  row = row 2 1900 5200;
  next = Some (row 3 2800 5300);
})
unfolding unit_of frames frames_in rest rest_in is_garbled is_over is_closed stream next_id frames_at ending_at settled_by pending outcomes_at
with_its_neighbours = refl

-- Example: a meter with a greatest power of 4 W. It shows 10 counts at 0 s, 12 counts at 900 s and
-- 14 counts at 1800 s.
abbrev slow : History
slow = read 1800 1 (0 ∷ 0 ∷ 0 ∷ 14 ∷ []) (read 900 0 (0 ∷ 0 ∷ 0 ∷ 12 ∷ []) (house 0 10 (pos 0) 4 full_range))

both_accepted : total slow m1 ≡ Some 4000
unfolding unit_of frames frames_in rest rest_in is_garbled is_over is_closed stream next_id frames_at ending_at settled_by pending outcomes_at
both_accepted = refl

too_fast_without_it : decision_of slow 4000 (void 2) ≡ Err (refusal.NotPlausible cause.TooFast)
unfolding unit_of frames frames_in rest rest_in is_garbled is_over is_closed stream next_id frames_at ending_at settled_by pending outcomes_at
too_fast_without_it = refl

the_last_may_go : decision_of slow 4000 (void 3) ≡ Ok (answer.Done done.Void)
unfolding unit_of frames frames_in rest rest_in is_garbled is_over is_closed stream next_id frames_at ending_at settled_by pending outcomes_at
the_last_may_go = refl

-- Example events: a reading of 4294967290 counts at 1900 s, a reading of 104 counts at 2800 s, and
-- the cancellation of the first reading.
abbrev turned : History
turned = Fed 4000 (void 2)
    ∷ read 2800 1 (0 ∷ 0 ∷ 0 ∷ 104 ∷ []) (read 1900 0 (255 ∷ 255 ∷ 255 ∷ 250 ∷ []) (house 1000 4294967200 (pos 0) 100000 full_range))

over_a_rollover : total turned m1 ≡ Some 200000
unfolding unit_of frames frames_in rest rest_in is_garbled is_over is_closed stream next_id frames_at ending_at settled_by pending outcomes_at
over_a_rollover = refl

with_its_rollover : option_map (λ place. place.row.entry) (entry_at (facts_of turned) m1 3) ≡ Some (entry.Step 2800 104 1)
unfolding unit_of frames frames_in rest rest_in is_garbled is_over is_closed stream next_id frames_at ending_at settled_by pending outcomes_at
with_its_rollover = refl
