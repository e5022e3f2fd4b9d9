-- Worked examples of manual entries, counter resets, changes of the scale factor, and closings and
-- exchanges of meters.
use Rattle.std.proofs.Common.{◌≡◌, pos, true, false, [], ◌∷◌, Some, None, Ok, Err, refl}
use Rattle.energy_core.specs.Value.{unit_of}
use Rattle.energy_core.specs.declared.verdicts.Cause.TheVariants as cause
use Rattle.mb_wire.specs.Frames.{frames, frames_in, rest, rest_in, is_garbled}
use Rattle.poll_core.specs.Settling.{stream, next_id, frames_at, ending_at, settled_by, pending, outcomes_at}
use Rattle.poll_core.specs.Standing.{is_over, is_closed}
use Rattle.poll_core.specs.declared.outcome.Outcome.TheVariants as outcome
use Rattle.office_events.specs.declared.commands.GivenScale.TheVariants as given
use Rattle.office_events.specs.declared.refusals.Refusal.TheVariants as refusal
use Rattle.office_events.specs.declared.answers.Answer.TheVariants as answer
use Rattle.office_events.specs.declared.answers.CommandKind.TheVariants as done
use Rattle.office_events.specs.declared.answers.Note.TheVariants as note
use Rattle.office_books.specs.History.{History, Opened, Fed, facts_of}
use Rattle.office_books.specs.Refusals.{decision_of}
use Rattle.office_books.specs.Intervals.{rows_of_meter}
use Rattle.office_books.proofs.RuleExamples.Samples.{inv, main, m1, m2, device, register, full_range, three_words, start, reset, rescale, manual, close, exchange, reply, answered, reported, meter, total}

by_hand_too_little : decision_of answered 2000 (manual 5100 0 None) ≡ Err refusal.NegativeStep
unfolding unit_of frames frames_in rest rest_in is_garbled is_over is_closed stream next_id frames_at ending_at settled_by pending outcomes_at
by_hand_too_little = refl

by_hand_too_early : decision_of answered 1900 (manual 5300 0 None) ≡ Err refusal.NotLater
unfolding unit_of frames frames_in rest rest_in is_garbled is_over is_closed stream next_id frames_at ending_at settled_by pending outcomes_at
by_hand_too_early = refl

by_hand_too_late : decision_of answered 2701801 (manual 5300 0 None) ≡ Err refusal.SpanTooLong
unfolding unit_of frames frames_in rest rest_in is_garbled is_over is_closed stream next_id frames_at ending_at settled_by pending outcomes_at
by_hand_too_late = refl

by_hand_just_in_time : decision_of answered 2701800 (manual 5300 0 None) ≡ Ok (answer.Done done.Manual)
unfolding unit_of frames frames_in rest rest_in is_garbled is_over is_closed stream next_id frames_at ending_at settled_by pending outcomes_at
by_hand_just_in_time = refl

past_the_moment : decision_of answered 2000 (manual 5300 0 (Some 2001)) ≡ Err refusal.Limit
unfolding unit_of frames frames_in rest rest_in is_garbled is_over is_closed stream next_id frames_at ending_at settled_by pending outcomes_at
past_the_moment = refl

a_great_number : decision_of answered 2000 (manual 4294967296 0 None) ≡ Err refusal.Limit
unfolding unit_of frames frames_in rest rest_in is_garbled is_over is_closed stream next_id frames_at ending_at settled_by pending outcomes_at
a_great_number = refl

a_too_great_number : decision_of answered 2000 (manual 5000000000000000 0 None) ≡ Err refusal.TotalFull
unfolding unit_of frames frames_in rest rest_in is_garbled is_over is_closed stream next_id frames_at ending_at settled_by pending outcomes_at
a_too_great_number = refl

a_gap : decision_of answered 5000000 (close 5300 0) ≡ Err refusal.SpanTooLong
unfolding unit_of frames frames_in rest rest_in is_garbled is_over is_closed stream next_id frames_at ending_at settled_by pending outcomes_at
a_gap = refl

a_gap_parted : decision_of (Fed 5000000 (manual 5300 0 (Some 2701800)) ∷ answered) 5000000 (close 5300 0) ≡ Ok (answer.Done done.Close)
unfolding unit_of frames frames_in rest rest_in is_garbled is_over is_closed stream next_id frames_at ending_at settled_by pending outcomes_at
a_gap_parted = refl

no_more_once_closed : decision_of (Fed 2000 (close 5200 0) ∷ answered) 2000 (manual 5300 0 None) ≡ Err refusal.Ended
unfolding unit_of frames frames_in rest rest_in is_garbled is_over is_closed stream next_id frames_at ending_at settled_by pending outcomes_at
no_more_once_closed = refl

nothing_was_installed : decision_of (Fed 1000 (register (given.Register 40096)) ∷ Fed 1000 (device inv 1) ∷ Opened 0 ∷ []) 2000 (manual 5300 0 None) ≡ Err refusal.NotFound
unfolding unit_of frames frames_in rest rest_in is_garbled is_over is_closed stream next_id frames_at ending_at settled_by pending outcomes_at
nothing_was_installed = refl

exchanged : decision_of answered 2800 (exchange 5300) ≡ Ok (answer.Done done.Exchange)
unfolding unit_of frames frames_in rest rest_in is_garbled is_over is_closed stream next_id frames_at ending_at settled_by pending outcomes_at
exchanged = refl

the_old_meter : meter (Fed 2800 (exchange 5300) ∷ answered) m1 ≡ Some (record {
  opening = record { meter = m1; register = main; ceiling = 100000; range = full_range; at = 1000; raw = 5000; sf = pos 0 };
  last = record { at = 2800; raw = 5300; sf = pos 0 };
  total = 300000;
  ended = true;
})
unfolding unit_of frames frames_in rest rest_in is_garbled is_over is_closed stream next_id frames_at ending_at settled_by pending outcomes_at
the_old_meter = refl

the_new_meter : meter (Fed 2800 (exchange 5300) ∷ answered) m2 ≡ Some (record {
  opening = record { meter = m2; register = main; ceiling = 100000; range = full_range; at = 2800; raw = 0; sf = pos 0 };
  last = record { at = 2800; raw = 0; sf = pos 0 };
  total = 0;
  ended = false;
})
unfolding unit_of frames frames_in rest rest_in is_garbled is_over is_closed stream next_id frames_at ending_at settled_by pending outcomes_at
the_new_meter = refl

intervals_of_the_old : rows_of_meter (facts_of (Fed 2800 (exchange 5300) ∷ answered)) m1
    ≡ record { start = 900; mwh = 177777 } ∷ record { start = 1800; mwh = 111111 } ∷ record { start = 2700; mwh = 11112 } ∷ []
unfolding unit_of frames frames_in rest rest_in is_garbled is_over is_closed stream next_id frames_at ending_at settled_by pending outcomes_at
intervals_of_the_old = refl

intervals_of_the_new : rows_of_meter (facts_of (Fed 3700 (manual 45 0 None) ∷ Fed 2800 (exchange 5300) ∷ answered)) m2
    ≡ record { start = 2700; mwh = 40000 } ∷ record { start = 3600; mwh = 5000 } ∷ []
unfolding unit_of frames frames_in rest rest_in is_garbled is_over is_closed stream next_id frames_at ending_at settled_by pending outcomes_at
intervals_of_the_new = refl

-- Example events: a change of a counter's scale factor, and then the start of a poll.
abbrev rescaled : History
rescaled = Fed 2800 (start three_words) ∷ Fed 2000 (rescale 5200 520 (pos 1)) ∷ answered

at_the_new_scale : reported rescaled 2800 (reply 1 2 9 1) ≡ note.Outcome 2 outcome.Answered ∷ note.Reading m1 521 0 10000 ∷ []
unfolding unit_of frames frames_in rest rest_in is_garbled is_over is_closed stream next_id frames_at ending_at settled_by pending outcomes_at
at_the_new_scale = refl

its_total : total (Fed 2800 (reply 1 2 9 1) ∷ rescaled) m1 ≡ Some 210000
unfolding unit_of frames frames_in rest rest_in is_garbled is_over is_closed stream next_id frames_at ending_at settled_by pending outcomes_at
its_total = refl

at_the_old_scale : reported rescaled 2800 (reply 1 20 80 0) ≡ note.Outcome 2 outcome.Answered ∷ note.Held m1 5200 cause.ScaleChanged ∷ []
unfolding unit_of frames frames_in rest rest_in is_garbled is_over is_closed stream next_id frames_at ending_at settled_by pending outcomes_at
at_the_old_scale = refl

-- Example events: a reset of a counter to 0, and then the start of a poll.
abbrev set_to_0 : History
set_to_0 = Fed 2800 (start three_words) ∷ Fed 2000 (reset 5250 0) ∷ answered

a_counter_at_0 : reported set_to_0 2800 (reply 1 0 0 0) ≡ note.Outcome 2 outcome.Answered ∷ note.Held m1 0 cause.NotAccumulated ∷ []
unfolding unit_of frames frames_in rest rest_in is_garbled is_over is_closed stream next_id frames_at ending_at settled_by pending outcomes_at
a_counter_at_0 = refl

on_from_0 : reported (Fed 3700 (start three_words) ∷ Fed 2800 (reply 1 0 0 0) ∷ set_to_0) 3700 (reply 2 0 30 0)
    ≡ note.Outcome 3 outcome.Answered ∷ note.Reading m1 30 0 30000 ∷ []
unfolding unit_of frames frames_in rest rest_in is_garbled is_over is_closed stream next_id frames_at ending_at settled_by pending outcomes_at
on_from_0 = refl

with_the_step_to_the_reset : total (Fed 3700 (reply 2 0 30 0) ∷ Fed 3700 (start three_words) ∷ Fed 2800 (reply 1 0 0 0) ∷ set_to_0) m1 ≡ Some 280000
unfolding unit_of frames frames_in rest rest_in is_garbled is_over is_closed stream next_id frames_at ending_at settled_by pending outcomes_at
with_the_step_to_the_reset = refl
