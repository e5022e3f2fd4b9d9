-- Worked examples of verdicts on readings: rollovers of the counter, gaps between readings, counter
-- values out of range, and energy above the meter's greatest power.
use Rattle.std.proofs.Common.{◌≡◌, pos, negsuc, [], ◌∷◌, Err, refl}
use Rattle.energy_core.specs.Value.{unit_of}
use Rattle.energy_core.specs.declared.verdicts.Cause.TheVariants as cause
use Rattle.mb_wire.specs.Frames.{frames, frames_in, rest, rest_in, is_garbled}
use Rattle.poll_core.specs.Settling.{stream, next_id, frames_at, ending_at, settled_by, pending, outcomes_at}
use Rattle.poll_core.specs.Standing.{is_over, is_closed}
use Rattle.poll_core.specs.declared.outcome.Outcome.TheVariants as outcome
use Rattle.office_events.specs.declared.commands.GivenScale.TheVariants as given
use Rattle.office_events.specs.declared.refusals.Refusal.TheVariants as refusal
use Rattle.office_events.specs.declared.answers.Note.TheVariants as note
use Rattle.office_books.specs.History.{Opened, Fed}
use Rattle.office_books.specs.Refusals.{decision_of}
use Rattle.office_books.proofs.RuleExamples.Samples.{inv, m1, device, register, full_range, install, two_words, start, house, shows, reported}

a_rollover : reported (Fed 1900 (start two_words) ∷ house 1000 4294967200 (pos 0) 1000 full_range) 1900 (shows 0 (0 ∷ 0 ∷ 0 ∷ 104 ∷ []))
    ≡ note.Outcome 1 outcome.Answered ∷ note.Reading m1 104 1 200000 ∷ []
unfolding unit_of frames frames_in rest rest_in is_garbled is_over is_closed stream next_id frames_at ending_at settled_by pending outcomes_at
a_rollover = refl

just_slow_enough : reported (Fed 1900 (start two_words) ∷ house 1000 4294967200 (pos 0) 796 full_range) 1900 (shows 0 (0 ∷ 0 ∷ 0 ∷ 104 ∷ []))
    ≡ note.Outcome 1 outcome.Answered ∷ note.Reading m1 104 1 200000 ∷ []
unfolding unit_of frames frames_in rest rest_in is_garbled is_over is_closed stream next_id frames_at ending_at settled_by pending outcomes_at
just_slow_enough = refl

too_fast : reported (Fed 1900 (start two_words) ∷ house 1000 4294967200 (pos 0) 795 full_range) 1900 (shows 0 (0 ∷ 0 ∷ 0 ∷ 104 ∷ []))
    ≡ note.Outcome 1 outcome.Answered ∷ note.Held m1 104 cause.TooFast ∷ []
unfolding unit_of frames frames_in rest rest_in is_garbled is_over is_closed stream next_id frames_at ending_at settled_by pending outcomes_at
too_fast = refl

a_long_gap : reported (Fed 15461 (start two_words) ∷ house 0 500 (negsuc 2) 1000000 full_range) 15461 (shows 0 (0 ∷ 0 ∷ 1 ∷ 245 ∷ []))
    ≡ note.Outcome 1 outcome.Answered ∷ note.Reading m1 501 0 1 ∷ []
unfolding unit_of frames frames_in rest rest_in is_garbled is_over is_closed stream next_id frames_at ending_at settled_by pending outcomes_at
a_long_gap = refl

too_long_a_gap : reported (Fed 15462 (start two_words) ∷ house 0 500 (negsuc 2) 1000000 full_range) 15462 (shows 0 (0 ∷ 0 ∷ 1 ∷ 245 ∷ []))
    ≡ note.Outcome 1 outcome.Answered ∷ note.Held m1 501 cause.GapTooLong ∷ []
unfolding unit_of frames frames_in rest rest_in is_garbled is_over is_closed stream next_id frames_at ending_at settled_by pending outcomes_at
too_long_a_gap = refl

a_small_range : reported (Fed 900 (start two_words) ∷ house 0 999900 (pos 0) 1000 1000000) 900 (shows 0 (0 ∷ 0 ∷ 0 ∷ 100 ∷ []))
    ≡ note.Outcome 1 outcome.Answered ∷ note.Reading m1 100 1 200000 ∷ []
unfolding unit_of frames frames_in rest rest_in is_garbled is_over is_closed stream next_id frames_at ending_at settled_by pending outcomes_at
a_small_range = refl

past_its_range : reported (Fed 900 (start two_words) ∷ house 0 999900 (pos 0) 1000 1000000) 900 (shows 0 (0 ∷ 15 ∷ 66 ∷ 64 ∷ []))
    ≡ note.Outcome 1 outcome.Answered ∷ note.Held m1 1000000 cause.NotBelowRange ∷ []
unfolding unit_of frames frames_in rest rest_in is_garbled is_over is_closed stream next_id frames_at ending_at settled_by pending outcomes_at
past_its_range = refl

a_gap_of_a_small_range : reported (Fed 35999 (start two_words) ∷ house 0 5 (pos 0) 100000 1000000) 35999 (shows 0 (0 ∷ 0 ∷ 0 ∷ 6 ∷ []))
    ≡ note.Outcome 1 outcome.Answered ∷ note.Reading m1 6 0 1000 ∷ []
unfolding unit_of frames frames_in rest rest_in is_garbled is_over is_closed stream next_id frames_at ending_at settled_by pending outcomes_at
a_gap_of_a_small_range = refl

too_long_for_a_small_range : reported (Fed 36000 (start two_words) ∷ house 0 5 (pos 0) 100000 1000000) 36000 (shows 0 (0 ∷ 0 ∷ 0 ∷ 6 ∷ []))
    ≡ note.Outcome 1 outcome.Answered ∷ note.Held m1 6 cause.GapTooLong ∷ []
unfolding unit_of frames frames_in rest rest_in is_garbled is_over is_closed stream next_id frames_at ending_at settled_by pending outcomes_at
too_long_for_a_small_range = refl

no_range : decision_of (Fed 0 (register (given.Fixed (pos 0))) ∷ Fed 0 (device inv 1) ∷ Opened 0 ∷ []) 0 (install 5 (pos 0) 1000 65535) ≡ Err refusal.Limit
unfolding unit_of frames frames_in rest rest_in is_garbled is_over is_closed stream next_id frames_at ending_at settled_by pending outcomes_at
no_range = refl

not_below_its_range : decision_of (Fed 0 (register (given.Fixed (pos 0))) ∷ Fed 0 (device inv 1) ∷ Opened 0 ∷ []) 0 (install 65536 (pos 0) 1000 65536) ≡ Err refusal.Limit
unfolding unit_of frames frames_in rest rest_in is_garbled is_over is_closed stream next_id frames_at ending_at settled_by pending outcomes_at
not_below_its_range = refl
