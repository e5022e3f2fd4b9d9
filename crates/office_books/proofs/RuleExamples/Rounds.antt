-- Worked examples of polls that time out or are lost, of polling rounds, and of concurrent polls.
use Rattle.std.proofs.Common.{◌≡◌, ℕ, ◌++◌, [], ◌∷◌, replicate, Some, Ok, Err, refl, lit≤}
use Rattle.energy_core.specs.Value.{unit_of}
use Rattle.mb_wire.specs.Frames.{frames, frames_in, rest, rest_in, is_garbled}
use Rattle.mb_wire.specs.declared.span.ReadFunction.TheVariants.{HoldingRegisters}
use Rattle.poll_core.specs.Settling.{stream, next_id, frames_at, ending_at, settled_by, pending, outcomes_at}
use Rattle.poll_core.specs.Standing.{is_over, is_closed}
use Rattle.poll_core.specs.declared.outcome.Outcome.TheVariants as outcome
use Rattle.poll_core.specs.declared.outcome.LostCause.TheVariants as lost
use Rattle.point_list.specs.declared.point.PointScale.TheVariants as scale
use Rattle.sun_points.specs.declared.point_type.PointType.TheVariants as point
use Rattle.read_plan.specs.PlannedLists.{Planned}
use Rattle.office_events.specs.declared.facts.Fact.TheVariants as fact
use Rattle.office_events.specs.declared.commands.Command.TheVariants as command
use Rattle.office_events.specs.declared.events.Event.TheVariants as event
use Rattle.office_events.specs.declared.refusals.Refusal.TheVariants as refusal
use Rattle.office_events.specs.declared.answers.Answer.TheVariants as answer
use Rattle.office_events.specs.declared.answers.Note.TheVariants as note
use Rattle.office_books.specs.Facts.{list_of}
use Rattle.office_books.specs.History.{History, Opened, Fed, facts_of}
use Rattle.office_books.specs.Refusals.{decision_of, opening_refusal_of}
use Rattle.office_books.proofs.RuleExamples.Samples.{inv, device, connect, gone, bytes, three_words, two_words, start, round, started, reply, reported, sent}

too_late : reported started 1903 event.Tick ≡ note.Outcome 1 outcome.Silent ∷ []
unfolding unit_of frames frames_in rest rest_in is_garbled is_over is_closed stream next_id frames_at ending_at settled_by pending outcomes_at
too_late = refl

abbrev silent : History
silent = Fed 1903 event.Tick ∷ started

a_stray : reported silent 1903 (reply 0 20 80 0) ≡ []
unfolding unit_of frames frames_in rest rest_in is_garbled is_over is_closed stream next_id frames_at ending_at settled_by pending outcomes_at
a_stray = refl

a_stray_is_noted : decision_of silent 1903 (reply 0 20 80 0) ≡ Ok answer.Noted
unfolding unit_of frames frames_in rest rest_in is_garbled is_over is_closed stream next_id frames_at ending_at settled_by pending outcomes_at
a_stray_is_noted = refl

the_next_start : decision_of silent 1904 (start three_words) ≡ Ok (answer.Started 2 1 1)
unfolding unit_of frames frames_in rest rest_in is_garbled is_over is_closed stream next_id frames_at ending_at settled_by pending outcomes_at
the_next_start = refl

the_next_frame : sent silent 1904 (start three_words) ≡ 0 ∷ 1 ∷ 0 ∷ 0 ∷ 0 ∷ 6 ∷ 1 ∷ 3 ∷ 156 ∷ 158 ∷ 0 ∷ 3 ∷ []
unfolding unit_of frames frames_in rest rest_in is_garbled is_over is_closed stream next_id frames_at ending_at settled_by pending outcomes_at
the_next_frame = refl

lost_with_its_connection : reported (Fed 1904 (start three_words) ∷ silent) 1905 gone ≡ note.Outcome 2 (outcome.Lost lost.Gone) ∷ []
unfolding unit_of frames frames_in rest rest_in is_garbled is_over is_closed stream next_id frames_at ending_at settled_by pending outcomes_at
lost_with_its_connection = refl

not_connected : decision_of (Fed 1905 gone ∷ Fed 1904 (start three_words) ∷ silent) 1905 (start three_words) ≡ Err refusal.Busy
unfolding unit_of frames frames_in rest rest_in is_garbled is_over is_closed stream next_id frames_at ending_at settled_by pending outcomes_at
not_connected = refl

lost_with_the_office : facts_of (Opened 1899 ∷ started)
    ≡ fact.Outcome (record { poll = 1; at = 1899; outcome = outcome.Lost lost.Restart }) ∷ facts_of started
unfolding unit_of frames frames_in rest rest_in is_garbled is_over is_closed stream next_id frames_at ending_at settled_by pending outcomes_at
lost_with_the_office = refl

opened_too_early : opening_refusal_of (facts_of started) 1897 ≡ Some refusal.ClockBack
unfolding unit_of frames frames_in rest rest_in is_garbled is_over is_closed stream next_id frames_at ending_at settled_by pending outcomes_at
opened_too_early = refl

-- A point list whose plan (the Modbus reads that cover its points) has two reads.
abbrev list : Planned
list = record {
  points = record { name = 97 ∷ []; function = HoldingRegisters; area = 0; address = 0; kind = point.Acc32; scale = scale.Unscaled }
      ∷ record { name = 98 ∷ []; function = HoldingRegisters; area = 0; address = 124; kind = point.Uint16; scale = scale.Unscaled }
      ∷ record { name = 99 ∷ []; function = HoldingRegisters; area = 0; address = 125; kind = point.Uint16; scale = scale.Unscaled } ∷ [];
  reads = record { area = 0; span = record { function = HoldingRegisters; address = 0; count = 125; some = lit≤ tt; few = lit≤ tt; inside = lit≤ tt } }
      ∷ record { area = 0; span = record { function = HoldingRegisters; address = 125; count = 1; some = lit≤ tt; few = lit≤ tt; inside = lit≤ tt } } ∷ [];
}

abbrev listed : (window : ℕ) → History
listed window = Fed 1000 connect ∷ Fed 1000 (event.Command (command.PutList (record { device = Some inv; list = list })))
    ∷ Fed 1000 (device inv window) ∷ Opened 0 ∷ []

the_list : list_of (facts_of (listed 1)) inv ≡ Some list
unfolding unit_of frames frames_in rest rest_in is_garbled is_over is_closed stream next_id frames_at ending_at settled_by pending outcomes_at
the_list = refl

a_round : decision_of (listed 1) 1000 (round 0) ≡ Ok (answer.Started 1 1 2)
unfolding unit_of frames frames_in rest rest_in is_garbled is_over is_closed stream next_id frames_at ending_at settled_by pending outcomes_at
a_round = refl

its_first_frame : sent (listed 1) 1000 (round 0) ≡ 0 ∷ 0 ∷ 0 ∷ 0 ∷ 0 ∷ 6 ∷ 1 ∷ 3 ∷ 0 ∷ 0 ∷ 0 ∷ 125 ∷ []
unfolding unit_of frames frames_in rest rest_in is_garbled is_over is_closed stream next_id frames_at ending_at settled_by pending outcomes_at
its_first_frame = refl

no_room_for_the_second : decision_of (Fed 1000 (round 0) ∷ listed 1) 1000 (round 1) ≡ Err refusal.Busy
unfolding unit_of frames frames_in rest rest_in is_garbled is_over is_closed stream next_id frames_at ending_at settled_by pending outcomes_at
no_room_for_the_second = refl

-- Example events up to the response to the first read of a polling round.
abbrev first_read : History
first_read = Fed 1001 (bytes ((0 ∷ 0 ∷ 0 ∷ 0 ∷ 0 ∷ 253 ∷ 1 ∷ 3 ∷ 250 ∷ []) ++ replicate 250 0)) ∷ Fed 1000 (round 0) ∷ listed 1

the_second_read : decision_of first_read 1001 (round 1) ≡ Ok (answer.Started 2 1 2)
unfolding unit_of frames frames_in rest rest_in is_garbled is_over is_closed stream next_id frames_at ending_at settled_by pending outcomes_at
the_second_read = refl

its_second_frame : sent first_read 1001 (round 1) ≡ 0 ∷ 1 ∷ 0 ∷ 0 ∷ 0 ∷ 6 ∷ 1 ∷ 3 ∷ 0 ∷ 125 ∷ 0 ∷ 1 ∷ []
unfolding unit_of frames frames_in rest rest_in is_garbled is_over is_closed stream next_id frames_at ending_at settled_by pending outcomes_at
its_second_frame = refl

past_the_plan : decision_of first_read 1001 (round 2) ≡ Err refusal.Limit
unfolding unit_of frames frames_in rest rest_in is_garbled is_over is_closed stream next_id frames_at ending_at settled_by pending outcomes_at
past_the_plan = refl

a_round_of_two : decision_of (listed 2) 1000 (round 0) ≡ Ok (answer.Started 1 2 2)
unfolding unit_of frames frames_in rest rest_in is_garbled is_over is_closed stream next_id frames_at ending_at settled_by pending outcomes_at
a_round_of_two = refl

both_frames : sent (listed 2) 1000 (round 0)
    ≡ 0 ∷ 0 ∷ 0 ∷ 0 ∷ 0 ∷ 6 ∷ 1 ∷ 3 ∷ 0 ∷ 0 ∷ 0 ∷ 125 ∷ 0 ∷ 1 ∷ 0 ∷ 0 ∷ 0 ∷ 6 ∷ 1 ∷ 3 ∷ 0 ∷ 125 ∷ 0 ∷ 1 ∷ []
unfolding unit_of frames frames_in rest rest_in is_garbled is_over is_closed stream next_id frames_at ending_at settled_by pending outcomes_at
both_frames = refl

a_device_without_a_list : decision_of (Fed 1000 connect ∷ Fed 1000 (device inv 1) ∷ Opened 0 ∷ []) 1000 (round 0) ≡ Err refusal.NotFound
unfolding unit_of frames frames_in rest rest_in is_garbled is_over is_closed stream next_id frames_at ending_at settled_by pending outcomes_at
a_device_without_a_list = refl

abbrev both_wait : History
both_wait = Fed 1000 (start two_words) ∷ Fed 1000 (start two_words) ∷ Fed 1000 connect ∷ Fed 1000 (device inv 2) ∷ Opened 0 ∷ []

a_third_has_no_room : decision_of both_wait 1000 (start two_words) ≡ Err refusal.Busy
unfolding unit_of frames frames_in rest rest_in is_garbled is_over is_closed stream next_id frames_at ending_at settled_by pending outcomes_at
a_third_has_no_room = refl

both_silent : reported both_wait 1005 event.Tick ≡ note.Outcome 1 outcome.Silent ∷ note.Outcome 2 outcome.Silent ∷ []
unfolding unit_of frames frames_in rest rest_in is_garbled is_over is_closed stream next_id frames_at ending_at settled_by pending outcomes_at
both_silent = refl

the_second_is_answered_first : reported both_wait 1001 (bytes ((0 ∷ 1 ∷ 0 ∷ 0 ∷ 0 ∷ 7 ∷ 1 ∷ 3 ∷ 4 ∷ 0 ∷ 0 ∷ 0 ∷ 7 ∷ []) ++ 0 ∷ 0 ∷ 0 ∷ 0 ∷ 0 ∷ 7 ∷ 1 ∷ 3 ∷ 4 ∷ 0 ∷ 0 ∷ 0 ∷ 9 ∷ []))
    ≡ note.Outcome 2 outcome.Answered ∷ note.Outcome 1 outcome.Answered ∷ []
unfolding unit_of frames frames_in rest rest_in is_garbled is_over is_closed stream next_id frames_at ending_at settled_by pending outcomes_at
the_second_is_answered_first = refl
