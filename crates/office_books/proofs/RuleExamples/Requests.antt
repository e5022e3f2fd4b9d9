-- Worked examples of requests: new requests, retries, requests that reuse an idempotency key with
-- other bytes, and the order of the checks that refuse requests.
use Rattle.std.proofs.Common.{◌≡◌, [], ◌∷◌, Some, None, Ok, Err, refl}
use Rattle.energy_core.specs.Value.{unit_of}
use Rattle.mb_wire.specs.Frames.{frames, frames_in, rest, rest_in, is_garbled}
use Rattle.poll_core.specs.Settling.{stream, next_id, frames_at, ending_at, settled_by, pending, outcomes_at}
use Rattle.poll_core.specs.Standing.{is_over, is_closed}
use Rattle.office_events.specs.declared.commands.Command.TheVariants as command
use Rattle.office_events.specs.declared.events.Event.TheVariants as event
use Rattle.office_events.specs.declared.refusals.Refusal.TheVariants as refusal
use Rattle.office_events.specs.declared.answers.Answer.TheVariants as answer
use Rattle.office_events.specs.declared.answers.CommandKind.TheVariants as done
use Rattle.office_books.specs.Facts.{reply_of}
use Rattle.office_books.specs.History.{Opened, Fed, facts_of}
use Rattle.office_books.specs.Refusals.{decision_of, with_answer}
use Rattle.office_books.proofs.RuleExamples.Samples.{inv, main, desk, device, asked, answered, reported}

asked_once : decision_of answered 2800 (asked (1 ∷ []) 5300) ≡ Ok (answer.Done done.Exchange)
unfolding unit_of frames frames_in rest rest_in is_garbled is_over is_closed stream next_id frames_at ending_at settled_by pending outcomes_at
asked_once = refl

what_is_kept : reply_of (facts_of (Fed 2800 (asked (1 ∷ []) 5300) ∷ answered)) desk 7
    ≡ Some (record { caller = desk; number = 7; request = 1 ∷ []; kind = done.Exchange; at = 2800 })
unfolding unit_of frames frames_in rest rest_in is_garbled is_over is_closed stream next_id frames_at ending_at settled_by pending outcomes_at
what_is_kept = refl

asked_again : decision_of (Fed 2800 (asked (1 ∷ []) 5300) ∷ answered) 2700 (asked (1 ∷ []) 5300) ≡ Ok (answer.Again done.Exchange)
unfolding unit_of frames frames_in rest rest_in is_garbled is_over is_closed stream next_id frames_at ending_at settled_by pending outcomes_at
asked_again = refl

again_changes_nothing : with_answer (Fed 2800 (asked (1 ∷ []) 5300) ∷ answered) 2700 (asked (1 ∷ []) 5300) (decision_of (Fed 2800 (asked (1 ∷ []) 5300) ∷ answered) 2700 (asked (1 ∷ []) 5300)) ≡ Fed 2800 (asked (1 ∷ []) 5300) ∷ answered
unfolding unit_of frames frames_in rest rest_in is_garbled is_over is_closed stream next_id frames_at ending_at settled_by pending outcomes_at
again_changes_nothing = refl

again_reports_nothing : reported (Fed 2800 (asked (1 ∷ []) 5300) ∷ answered) 2700 (asked (1 ∷ []) 5300) ≡ []
unfolding unit_of frames frames_in rest rest_in is_garbled is_over is_closed stream next_id frames_at ending_at settled_by pending outcomes_at
again_reports_nothing = refl

asked_otherwise : decision_of (Fed 2800 (asked (1 ∷ []) 5300) ∷ answered) 2800 (asked (2 ∷ []) 5301) ≡ Err refusal.Reused
unfolding unit_of frames frames_in rest rest_in is_garbled is_over is_closed stream next_id frames_at ending_at settled_by pending outcomes_at
asked_otherwise = refl

asked_in_vain : decision_of answered 1800 (asked (1 ∷ []) 5300) ≡ Err refusal.ClockBack
unfolding unit_of frames frames_in rest rest_in is_garbled is_over is_closed stream next_id frames_at ending_at settled_by pending outcomes_at
asked_in_vain = refl

judged_anew : decision_of answered 2801 (asked (1 ∷ []) 5301) ≡ Ok (answer.Done done.Exchange)
unfolding unit_of frames frames_in rest rest_in is_garbled is_over is_closed stream next_id frames_at ending_at settled_by pending outcomes_at
judged_anew = refl

too_great_a_number : decision_of answered 2800 (event.Asked (record { caller = Some desk; number = 9223372036854775808; request = []; command = command.Close (record { register = Some main; raw = 5300; rolls = 0 }) })) ≡ Err refusal.Limit
unfolding unit_of frames frames_in rest rest_in is_garbled is_over is_closed stream next_id frames_at ending_at settled_by pending outcomes_at
too_great_a_number = refl

no_caller : decision_of answered 2800 (event.Asked (record { caller = None; number = 7; request = []; command = command.Close (record { register = Some main; raw = 5300; rolls = 0 }) })) ≡ Err refusal.Limit
unfolding unit_of frames frames_in rest rest_in is_garbled is_over is_closed stream next_id frames_at ending_at settled_by pending outcomes_at
no_caller = refl

a_device : decision_of (Opened 0 ∷ []) 5 (device inv 1) ≡ Ok (answer.Done done.Device)
unfolding unit_of frames frames_in rest rest_in is_garbled is_over is_closed stream next_id frames_at ending_at settled_by pending outcomes_at
a_device = refl

the_clock_went_back : decision_of (Fed 5 (device inv 1) ∷ Opened 0 ∷ []) 4 (device main 1) ≡ Err refusal.ClockBack
unfolding unit_of frames frames_in rest rest_in is_garbled is_over is_closed stream next_id frames_at ending_at settled_by pending outcomes_at
the_clock_went_back = refl

the_name_is_taken : decision_of (Fed 5 (device inv 1) ∷ Opened 0 ∷ []) 5 (device inv 1) ≡ Err refusal.Exists
unfolding unit_of frames frames_in rest rest_in is_garbled is_over is_closed stream next_id frames_at ending_at settled_by pending outcomes_at
the_name_is_taken = refl

taken_before_the_clock : decision_of (Fed 5 (device inv 1) ∷ Opened 0 ∷ []) 4 (device inv 1) ≡ Err refusal.Exists
unfolding unit_of frames frames_in rest rest_in is_garbled is_over is_closed stream next_id frames_at ending_at settled_by pending outcomes_at
taken_before_the_clock = refl

past_the_last_moment : decision_of (Opened 0 ∷ []) 4102444801 (device inv 1) ≡ Err refusal.Limit
unfolding unit_of frames frames_in rest rest_in is_garbled is_over is_closed stream next_id frames_at ending_at settled_by pending outcomes_at
past_the_last_moment = refl

too_wide_a_window : decision_of (Opened 0 ∷ []) 0 (device inv 17) ≡ Err refusal.Limit
unfolding unit_of frames frames_in rest rest_in is_garbled is_over is_closed stream next_id frames_at ending_at settled_by pending outcomes_at
too_wide_a_window = refl
