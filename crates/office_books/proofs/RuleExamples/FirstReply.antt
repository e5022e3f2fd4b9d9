-- A worked example: the response of a device to a poll contains one reading of a meter.
use Rattle.std.proofs.Common.{◌≡◌, pos, false, [], ◌∷◌, Some, None, Ok, refl}
use Rattle.energy_core.specs.Value.{unit_of}
use Rattle.energy_core.specs.declared.entries.Entry.TheVariants as entry
use Rattle.mb_wire.specs.Frames.{frames, frames_in, rest, rest_in, is_garbled}
use Rattle.mb_wire.specs.declared.span.ReadFunction.TheVariants.{HoldingRegisters}
use Rattle.poll_core.specs.Settling.{stream, next_id, frames_at, ending_at, settled_by, pending, outcomes_at}
use Rattle.poll_core.specs.Standing.{is_over, is_closed}
use Rattle.poll_core.specs.declared.outcome.Outcome.TheVariants as outcome
use Rattle.meter_journal.specs.declared.lines.EntryKind.TheVariants as kind
use Rattle.office_events.specs.declared.facts.Opening.{Opening}
use Rattle.office_events.specs.declared.facts.ScaleSource.TheVariants as source
use Rattle.office_events.specs.declared.facts.Fact.TheVariants as fact
use Rattle.office_events.specs.declared.answers.Answer.TheVariants as answer
use Rattle.office_events.specs.declared.answers.Note.TheVariants as note
use Rattle.office_books.specs.Readings.{poll_row_of}
use Rattle.office_books.specs.History.{Opened, Fed, facts_of}
use Rattle.office_books.specs.Refusals.{decision_of}
use Rattle.office_books.specs.Intervals.{rows_of_meter}
use Rattle.office_books.proofs.RuleExamples.Samples.{inv, main, m1, m2, device, full_range, connect, three_words, start, started, reply, answered, reported, sent, meter}

abbrev opening : Opening
opening = record { meter = m1; register = main; ceiling = 100000; range = full_range; at = 1000; raw = 5000; sf = pos 0 }

its_facts : facts_of answered
    ≡ fact.Entry (record { meter = m1; kind = kind.Reading; entry = entry.Step 1900 5200 0 })
    ∷ fact.Outcome (record { poll = 1; at = 1900; outcome = outcome.Answered })
    ∷ fact.Poll (record { number = 1; device = inv; unit = 1; at = 1898; id = 0; span = three_words })
    ∷ fact.Opening opening
    ∷ fact.Register (record { name = main; device = inv; function = HoldingRegisters; address = 40094; scale = source.Register 40096 })
    ∷ fact.Device (record { name = inv; unit = 1; timeout = 5; window = 1 }) ∷ []
unfolding unit_of frames frames_in rest rest_in is_garbled is_over is_closed stream next_id frames_at ending_at settled_by pending outcomes_at
its_facts = refl

the_start_is_answered : decision_of (Fed 1898 connect ∷ Fed 1000 (device inv 1) ∷ Opened 0 ∷ []) 1898 (start three_words) ≡ Ok (answer.Started 1 1 1)
unfolding unit_of frames frames_in rest rest_in is_garbled is_over is_closed stream next_id frames_at ending_at settled_by pending outcomes_at
the_start_is_answered = refl

its_frame : sent (Fed 1898 connect ∷ Fed 1000 (device inv 1) ∷ Opened 0 ∷ []) 1898 (start three_words)
    ≡ 0 ∷ 0 ∷ 0 ∷ 0 ∷ 0 ∷ 6 ∷ 1 ∷ 3 ∷ 156 ∷ 158 ∷ 0 ∷ 3 ∷ []
unfolding unit_of frames frames_in rest rest_in is_garbled is_over is_closed stream next_id frames_at ending_at settled_by pending outcomes_at
its_frame = refl

the_reply_is_answered : decision_of started 1900 (reply 0 20 80 0) ≡ Ok answer.Noted
unfolding unit_of frames frames_in rest rest_in is_garbled is_over is_closed stream next_id frames_at ending_at settled_by pending outcomes_at
the_reply_is_answered = refl

its_notes : reported started 1900 (reply 0 20 80 0) ≡ note.Outcome 1 outcome.Answered ∷ note.Reading m1 5200 0 200000 ∷ []
unfolding unit_of frames frames_in rest rest_in is_garbled is_over is_closed stream next_id frames_at ending_at settled_by pending outcomes_at
its_notes = refl

the_meter : meter answered m1
    ≡ Some (record { opening = opening; last = record { at = 1900; raw = 5200; sf = pos 0 }; total = 200000; ended = false })
unfolding unit_of frames frames_in rest rest_in is_garbled is_over is_closed stream next_id frames_at ending_at settled_by pending outcomes_at
the_meter = refl

its_intervals : rows_of_meter (facts_of answered) m1
    ≡ record { start = 900; mwh = 177777 } ∷ record { start = 1800; mwh = 22223 } ∷ []
unfolding unit_of frames frames_in rest rest_in is_garbled is_over is_closed stream next_id frames_at ending_at settled_by pending outcomes_at
its_intervals = refl

the_poll : poll_row_of (facts_of answered) 1 ≡ Some (record {
  poll = record { number = 1; device = inv; unit = 1; at = 1898; id = 0; span = three_words };
  ended = Some (record { poll = 1; at = 1900; outcome = outcome.Answered });
})
unfolding unit_of frames frames_in rest rest_in is_garbled is_over is_closed stream next_id frames_at ending_at settled_by pending outcomes_at
the_poll = refl

no_such_poll : poll_row_of (facts_of answered) 2 ≡ None
unfolding unit_of frames frames_in rest rest_in is_garbled is_over is_closed stream next_id frames_at ending_at settled_by pending outcomes_at
no_such_poll = refl

no_such_meter : meter answered m2 ≡ None
unfolding unit_of frames frames_in rest rest_in is_garbled is_over is_closed stream next_id frames_at ending_at settled_by pending outcomes_at
no_such_meter = refl
