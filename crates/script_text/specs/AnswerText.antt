-- The lines that a run of a script prints for answers, notifications, refusals, meters, polls and
-- faults. A script is a text of commands, events and queries.
use Rattle.std.specs.Prelude.{ℕ, Bool, true, false, List, ◌++◌, flat_map, Some, None, codes}
use Rattle.std.specs.declared.option.Option.{Option}
use Rattle.std.specs.Fmt.{decimal, signed_decimal}
use Rattle.point_list.specs.Faults.{fault_number}
use Rattle.point_list.specs.declared.fault.FaultyRow.{FaultyRow}
use Rattle.hex.specs.Hex.{encode_lower}
use Rattle.energy_core.specs.Verdict.{cause_number}
use Rattle.energy_core.specs.declared.entries.Last.{Last}
use Rattle.office_events.specs.Numbers.{refusal_number}
use Rattle.office_events.specs.declared.answers.Answer.{Answer}
use Rattle.office_events.specs.declared.answers.Answer.TheVariants.{Noted, Done, Again, Started}
use Rattle.office_events.specs.declared.answers.Note.{Note}
use Rattle.office_events.specs.declared.answers.Note.TheVariants as note
use Rattle.office_events.specs.declared.facts.EndedPoll.{EndedPoll}
use Rattle.office_events.specs.declared.questions.Installation.{Installation}
use Rattle.office_events.specs.declared.questions.PollRow.{PollRow}
use Rattle.office_events.specs.declared.refusals.Refusal.{Refusal}
use Rattle.poll_core.specs.Outcomes.{cause_number as loss_number, malformation_number}
use Rattle.poll_core.specs.declared.outcome.Outcome.{Outcome}
use Rattle.poll_core.specs.declared.outcome.Outcome.TheVariants.{Answered, Exception, Silent, Malformed, Lost}

-- The text for the outcome of a poll, such as `answered` or `exception 2`.
abbrev pub outcome_text : Outcome → List ℕ
outcome_text Answered = codes "answered"
outcome_text (Exception code) = codes "exception " ++ decimal code
outcome_text Silent = codes "silent"
outcome_text (Malformed wrong) = codes "malformed " ++ decimal (malformation_number wrong)
outcome_text (Lost cause) = codes "lost " ++ decimal (loss_number cause)

-- The text for the state of a poll: its outcome, or `pending` before it has an outcome.
abbrev pub ending_text : Option EndedPoll → List ℕ
ending_text None = codes "pending"
ending_text (Some ended) = outcome_text ended.outcome

-- The line `poll N OUTCOME` for the outcome of the poll with number N.
abbrev pub outcome_line : ℕ → Outcome → List ℕ
outcome_line poll outcome =
    codes "poll " ++ decimal poll ++ codes " " ++ outcome_text outcome ++ codes "\n"

-- The part of the output line of an accepted meter reading after the meter's name: the meter's
-- count, and the counter's rollovers and the energy in mWh since the previous entry.
abbrev pub reading_text : ℕ → ℕ → ℕ → List ℕ
reading_text raw rolls step =
    codes " " ++ decimal raw ++ codes " rolls " ++ decimal rolls ++ codes " step " ++ decimal step
    ++ codes "\n"

-- The part of the output line of a rejected meter reading after the meter's name: the meter's
-- count, and the numeric code of the cause.
abbrev pub held_text : ℕ → ℕ → List ℕ
held_text raw cause = codes " " ++ decimal raw ++ codes " cause " ++ decimal cause ++ codes "\n"

-- The line for a notification, which reports a result of an event: the outcome of a poll, an
-- accepted reading or a rejected reading.
abbrev pub note_line : Note → List ℕ
note_line (note.Outcome poll outcome) = outcome_line poll outcome
note_line (note.Reading meter raw rolls step) =
    codes "reading " ++ meter ++ reading_text raw rolls step
note_line (note.Held meter raw cause) = codes "held " ++ meter ++ held_text raw (cause_number cause)

-- The beginning of the output line for started polls (Modbus reads): the number of the first poll,
-- the number of started polls, and the total number of reads for the device's point list.
abbrev pub counts_text : ℕ → ℕ → ℕ → List ℕ
counts_text first count of =
    codes "started " ++ decimal first ++ codes " " ++ decimal count ++ codes " " ++ decimal of
    ++ codes " "

-- The output line for the answer to an event: `started FIRST COUNT OF HEX` if polls were started,
-- otherwise `ok`. HEX are the Modbus frames to send.
abbrev pub answer_line : Answer → List ℕ → List ℕ
answer_line Noted frames = codes "ok\n"
answer_line (Done kind) frames = codes "ok\n"
answer_line (Again kind) frames = codes "ok\n"
answer_line (Started first count of) frames =
    counts_text first count of ++ encode_lower frames ++ codes "\n"

-- The lines for an accepted event: one for each notification (such as a recorded reading), then one
-- for the answer.
abbrev pub accepted_text : Answer → List Note → List ℕ → List ℕ
accepted_text answer notes frames = flat_map note_line notes ++ answer_line answer frames

-- The line `refused N`, where N is the numeric code of the reason for the refusal.
abbrev pub refused_line : Refusal → List ℕ
refused_line refusal = codes "refused " ++ decimal (refusal_number refusal) ++ codes "\n"

-- The last word of a meter's output line: `ended` if the meter was closed, otherwise `open`.
abbrev pub end_word : Bool → List ℕ
end_word true = codes " ended\n"
end_word false = codes " open\n"

-- The part of a meter's output line after the meter's name: the last count, its scale factor and
-- timestamp, the total energy in mWh, and `open` or `ended`.
abbrev pub standing_text : Last → ℕ → Bool → List ℕ
standing_text last total ended =
    codes " last " ++ decimal last.raw ++ codes " sf " ++ signed_decimal last.sf ++ codes " at "
    ++ decimal last.at
    ++ codes " total " ++ decimal total ++ end_word ended

-- The line `meter NAME last RAW ..` for a meter, with its total energy in mWh.
abbrev pub meter_line : Installation → List ℕ
meter_line row = codes "meter " ++ row.opening.meter ++ standing_text row.last row.total row.ended

-- The output line `poll N STATE` for a poll (a Modbus read), where STATE is the poll's outcome or
-- `pending`.
abbrev pub poll_line : PollRow → List ℕ
poll_line row =
    codes "poll " ++ decimal row.poll.number ++ codes " " ++ ending_text row.ended ++ codes "\n"

-- The line `row R fault N` for row R of a point list, where N is the numeric code of the row's
-- fault. The header is row 1.
abbrev pub fault_line : FaultyRow → List ℕ
fault_line faulty =
    codes "row " ++ decimal faulty.row ++ codes " fault " ++ decimal (fault_number faulty.fault)
    ++ codes "\n"

-- The output line `bad line N`, which reports that input line N is malformed. Input lines are
-- numbered from 1.
abbrev pub bad_line : ℕ → List ℕ
bad_line number = codes "bad line " ++ decimal number ++ codes "\n"
