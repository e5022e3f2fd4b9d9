-- The notifications of an accepted event, and the Modbus frames of the polls that the event starts.
-- Notifications state the outcomes of polls and the readings in their responses.
use Rattle.std.specs.Prelude.{ℕ, List, [], ◌∷◌, ◌++◌, Option, Some, None, Result, Ok, Err, if◌then◌else◌}
use Rattle.std.specs.Option.{option_map, option_to_list}
use Rattle.energy_core.specs.declared.verdicts.Reading.{Reading}
use Rattle.energy_core.specs.declared.verdicts.Verdict.{Verdict}
use Rattle.energy_core.specs.declared.verdicts.Verdict.TheVariants.{Accepted, Held}
use Rattle.mb_wire.specs.Requests.{request_bytes}
use Rattle.mb_wire.specs.Reader.{spelling}
use Rattle.mb_wire.specs.Spans.{span_view, request_of}
use Rattle.poll_core.specs.Settling as session
use Rattle.office_events.specs.declared.facts.Poll.{Poll}
use Rattle.office_events.specs.declared.facts.Register.{Register}
use Rattle.office_events.specs.declared.facts.Fact.{Fact}
use Rattle.office_events.specs.declared.facts.Fact.TheVariants as fact
use Rattle.office_events.specs.declared.answers.Answer.{Answer}
use Rattle.office_events.specs.declared.answers.Answer.TheVariants as answer
use Rattle.office_events.specs.declared.refusals.Refusal.{Refusal}
use Rattle.office_events.specs.declared.answers.Note.{Note}
use Rattle.office_events.specs.declared.answers.Note.TheVariants as note
use Rattle.office_events.specs.declared.questions.Installation.{Installation}
use Rattle.office_events.specs.declared.commands.Command.{Command}
use Rattle.office_events.specs.declared.facts.Device.{Device}
use Rattle.mb_wire.specs.declared.span.ReadSpan.{ReadSpan}
use Rattle.std.specs.List.{flat_map}
use Rattle.office_events.specs.declared.events.Event.{Event}
use Rattle.office_events.specs.declared.events.Event.TheVariants as event
use Rattle.office_books.specs.Facts.{poll_of, registers_of}
use Rattle.office_books.specs.Meters.{open_at}
use Rattle.office_books.specs.Readings.{is_read_by, reading_of, judgement, with_register}
use Rattle.office_books.specs.Sessions.{Slot, Send, slot_of, command_in, started_on, sends_at}
use Rattle.office_books.specs.History.{History, next_poll, facts_of, slots_of, outcome_of, settled_by, with_outcome, with_outcomes, spans_by}

-- The notification of a reading with a given verdict: accepted with its energy, or rejected with
-- its cause.
abbrev pub as_note : (meter : List ℕ) → Reading → Verdict → Note
as_note meter reading (Accepted rolls step) = note.Reading meter reading.raw rolls step
as_note meter reading (Held cause) = note.Held meter reading.raw cause

-- The notification of a reading of an installed meter, judged by the meter's present state.
abbrev pub reading_note : Reading → Installation → Note
reading_note reading row = as_note row.opening.meter reading (judgement row reading)

-- The notification of the reading that a response has for an accounting register (an energy
-- counter). The list is empty if the read does not cover the register, or the register has no open
-- meter.
abbrev pub register_notes : ℕ → Poll → List ℕ → Register → List Fact → List Note
register_notes at poll words register facts =
    if is_read_by poll.span register
    then option_to_list
    (option_map (reading_note (reading_of at poll.span words register))
    (open_at facts register.name))
    else []

-- The notifications of the readings that a response has for several accounting registers (energy
-- counters), in order.
abbrev pub registers_notes : ℕ → Poll → List ℕ → List Register → List Fact → List Note
registers_notes at poll words [] facts = []
registers_notes at poll words (register ∷ registers) facts =
    register_notes at poll words register facts
    ++ registers_notes at poll words registers (with_register at poll words register facts)

-- The notifications of the readings in the response to a poll. The list is empty if the poll is
-- unknown.
abbrev pub reply_notes : ℕ → Option Poll → List ℕ → List Fact → List Note
reply_notes at None words facts = []
reply_notes at (Some poll) words facts =
    registers_notes at poll words (registers_of facts poll.device) facts

-- The notifications of the readings in the response to a poll. The list is empty if the poll was
-- not answered.
abbrev pub words_notes : ℕ → (number : ℕ) → session.Settlement → List Fact → List Note
words_notes at number (session.Answered words) facts =
    reply_notes at (poll_of facts number) words facts
words_notes at number _ facts = []

-- The notifications of a poll that ended: its outcome, followed by the readings in its response.
abbrev pub outcome_notes : ℕ → (ℕ × session.Settlement) → List Fact → List Note
outcome_notes at settled facts =
    note.Outcome settled.0 (outcome_of settled.1)
    ∷ words_notes at settled.0 settled.1
    (fact.Outcome (record { poll = settled.0; at = at; outcome = outcome_of settled.1 }) ∷ facts)

-- The notifications of several polls that ended, in order.
abbrev pub outcomes_notes : ℕ → List (ℕ × session.Settlement) → List Fact → List Note
outcomes_notes at [] facts = []
outcomes_notes at (settled ∷ later) facts =
    outcome_notes at settled facts ++ outcomes_notes at later (with_outcome at settled facts)

-- The notifications of all polls that an event ends, device by device.
abbrev pub settled_notes : (number at : ℕ) → Event → List Slot → List Fact → List Note
settled_notes number at e [] facts = []
settled_notes number at e (slot ∷ slots) facts =
    outcomes_notes at (settled_by number at e slot) facts
    ++ settled_notes number at e slots (with_outcomes at (settled_by number at e slot) facts)

-- The notifications of an accepted event: those of the polls that the event ends. A new connection
-- or a command has no notifications.
abbrev pub notes_of : (number at : ℕ) → Event → List Slot → List Fact → List Note
notes_of number at (event.Bytes given piece) slots facts =
    settled_notes number at (event.Bytes given piece) slots facts
notes_of number at event.Tick slots facts = settled_notes number at event.Tick slots facts
notes_of number at (event.Gone given closing) slots facts =
    settled_notes number at (event.Gone given closing) slots facts
notes_of number at _ slots facts = []

-- The Modbus TCP frame of a read that is sent to a device.
abbrev pub frame_of : Device → Send → List ℕ
frame_of device send =
    spelling send.id device.unit (request_bytes (request_of (span_view send.span)))

-- The bytes of the Modbus frames of all reads that a device's Modbus session can start. The list is
-- empty if the device does not exist.
abbrev pub frames_from : (number at : ℕ) → List ReadSpan → Option Slot → List ℕ
frames_from number at spans None = []
frames_from number at spans (Some slot) =
    flat_map (frame_of slot.device) (sends_at number at slot.device slot.present spans)

-- The bytes to send after a command: the Modbus frames of the polls that the command starts.
-- Without a command, no bytes are sent.
abbrev pub frames_by : (number at : ℕ) → List Slot → List Fact → Option Command → List ℕ
frames_by number at slots facts None = []
frames_by number at slots facts (Some c) =
    frames_from number at (spans_by facts c) (slot_of slots (started_on c))

-- The bytes to send after an event: the Modbus frames of the polls that the event's command starts.
abbrev pub outgoing_of : (number at : ℕ) → Event → List Slot → List Fact → List ℕ
outgoing_of number at e slots facts = frames_by number at slots facts (command_in e)

-- The notifications after an event with a given answer. A refused event or a retry has no
-- notifications.
abbrev pub notes_after : History → (at : ℕ) → Event → Result Answer Refusal → List Note
notes_after past at e (Ok (answer.Again k)) = []
notes_after past at e (Ok given) =
    notes_of (next_poll (facts_of past)) at e (slots_of past) (facts_of past)
notes_after past at e (Err why) = []

-- The bytes to send after an event with a given answer. After a refused event or a retry, no bytes
-- are sent.
abbrev pub outgoing_after : History → (at : ℕ) → Event → Result Answer Refusal → List ℕ
outgoing_after past at e (Ok (answer.Again k)) = []
outgoing_after past at e (Ok given) =
    outgoing_of (next_poll (facts_of past)) at e (slots_of past) (facts_of past)
outgoing_after past at e (Err why) = []
