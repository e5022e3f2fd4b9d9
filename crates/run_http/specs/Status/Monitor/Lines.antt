-- The log lines for operators. Each definition appends to a text.
use Rattle.std.specs.Prelude.{ℕ, List, [], ◌∷◌, ◌++◌, Option, Some, None, Result, Ok, Err, codes, decimal}
use Rattle.energy_core.specs.Verdict.{cause_number}
use Rattle.poll_core.specs.declared.outcome.Closing.TheVariants as closing
use Rattle.office_events.specs.Numbers.{refusal_number}
use Rattle.office_events.specs.declared.answers.Answer.{Answer}
use Rattle.office_events.specs.declared.answers.Note.{Note}
use Rattle.office_events.specs.declared.answers.Note.TheVariants as note
use Rattle.office_events.specs.declared.events.Event.{Event}
use Rattle.office_events.specs.declared.events.Event.TheVariants as event
use Rattle.office_events.specs.declared.refusals.Refusal.{Refusal}

-- The beginning of a log line: the timestamp and the device's name, or `-` for a name that is not
-- valid.
abbrev pub with_head : (at : ℕ) → (name : Option (List ℕ)) → List ℕ → List ℕ
with_head at None text = text ++ decimal at ++ codes " -"
with_head at (Some name) text = text ++ decimal at ++ codes " " ++ name

-- The log line of an event that begins or ends a connection. Other events have no line.
abbrev pub with_event : (at : ℕ) → (name : Option (List ℕ)) → Event → List ℕ → List ℕ
with_event at name (event.Connected given) text = with_head at name text ++ codes " connected\n"
with_event at name (event.Bytes given piece) text = text
with_event at name event.Tick text = text
with_event at name (event.Gone given closing.Gone) text = with_head at name text ++ codes " gone\n"
with_event at name (event.Gone given closing.Failed) text =
    with_head at name text ++ codes " failed\n"
with_event at name (event.Command c) text = text
with_event at name (event.Asked asked) text = text

-- The log line of an event of a device. If the program refused the event, the line reports the
-- refusal.
abbrev pub with_answer : (at : ℕ) → (name : Option (List ℕ)) → Event → Result Answer Refusal
    → List ℕ → List ℕ
with_answer at name e (Ok given) text = with_event at name e text
with_answer at name e (Err why) text =
    with_head at name text ++ codes " refused " ++ decimal (refusal_number why) ++ codes "\n"

-- The log line of a rejected reading: its meter, counter and cause. Other notifications have no
-- line.
abbrev pub with_note : (at : ℕ) → (name : Option (List ℕ)) → Note → List ℕ → List ℕ
with_note at name (note.Outcome poll outcome) text = text
with_note at name (note.Reading meter raw rolls step) text = text
with_note at name (note.Held meter raw cause) text =
    with_head at name text ++ codes " held " ++ meter ++ codes " " ++ decimal raw ++ codes " cause "
    ++ decimal (cause_number cause) ++ codes "\n"

-- The log lines of all readings that an event's notifications report as rejected.
abbrev pub with_notes : (at : ℕ) → (name : Option (List ℕ)) → List Note → List ℕ → List ℕ
with_notes at name [] text = text
with_notes at name (one ∷ notes) text = with_notes at name notes (with_note at name one text)

-- All log lines of one event of a device.
abbrev pub with_lines : (at : ℕ) → (name : Option (List ℕ)) → Event → Result Answer Refusal
    → List Note → List ℕ → List ℕ
with_lines at name e answer notes text =
    with_notes at name notes (with_answer at name e answer text)

-- The log line of a polling round: how many of its polls were answered, timed out, or ended in
-- another way.
abbrev pub with_sum : (at : ℕ) → (name : Option (List ℕ)) → (answered silent failed : ℕ)
    → List ℕ → List ℕ
with_sum at name answered silent failed text =
    with_head at name text ++ codes " round answered " ++ decimal answered
    ++ codes " silent " ++ decimal silent
    ++ codes " failed " ++ decimal failed ++ codes "\n"
