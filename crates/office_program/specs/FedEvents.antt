-- The events that a polling round fed to an office (the engine that records energy), and their
-- answers, printed texts and Modbus frames. Lists have the latest event first.
use Rattle.std.specs.Prelude.{◌≡◌, ℕ, List, [], ◌∷◌, ◌++◌, Option, Result, Ok, Err}
use Rattle.mb_wire.specs.Sockets.Clocks.{ReportsMoment}
use Rattle.script_text.specs.AnswerText.{accepted_text}
use Rattle.office_events.specs.declared.answers.Answer.{Answer}
use Rattle.office_events.specs.declared.events.Event.{Event}
use Rattle.office_events.specs.declared.events.Event.TheVariants as event
use Rattle.office_events.specs.declared.refusals.Refusal.{Refusal}
use Rattle.office_books.specs.History.{History}
use Rattle.office_books.specs.Notes.{notes_after, outgoing_after}
use Rattle.office_books.specs.Refusals.{with_answer}
use Rattle.office_books.specs.declared.failures.Failures.{Failures}
use Rattle.office_core.specs.EventRun.{Answered}
use Rattle.office_core.specs.Taking.{IsAnswer}

-- The events that the event engine has accepted after a list of events. `past` are the events that
-- it accepted before them.
abbrev pub history_with : (past : History) → List Answered → History
history_with past [] = past
history_with past (one ∷ earlier) =
    with_answer (history_with past earlier) one.at one.event one.result

-- True if each event has the answer that the specification gives after the earlier events, or was
-- refused because of a failure (such as a failed store). Only these failures increase the store's
-- failure counts.
abbrev pub AreAnswered : (past : History) → (before after : Failures) → List Answered → Type 0
AreAnswered past before after [] = after ≡ before
AreAnswered past before after (one ∷ earlier) =
    (between : Failures) × AreAnswered past before between earlier
    × IsAnswer (history_with past earlier) one.at one.event between after one.result

-- The text printed for an event. For an accepted event, the text has the event's notifications and
-- the answer, in the format in which a script (a text of commands) is answered. For a refused event
-- nothing is printed.
abbrev pub reported_text : History → (at : ℕ) → Event → Result Answer Refusal → List ℕ
reported_text past at e (Ok given) =
    accepted_text given (notes_after past at e (Ok given)) (outgoing_after past at e (Ok given))
reported_text past at e (Err why) = []

-- The text that is printed for a list of events, in the order in which the events were fed to the
-- event engine.
abbrev pub text_after : (past : History) → List Answered → List ℕ
text_after past [] = []
text_after past (one ∷ earlier) =
    text_after past earlier ++ reported_text (history_with past earlier) one.at one.event one.result

-- The bytes of the Modbus frames that the event engine sends for a list of events, in the order in
-- which the events were fed.
abbrev pub frames_after : (past : History) → List Answered → List ℕ
frames_after past [] = []
frames_after past (one ∷ earlier) =
    frames_after past earlier
    ++ outgoing_after (history_with past earlier) one.at one.event one.result

-- The bytes received from a device that an event has. Empty for every event other than `Bytes`
-- (bytes were received).
abbrev pub piece_in : Event → List ℕ
piece_in (event.Connected given) = []
piece_in (event.Bytes given piece) = piece
piece_in event.Tick = []
piece_in (event.Gone given closing) = []
piece_in (event.Command c) = []
piece_in (event.Asked asked) = []

-- The bytes received from the device that the events in a list have, in the order in which the
-- events were fed to the event engine.
abbrev pub pieces_after : List Answered → List ℕ
pieces_after [] = []
pieces_after (one ∷ earlier) = pieces_after earlier ++ piece_in one.event

-- True if the timestamp of each event is a time that the clock returned, and the clock advanced
-- from `begun` to `now` by these readings.
abbrev pub AreTimed : (begun now : Option (List ℕ)) → List Answered → Type 0
AreTimed begun now [] = now ≡ begun
AreTimed begun now (one ∷ earlier) =
    (between : Option (List ℕ)) × AreTimed begun between earlier × ReportsMoment between now one.at
