-- The next event of a polling round, as a function of the events that the round has already fed to
-- the office (the event engine). A polling round makes one poll for each Modbus read that covers a
-- device's point list.
--
-- In the definitions below, all lists of events have the latest event first.
use Rattle.std.specs.Prelude.{◌≡◌, ℕ, ◌+◌, ◌==◌, nat_lt, nat_le, Bool, false, List, [], ◌∷◌, Option, None, Some, Result, Ok, Err, IsOk, if◌then◌else◌}
use Rattle.std.specs.List.{count_by}
use Rattle.poll_core.specs.declared.outcome.Closing.TheVariants as closing
use Rattle.office_events.specs.declared.answers.Answer.{Answer}
use Rattle.office_events.specs.declared.answers.Answer.TheVariants as answer
use Rattle.office_events.specs.declared.answers.Note.{Note}
use Rattle.office_events.specs.declared.answers.Note.TheVariants as note
use Rattle.office_events.specs.declared.commands.Command.TheVariants as command
use Rattle.office_events.specs.declared.events.Event.{Event}
use Rattle.office_events.specs.declared.events.Event.TheVariants as event
use Rattle.office_events.specs.declared.refusals.Refusal.{Refusal}
use Rattle.office_books.specs.History.{History}
use Rattle.office_books.specs.Notes.{notes_after}
use Rattle.office_core.specs.EventRun.{Answered}
use Rattle.office_program.specs.FedEvents.{history_with}

-- The number of the polling round's first poll: `first` if an earlier answer of the event engine
-- reported it. Otherwise the number that the present answer reports, if any.
abbrev pub first_by : Option ℕ → Answer → Option ℕ
first_by (Some first) given = Some first
first_by None answer.Noted = None
first_by None (answer.Done kind) = None
first_by None (answer.Again kind) = None
first_by None (answer.Started first count of) = Some first

-- The number of polls that the event engine's answer reports as started, or 0 if the answer is not
-- `Started`.
abbrev pub started_by : Answer → ℕ
started_by answer.Noted = 0
started_by (answer.Done kind) = 0
started_by (answer.Again kind) = 0
started_by (answer.Started first count of) = count

-- The number of Modbus reads that cover the device's point list. It is the number in the event
-- engine's answer, or the earlier value `planned` if the answer reports none.
abbrev pub planned_by : ℕ → Answer → ℕ
planned_by planned answer.Noted = planned
planned_by planned (answer.Done kind) = planned
planned_by planned (answer.Again kind) = planned
planned_by planned (answer.Started first count of) = of

-- The number of the polling round's first poll after the event engine answered one more event. A
-- refusal leaves the number unchanged.
abbrev pub first_after : Option ℕ → Result Answer Refusal → Option ℕ
first_after first (Ok given) = first_by first given
first_after first (Err why) = first

-- The number of started Modbus reads after the event engine answered one more event. A refusal
-- leaves the number unchanged.
abbrev pub started_after : ℕ → Result Answer Refusal → ℕ
started_after started (Ok given) = started + started_by given
started_after started (Err why) = started

-- The number of Modbus reads that cover the device's point list, after the event engine answered
-- one more event. A refusal leaves the number unchanged.
abbrev pub planned_after : ℕ → Result Answer Refusal → ℕ
planned_after planned (Ok given) = planned_by planned given
planned_after planned (Err why) = planned

-- The number of the polling round's first poll, or `None` until the round has started a poll.
abbrev pub first_poll : List Answered → Option ℕ
first_poll [] = None
first_poll (one ∷ earlier) = first_after (first_poll earlier) one.result

-- The number of Modbus reads that the polling round has started so far.
abbrev pub reads_started : List Answered → ℕ
reads_started [] = 0
reads_started (one ∷ earlier) = started_after (reads_started earlier) one.result

-- The number of Modbus reads that cover the device's point list, as the event engine's answers have
-- reported it, or 0 if no answer has reported the number.
abbrev pub reads_planned : List Answered → ℕ
reads_planned [] = 0
reads_planned (one ∷ earlier) = planned_after (reads_planned earlier) one.result

-- True if the poll with the given number belongs to the polling round. Poll numbers increase, so
-- all numbers from the round's first poll on belong to the round.
abbrev pub is_from : (first : Option ℕ) → ℕ → Bool
is_from None poll = false
is_from (Some first) poll = nat_le first poll

-- True if the notification reports the outcome of a poll of the polling round.
abbrev pub is_ending : (first : Option ℕ) → Note → Bool
is_ending first (note.Outcome poll outcome) = is_from first poll
is_ending first (note.Reading meter raw rolls step) = false
is_ending first (note.Held meter raw cause) = false

-- The number of polls of the polling round that ended with the latest event.
abbrev pub endings_of : (past : History) → (earlier : List Answered) → Answered → ℕ
endings_of past earlier one =
    count_by (is_ending (first_poll earlier))
    (notes_after (history_with past earlier) one.at one.event one.result)

-- The number of polls of the polling round that have ended so far.
abbrev pub polls_ended : (past : History) → List Answered → ℕ
polls_ended past [] = 0
polls_ended past (one ∷ earlier) = polls_ended past earlier + endings_of past earlier one

-- The next action of a polling round:
-- - `Connect`: feed the event `Connected` to the event engine;
-- - `StartFrom`: start the Modbus reads of the device's plan (the reads that cover its point list)
--   from index `read` on;
-- - `Leave`: feed the event `Gone` (the device is disconnected) to the event engine;
-- - `Take`: read an event from the link (the connection to the device);
-- - `Over`: none, because the round is over.
pub data Next : Type 0 where
  Connect : Next
  StartFrom : (read : ℕ) → Next
  Leave : Next
  Take : Next
  Over : Next

-- The next action of a polling round after a poll ended. If Modbus reads of the plan remain, start
-- these reads. If no read remains and all polls have ended, feed the event `Gone`, which ends the
-- round, to the event engine. Otherwise read from the link.
abbrev pub next_left : (started ended planned : ℕ) → Next
next_left started ended planned =
    if nat_lt started planned then StartFrom started
    else if nat_le planned ended then Leave
    else Take

-- The next action of a polling round after an event. If the event ended no poll of the round, read
-- from the link. Otherwise start the remaining reads, disconnect, or read from the link, as
-- `next_left` defines.
abbrev pub next_after : (endings started ended planned : ℕ) → Next
next_after endings started ended planned =
    if endings == 0 then Take else next_left started ended planned

-- The next action of a polling round after an event: start the Modbus reads after `Connected`, no
-- action after `Gone`, and after any other event the action `next`.
abbrev pub next_by : Event → Next → Next
next_by (event.Connected given) next = StartFrom 0
next_by (event.Bytes given piece) next = next
next_by event.Tick next = next
next_by (event.Gone given closing) next = Over
next_by (event.Command c) next = next
next_by (event.Asked asked) next = next

-- The next action of a polling round after the events that it fed to the event engine.
abbrev pub next_in : (past : History) → List Answered → Next
next_in past [] = Connect
next_in past (one ∷ earlier) = next_by one.event (next_after (endings_of past earlier one)
    (reads_started (one ∷ earlier)) (polls_ended past (one ∷ earlier))
    (reads_planned (one ∷ earlier)))

-- True if the event can come from a read of the link (the connection to the device). Such an event
-- is bytes received from the device, a timer event if the read timed out, or the end of the
-- connection.
abbrev pub IsTaken : (device : Option (List ℕ)) → Event → Type 0
IsTaken device (event.Connected given) = ⊥
IsTaken device (event.Bytes given piece) = given ≡ device
IsTaken device event.Tick = Unit {0}
IsTaken device (event.Gone given cause) = (given ≡ device) × (cause ≡ closing.Gone)
IsTaken device (event.Command c) = ⊥
IsTaken device (event.Asked asked) = ⊥

-- The command that starts the Modbus reads of a device's plan (the reads that cover its point
-- list), beginning at index `read`.
abbrev pub start_from : (device : Option (List ℕ)) → ℕ → Event
start_from device read =
    event.Command (command.StartRound (record { device = device; from = read }))

-- True if feeding the event `e` to the event engine performs the next action of the polling round.
abbrev pub Does : (device : Option (List ℕ)) → Next → Event → Type 0
Does device Connect e = e ≡ event.Connected device
Does device (StartFrom read) e = e ≡ start_from device read
Does device Leave e = e ≡ event.Gone device closing.Gone
Does device Take e = IsTaken device e
Does device Over e = ⊥

-- True if each event in a list performed the action that was the polling round's next one after the
-- earlier events of the list. The event engine must have accepted each event.
abbrev pub AreNext : (device : Option (List ℕ)) → (past : History) → List Answered → Type 0
AreNext device past [] = Unit {0}
AreNext device past (one ∷ earlier) =
    AreNext device past earlier × Does device (next_in past earlier) one.event × IsOk one.result
