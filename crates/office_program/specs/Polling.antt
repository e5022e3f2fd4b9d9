-- The state of a polling round after the events that it fed to the event engine: its pending polls,
-- and its next action. A round makes one poll for each Modbus read that covers a device's point
-- list.
use Rattle.std.specs.Prelude.{◌≡◌, ℕ, zero, suc, ◌+◌, ◌≤◌, ◌==◌, Bool, true, false, List, [], ◌∷◌, ◌++◌, map, length, Option, Some, None, Ok}
use Rattle.std.specs.List.{filter}
use Rattle.poll_core.specs.declared.outcome.Closing.TheVariants as closing
use Rattle.office_events.specs.declared.answers.Answer.{Answer}
use Rattle.office_events.specs.declared.answers.Note.{Note}
use Rattle.office_events.specs.declared.events.Event.{Event}
use Rattle.office_events.specs.declared.events.Event.TheVariants as event
use Rattle.office_events.specs.declared.facts.Fact.{Fact}
use Rattle.office_books.specs.Facts.{ends_of}
use Rattle.office_books.specs.History.{History, Fed, facts_of, next_poll, slots_of}
use Rattle.office_books.specs.Lawfulness.{IsPast}
use Rattle.office_books.specs.Notes.{notes_after}
use Rattle.office_books.specs.PollEndings.{polls_on_present}
use Rattle.office_books.specs.Sessions.{Slot, slot_of}
use Rattle.office_books.specs.declared.failures.Failures.{Failures}
use Rattle.office_core.specs.EventRun.{Answered}
use Rattle.office_core.specs.Taking.{IsAnswer}
use Rattle.office_program.specs.Course.{Connect, Does, Leave, Next, Over, StartFrom, Take, first_poll, next_in, polls_ended, reads_planned, reads_started}
use Rattle.office_program.specs.FedEvents.{history_with}
use Rattle.office_program.specs.DeviceRounds.Rounds.{answered, heard, leaving}
use Rattle.office_program.specs.declared.device_rounds.round.Round.{Round}
use Rattle.office_program.specs.declared.device_rounds.stage.Stage.{Stage}
use Rattle.office_program.specs.declared.device_rounds.stage.Stage.TheVariants.{Off, Joining, Starting, Waiting, Leaving}

-- The next action of a polling round at this stage, if the round has started `started` of the
-- Modbus reads that cover the device's point list.
abbrev pub next_at : Stage → (started : ℕ) → Next
next_at Off started = Over
next_at Joining started = Connect
next_at Starting started = StartFrom started
next_at Waiting started = Take
next_at (Leaving closing) started = Leave

-- The next action of a polling round.
abbrev pub next_of : Round → Next
next_of round = next_at round.stage round.started

-- A list of `count` consecutive numbers, beginning with `first`.
abbrev pub from_on : (first count : ℕ) → List ℕ
from_on first zero = []
from_on first (suc n) = from_on first n ++ (first + n) ∷ []

-- True if the store has no recorded outcome of the poll with the given number.
abbrev pub is_open : List Fact → ℕ → Bool
is_open facts number = length (ends_of facts number) == 0

-- True if the polls that were started since the device last connected are exactly those with the
-- numbers `numbers`.
pub record IsOnSession (slots : List Slot) (device : Option (List ℕ)) (numbers : List ℕ) : Type 0
  where
    pub slot : Slot
    pub found : slot_of slots device ≡ Some slot
    pub are : map (λ poll. poll.0) (polls_on_present slot.device slot.present) ≡ numbers

-- True if `number` is the number of the polling round's first poll. If the round has started no
-- poll, `number` may be any number.
abbrev pub IsFirst : (first : Option ℕ) → (number started : ℕ) → Type 0
IsFirst None number started = started ≡ 0
IsFirst (Some first) number started = first ≡ number

-- The state of a polling round (one poll for each read of the device's plan) after at least one of
-- its events was fed to the event engine: its poll numbers and pending polls.
--
-- The polls of the polling round have consecutive numbers, and no other polls were started since
-- the device connected. The pending polls are the polls without a recorded outcome.
pub record IsUnderWay (device : Option (List ℕ)) (past : History) (fed : List Answered)
    (round : Round) : Type 0 where
  pub number : ℕ
  pub first : IsFirst (first_poll fed) number (reads_started fed)
  pub last : number + reads_started fed ≡ next_poll (facts_of (history_with past fed))
  pub started : round.started ≡ reads_started fed
  pub planned : round.planned ≡ reads_planned fed
  pub within : reads_started fed ≤ reads_planned fed
  pub polls : round.polls.items
      ≡ filter (is_open (facts_of (history_with past fed)))
      (from_on number (reads_started fed))
  pub ended : polls_ended past fed + length round.polls.items ≡ reads_started fed
  pub session : IsOnSession (slots_of (history_with past fed)) device
      (from_on number (reads_started fed))

-- The state of a polling round before its first event: no event was fed to the event engine, and no
-- poll was started.
pub record IsUnfed (fed : List Answered) (round : Round) : Type 0 where
  pub none : fed ≡ []
  pub polls : round.polls.items ≡ []
  pub started : round.started ≡ 0
  pub planned : round.planned ≡ 0

-- The state of a polling round at each stage, after the events that it fed to the office (the event
-- engine). This state is the invariant of the type `Round`.
abbrev pub StandsAt : Stage → (device : Option (List ℕ)) → History → List Answered → Round → Type 0
StandsAt Off device past fed round = Unit {0}
StandsAt Joining device past fed round = IsUnfed fed round
StandsAt Starting device past fed round = IsUnderWay device past fed round
StandsAt Waiting device past fed round = IsUnderWay device past fed round
StandsAt (Leaving cause) device past fed round = cause ≡ closing.Gone

-- True if the polling round is in the state that follows from the events that it fed to the event
-- engine. Also requires that the round's next action is what the definition `next_in` gives for
-- these events.
pub record Holds (device : Option (List ℕ)) (past : History) (fed : List Answered)
    (round : Round) : Type 0 where
  pub device_is : round.device ≡ device
  pub next : next_in past fed ≡ next_of round
  pub stands : StandsAt round.stage device past fed round

-- The polling round after an event that can disconnect its device. Any other event leaves the
-- polling round unchanged.
abbrev pub ended_by : Event → Round → Round
ended_by (event.Connected given) round = round
ended_by (event.Bytes given piece) round = round
ended_by event.Tick round = round
ended_by (event.Gone given cause) round = leaving cause round
ended_by (event.Command c) round = round
ended_by (event.Asked asked) round = round

-- The polling round after an event that the event engine accepted with the given answer and
-- notifications.
abbrev pub round_after : Event → Answer → List Note → Round → Round
round_after e given notes round = heard notes (answered (Ok given) (ended_by e round))

-- The next action of a polling round after it has performed the given action, if the action ended
-- none of the round's polls.
abbrev pub settled : Next → Next
settled Connect = StartFrom 0
settled (StartFrom read) = Take
settled Leave = Over
settled Take = Take
settled Over = Over

-- True if a polling round at this stage is over.
abbrev pub is_over : Stage → Bool
is_over Off = true
is_over Joining = false
is_over Starting = false
is_over Waiting = false
is_over (Leaving cause) = false

-- The theorem that a polling round generates exactly the events that the definition `next_in`
-- gives. This definition computes the next action from the events that the round fed before.
--
-- Suppose that the events that a polling round fed to the event engine define its state, and the
-- engine accepts the round's next event. Then these events with the next event define the round's
-- new state.
abbrev pub RoundsHold : Type 0
RoundsHold = (device : Option (List ℕ)) (past : History) (fed : List Answered) (round : Round)
    (at : ℕ) (e : Event) (before after : Failures) (given : Answer)
    → Holds device past fed round → Does device (next_in past fed) e
    → IsAnswer (history_with past fed) at e before after (Ok given)
    → IsPast (Fed at e ∷ history_with past fed)
    → Holds device past (record { at = at; event = e; result = Ok given } ∷ fed)
    (round_after e given (notes_after (history_with past fed) at e (Ok given)) round)
