-- The order of the events that one call of `turn` (which processes one device event) feeds to the
-- office (the event engine).
--
-- The event of the device (received bytes or a timer event) is fed first, if it is to be fed. Then
-- the events that polling rounds generate are fed: always the event of the first round in the list
-- that generates one. Lists of fed events have the latest event first.
use Rattle.std.specs.Prelude.{◌≡◌, ℕ, zero, suc, List, [], ◌∷◌, map, position, slice_get, Option, Some, None, Result}
use Rattle.office_events.specs.declared.answers.Answer.{Answer}
use Rattle.office_events.specs.declared.answers.Note.{Note}
use Rattle.office_events.specs.declared.events.Event.{Event}
use Rattle.office_events.specs.declared.events.Event.TheVariants as event
use Rattle.office_events.specs.declared.refusals.Refusal.{Refusal}
use Rattle.office_books.specs.History.{History}
use Rattle.office_books.specs.Notes.{notes_after, outgoing_after}
use Rattle.office_core.specs.EventRun.{Answered}
use Rattle.office_program.specs.FedEvents.{history_with}
use Rattle.office_program.specs.DeviceRounds.Rounds.{answered, heard, has_request, joined, leaving, wish_of}
use Rattle.office_program.specs.declared.device_rounds.round.Round.{Round}
use Rattle.office_program.specs.declared.device_rounds.stage.Stage.{Stage}
use Rattle.office_program.specs.declared.device_rounds.stage.Stage.TheVariants.{Off, Joining, Starting, Waiting, Leaving}
use Rattle.office_events.specs.Showing.{Shown, shown}
use Rattle.office_program.specs.declared.driver.device_events.DeviceEvent.{DeviceEvent}
use Rattle.office_program.specs.declared.driver.device_events.DeviceEvent.TheVariants.{Connected, Received, Closed, Tick}

-- An event to feed to the event engine, with the slot (index) of the polling round that gets the
-- engine's answer: the round that generated the event, or whose device sent the bytes. The slot is
-- `None` for a timer event.
pub record Wished : Type 0 where
  pub place : Option ℕ
  pub event : Event

-- The event `e` to feed to the event engine, with the index `place` of the polling round that gets
-- the answer, or without an index.
abbrev pub wished : Option ℕ → Event → Wished
wished place e = record { place = place; event = e }

-- The event that the polling round with index `place` generates, or `None` if the round generates
-- no event.
abbrev pub wished_at : ℕ → Option Event → Option Wished
wished_at place None = None
wished_at place (Some e) = Some (wished (Some place) e)

-- The event that the polling round with index `place` generates. `None` if no round has this index
-- or the round generates no event.
abbrev pub wish_in : ℕ → Option Round → Option Wished
wish_in place None = None
wish_in place (Some round) = wished_at place (wish_of round)

-- The event that the polling round with the given index generates, or `None` if no index is given.
abbrev pub wish_from : Option ℕ → List Round → Option Wished
wish_from None rounds = None
wish_from (Some place) rounds = wish_in place (slice_get rounds place)

-- The event of the first polling round that generates an event, or `None` if no round generates an
-- event.
abbrev pub first_request : List Round → Option Wished
first_request rounds = wish_from (position has_request rounds) rounds

-- The event to feed to the event engine, together with the index of the polling round that
-- generates the event.
abbrev pub as_wished : Option (ℕ × Event) → Option Wished
as_wished None = None
as_wished (Some one) = Some (wished (Some one.0) one.1)

-- The state of the polling rounds while `turn` processes one device event. `first` is the event, if
-- any, to feed to the event engine before the rounds' events.
pub record Table : Type 0 where
  pub first : Option Wished
  pub rounds : List Round

-- The polling rounds, together with the event, if any, to feed to the event engine before the
-- rounds' events.
abbrev pub table : Option Wished → List Round → Table
table first rounds = record { first = first; rounds = rounds }

-- The next event to feed to the event engine: the event in `first` if there is one, otherwise the
-- event of the first polling round that generates an event.
abbrev pub next_by : Option Wished → List Round → Option Wished
next_by None rounds = first_request rounds
next_by (Some one) rounds = Some one

-- The event that a call of `turn` (which processes one device event) next feeds to the event
-- engine. `None` if no event is left.
abbrev pub next_of : Table → Option Wished
next_of at = next_by at.first at.rounds

-- The polling rounds after `change` is applied to the round with index `place`. If no round has
-- this index, the rounds are unchanged.
abbrev pub at_place : ℕ → (Round → Round) → List Round → List Round
at_place place change [] = []
at_place zero change (round ∷ rounds) = change round ∷ rounds
at_place (suc place) change (round ∷ rounds) = round ∷ at_place place change rounds

-- The polling rounds after the event engine's answer to an event. Only the round with the event's
-- index, if any, gets the answer.
abbrev pub answered_for : Option ℕ → Result Answer Refusal → List Round → List Round
answered_for None answer rounds = rounds
answered_for (Some place) answer rounds = at_place place (answered answer) rounds

-- The polling rounds after an event. The round with the event's index gets the answer, and then all
-- rounds get the notifications.
abbrev pub reported : Option ℕ → Result Answer Refusal → List Note → List Round → List Round
reported place answer notes rounds = map (heard notes) (answered_for place answer rounds)

-- The index of the polling round that gets the answer to the event. `None` if there is no event, or
-- for a timer event.
abbrev pub place_of : Option Wished → Option ℕ
place_of None = None
place_of (Some one) = one.place

-- The state of a call of `turn` (which processes one device event) after it fed the next event.
-- `answer` and `notes` are the event engine's answer and notifications for this event.
abbrev pub table_after : Table → Result Answer Refusal → List Note → Table
table_after at answer notes = table None (reported (place_of (next_of at)) answer notes at.rounds)

-- The event engine's notifications of an event that was fed after the events `earlier`.
abbrev pub notes_of : (past : History) → List Answered → Answered → List Note
notes_of past earlier one = notes_after (history_with past earlier) one.at one.event one.result

-- The state of a call of `turn` (which processes one device event) after the call fed a list of
-- events to the event engine.
abbrev pub table_with : (past : History) → Table → List Answered → Table
table_with past from [] = from
table_with past from (one ∷ earlier) =
    table_after (table_with past from earlier) one.result (notes_of past earlier one)

-- True if `e` is the event to feed next to the event engine. False if there is no event to feed.
abbrev pub IsNext : Option Wished → Event → Type 0
IsNext None e = ⊥
IsNext (Some one) e = e ≡ one.event

-- True if each event in the list was the next event to feed to the event engine after the earlier
-- events of the list.
abbrev pub AreNext : (past : History) → Table → List Answered → Type 0
AreNext past from [] = Unit {0}
AreNext past from (one ∷ earlier) =
    AreNext past from earlier × IsNext (next_of (table_with past from earlier)) one.event

-- The record of one event that the program passes to the observer of its events: the index of its
-- polling round, its timestamp, the event, the answer, the notifications, and the bytes to send.
abbrev pub shown_of : (past : History) → Table → List Answered → Answered → Shown
shown_of past from earlier one =
    shown (place_of (next_of (table_with past from earlier))) one.at one.event one.result
    (notes_of past earlier one)
    (outgoing_after (history_with past earlier) one.at one.event one.result)

-- True if the observer was shown each event in the list in order, and nothing else.
abbrev pub AreShown : {V : Type 0} → (V → Shown → V → Type 0) → (from to : V) → (past : History)
    → Table → List Answered → Type 0
AreShown sees from to past begun [] = to ≡ from
AreShown {V} sees from to past begun (one ∷ earlier) =
    (between : V) × AreShown sees from between past begun earlier
    × sees between (shown_of past begun earlier one) to

-- The event for bytes from the device with index `place`. `None` if the stage of the device's
-- polling round is not `Waiting`, since no response is expected then.
abbrev pub came_at : Stage → ℕ → Option (List ℕ) → List ℕ → Option Wished
came_at Off place device piece = None
came_at Joining place device piece = None
came_at Starting place device piece = None
came_at Waiting place device piece = Some (wished (Some place) (event.Bytes device piece))
came_at (Leaving closing) place device piece = None

-- The event for bytes from the device with index `place`. `None` if no device has this index, or if
-- its polling round is not waiting for responses.
abbrev pub came : ℕ → Option Round → List ℕ → Option Wished
came place None piece = None
came place (Some round) piece = came_at round.stage place round.device piece

-- The event for bytes from the device with index `place`. `None` if no polling round with this
-- index is waiting for responses.
abbrev pub came_from : ℕ → Option (Option (List ℕ)) → List ℕ → Option Wished
came_from place None piece = None
came_from place (Some device) piece = Some (wished (Some place) (event.Bytes device piece))

-- The state at the start of a call of `turn` (which processes one device event) for bytes from the
-- device with index `place`. The event for the bytes is fed to the event engine first.
abbrev pub brought : ℕ → List ℕ → List Round → Table
brought place piece rounds = table (came place (slice_get rounds place) piece) rounds

-- The state at the start of a call of `turn` (which processes one device event) for one device
-- event.
--
-- Awaited bytes and a timer event are fed to the event engine first. A connection or its end only
-- changes the event that the device's polling round generates.
abbrev pub opened : DeviceEvent → List Round → Table
opened (Connected place) rounds = table None (at_place place joined rounds)
opened (Received place piece) rounds = brought place piece rounds
opened (Closed place closing) rounds = table None (at_place place (leaving closing) rounds)
opened Tick rounds = table (Some (wished None event.Tick)) rounds
