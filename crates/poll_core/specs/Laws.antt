-- The statements of the theorems about a polling session's events: starts of polls, received bytes,
-- timer events, and the end of the connection.
use Rattle.std.specs.Prelude.{◌≡◌, ℕ, ◌≤◌, List, [], ◌∷◌, ◌++◌, filter, is_none, map, true, Some, None}
use Rattle.std.specs.declared.option.Option.{Option}
use Rattle.std.specs.Option.{option_map, option_or, option_to_list}
use Rattle.std.specs.List.{filter_map}
use Rattle.std.specs.List.Sorted.{IsPermutation}
use Rattle.poll_core.specs.Polls.{Poll}
use Rattle.poll_core.specs.Settling.{Event, Start, Piece, Tick, Close, Settlement, settled_by, outcome, started, outcomes_at, pending, results}
use Rattle.poll_core.specs.Standing.{is_over, last_moment}
use Rattle.poll_core.specs.Starting.{start_fault}

-- The poll number and the outcome of a started poll, or `None` if the poll has no outcome.
abbrev pub with_outcome : Poll × Option Settlement → Option (ℕ × Settlement)
with_outcome result = option_map (λ outcome. (result.0.number, outcome)) result.1

-- The poll number and the outcome of each started poll that has an outcome, in the order of the
-- starts.
abbrev pub outcomes_by_poll : ℕ → List Event → List (ℕ × Settlement)
outcomes_by_poll timeout events = filter_map with_outcome (results timeout [] events)

-- The outcomes of polls that the second list of events causes after the events of the first list,
-- in the order of the events.
abbrev pub outcomes_after : ℕ → List Event → List Event → List (ℕ × Settlement)
outcomes_after timeout before [] = []
outcomes_after timeout before (event ∷ later) =
    outcomes_at timeout before event ++ outcomes_after timeout (before ++ event ∷ []) later

-- The outcomes of polls that a list of events causes, in the order of the events.
abbrev pub outcomes_by_event : ℕ → List Event → List (ℕ × Settlement)
outcomes_by_event timeout events = outcomes_after timeout [] events

-- The number of the poll that an event starts, or `None` if it starts none.
abbrev pub number_started : Event → Option ℕ
number_started (Start moment poll unit span) = Some poll
number_started (Piece moment bytes) = None
number_started (Tick moment) = None
number_started (Close moment closing) = None

-- The numbers of all polls that a list of events starts.
abbrev pub numbers_started : List Event → List ℕ
numbers_started events = filter_map number_started events

-- The numbers of all polls that a list of events completes, in the order of their outcomes.
abbrev pub numbers_settled : ℕ → List Event → List ℕ
numbers_settled timeout events = map (λ reported. reported.0) (outcomes_by_event timeout events)

-- The numbers of all polls that are pending after a list of events.
abbrev pub numbers_pending : ℕ → List Event → List ℕ
numbers_pending timeout events = map (λ poll. poll.number) (pending timeout events)

-- The poll numbers and outcomes of those polls of a list that an event completes.
abbrev pub settled_among : List Event → Event → List Poll → List (ℕ × Settlement)
settled_among before event polls =
    filter_map (λ poll.
    option_map (λ outcome. (poll.number, outcome)) (settled_by before event poll))
    polls

-- A poll and its outcome after one more event. If the poll had an outcome before this event, the
-- outcome is unchanged.
abbrev pub with_event : List Event → Event → Poll × Option Settlement → Poll × Option Settlement
with_event before event result = (result.0, option_or result.1 (settled_by before event result.0))

-- A list with the poll that an event started, without an outcome, or an empty list if the event
-- started none.
abbrev pub new_result : Option Poll → List (Poll × Option Settlement)
new_result None = []
new_result (Some poll) = (poll, None) ∷ []

-- True if one of the events started the poll and no later event completed it.
pub record Waits (timeout : ℕ) (events : List Event) (poll : Poll) : Type 0 where
  pub before : List Event
  pub start : Event
  pub later : List Event
  pub among : events ≡ before ++ start ∷ later
  pub starts : started timeout before start ≡ Some poll
  pub unsettled : outcome (before ++ start ∷ []) later poll ≡ None

-- True if a polling session that processed the earlier events accepts this event. The event is not
-- earlier than the latest of them, and is not a start of a poll that the session refuses.
abbrev pub Accepts : ℕ → ℕ → List Event → Event → Type 0
Accepts timeout window before (Start moment poll unit span) =
    start_fault timeout window before moment ≡ None
Accepts timeout window before (Piece moment bytes) = last_moment before ≤ moment
Accepts timeout window before (Tick moment) = last_moment before ≤ moment
Accepts timeout window before (Close moment closing) = last_moment before ≤ moment

-- True if a polling session that processed the earlier events accepts each further event in order.
abbrev pub AcceptsAll : ℕ → ℕ → List Event → List Event → Type 0
AcceptsAll timeout window before [] = Unit {0}
AcceptsAll timeout window before (event ∷ later) =
    Accepts timeout window before event × AcceptsAll timeout window (before ++ event ∷ []) later

-- True if each started poll occurs exactly once among the polls that the events complete and the
-- pending polls together.
abbrev pub SettledOrPending : ℕ → List Event → Type 0
SettledOrPending timeout events =
    IsPermutation (numbers_started events)
    (numbers_settled timeout events ++ numbers_pending timeout events)

-- True if the outcomes of polls, listed up to and including one more event, are those before this
-- event, followed by the outcomes of this event.
abbrev pub AddsOutcomes : ℕ → List Event → Event → Type 0
AddsOutcomes timeout events event =
    outcomes_by_event timeout (events ++ event ∷ [])
    ≡ outcomes_by_event timeout events ++ outcomes_at timeout events event

-- True if an event completes each pending poll independently of the other polls, and completes no
-- poll that is not pending.
abbrev pub SettlesPending : ℕ → List Event → Event → Type 0
SettlesPending timeout events event =
    IsPermutation (settled_among events event (pending timeout events))
    (outcomes_at timeout events event)

-- True if the polls that are pending after one more event are determined by this event. They are
-- the polls that were pending before it and that it does not complete, followed by the poll that it
-- starts.
abbrev pub LeavesPending : ℕ → List Event → Event → Type 0
LeavesPending timeout events event =
    pending timeout (events ++ event ∷ [])
    ≡ filter (λ poll. is_none (settled_by events event poll)) (pending timeout events)
    ++ option_to_list (started timeout events event)

-- True if one more event leaves the outcomes from before this event unchanged and adds the outcomes
-- that it causes. A poll that the event starts has no outcome yet.
abbrev pub AddsResults : ℕ → List Event → Event → Type 0
AddsResults timeout events event =
    results timeout [] (events ++ event ∷ [])
    ≡ map (with_event events event) (results timeout [] events)
    ++ new_result (started timeout events event)

-- True if a polling session accepts all of these events and is over after them, because of an
-- invalid length field or because it was closed.
abbrev pub IsOverAfter : (timeout window : ℕ) → List Event → Type 0
IsOverAfter timeout window events =
    AcceptsAll timeout window [] events × (is_over events ≡ true)

-- States that, if a chunk with further bytes appended completes no poll, then the chunk alone
-- completes no poll.
abbrev pub SettlesNoLess : ℕ → List Event → (moment : ℕ) → (piece more : List ℕ) → Type 0
SettlesNoLess timeout events moment piece more =
    outcomes_at timeout events (Piece moment (piece ++ more)) ≡ []
    → outcomes_at timeout events (Piece moment piece) ≡ []
