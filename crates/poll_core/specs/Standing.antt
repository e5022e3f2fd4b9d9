-- The state of a polling session after a list of events.
use Rattle.std.specs.Prelude.{◌≡◌, ℕ, ◌⊎◌, Bool, true, ◌||◌, List, [], ◌∷◌, ◌++◌, is_some, Some, None, OnOk}
use Rattle.std.specs.declared.option.Option.{Option}
use Rattle.std.specs.declared.result.Result.{Result}
use Rattle.std.specs.List.{filter, list_any}
use Rattle.mb_wire.specs.Frames.{is_garbled, rest}
use Rattle.mb_wire.specs.Reader.{Buffered}
use Rattle.poll_core.specs.Settling.{Event, Start, Piece, Tick, Close, moment_of, bytes_of, closing_of, stream, next_id, Settlement, alive, silences, losses, pending, outcomes_at}
use Rattle.poll_core.specs.Polls.{Poll, due}
use Rattle.poll_core.specs.declared.outcome.LostCause.{LostCause}
use Rattle.poll_core.specs.declared.outcome.Call.{Call}
use Rattle.poll_core.specs.declared.outcome.Call.TheVariants as call

-- The state of a polling session: its timeout and window, latest time, next transaction identifier
-- and incomplete frame. Also its pending polls in the order of their starts, the cause for which it
-- ended, and the call in progress, if any.
pub record State : Type 0 where
  pub timeout : ℕ
  pub window : ℕ
  pub last : ℕ
  pub next : ℕ
  pub reader : Buffered
  pub polls : List Poll
  pub ending : Option LostCause
  pub settling : Option Call

-- The time of the latest event in a list of a polling session's events, or 0 if the list is empty.
abbrev pub last_moment : List Event → ℕ
last_moment [] = 0
last_moment (event ∷ []) = moment_of event
last_moment (event ∷ next ∷ events) = last_moment (next ∷ events)

-- True if one of a polling session's events closed the session.
unfoldable pub is_closed : List Event → Bool
is_closed events = list_any (λ event. is_some (closing_of event)) events

-- True if the received bytes have an invalid length field, or one of the events closed the polling
-- session.
unfoldable pub is_over : List Event → Bool
is_over events = is_garbled (stream events) || is_closed events

-- True if the polling session has processed exactly these events and has reported all of their
-- outcomes.
pub record Stands (session : State) (events : List Event) : Type 0 where
  pub reported : session.settling ≡ None
  pub last : session.last ≡ last_moment events
  pub next : session.next ≡ next_id events
  pub polls : session.polls ≡ pending session.timeout events
  pub over : is_some session.ending ≡ is_over events
  -- No poll is pending once the polling session is over.
  pub none_after : is_over events ≡ true → pending session.timeout events ≡ []
  -- Until the polling session ends, its frame reader has buffered the incomplete frame at the end
  -- of the received bytes.
  pub buffered : session.ending ≡ None → session.reader.rest ≡ rest (stream events)

-- The outcomes that a polling session must still report for a list of polls: timeouts, and losses
-- of the other polls if the session ended.
abbrev pub owed_by : ℕ → Option LostCause → List Poll → List (ℕ × Settlement)
owed_by moment ending polls =
    silences (filter (due moment) polls) ++ losses ending (alive moment polls)

-- The outcomes of polls that a polling session must still report: timeouts, and losses if the
-- session ended.
abbrev pub owed : State → List (ℕ × Settlement)
owed session = owed_by session.last session.ending session.polls

-- The polls of a list that remain pending after an event: none if the polling session ended,
-- otherwise all of them.
abbrev pub if_going : Option LostCause → List Poll → List Poll
if_going None polls = polls
if_going (Some cause) polls = []

-- True if the polling session is processing the event after the events `events`. The session has
-- reported the given outcomes of the event, and must still report the others.
pub record Within (session : State) (events : List Event) (event : Event)
    (reported : List (ℕ × Settlement)) : Type 0 where
  pub last : session.last ≡ moment_of event
  pub next : session.next ≡ next_id (events ++ event ∷ [])
  pub whole : reported ++ owed session ≡ outcomes_at session.timeout events event
  pub polls : if_going session.ending (alive session.last session.polls)
      ≡ pending session.timeout (events ++ event ∷ [])
  pub over : is_some session.ending ≡ is_over (events ++ event ∷ [])
  pub none_after : is_closed events ≡ true → pending session.timeout events ≡ []
  pub buffered : session.ending ≡ None → session.reader.rest ≡ rest (stream (events ++ event ∷ []))

-- The kind of call that passes the event to the polling session (received bytes, a timer event or a
-- close), or `None` for the start of a poll.
abbrev pub call_of : Event → Option Call
call_of (Start moment poll unit span) = None
call_of (Piece moment bytes) = Some call.Piece
call_of (Tick moment) = Some call.Tick
call_of (Close moment closing) = Some (call.Close closing)

-- The state of a polling session before a call for this event. Either the event is new, or the
-- session continues the event after it has reported the given outcomes.
abbrev pub Before : State → List Event → Event → List (ℕ × Settlement) → Type 0
Before session events event reported =
    (Stands session events × (bytes_of event ≡ []) × (reported ≡ []))
    ⊎ ((session.settling ≡ call_of event) × Within session events event reported)

-- The state of a polling session after a call for this event. Either the call reported one more
-- outcome, or all outcomes had been reported.
abbrev pub After : State → List Event → Event → List (ℕ × Settlement) → Option (ℕ × Settlement)
    → Type 0
After session events event reported None =
    Stands session (events ++ event ∷ []) × (reported ≡ outcomes_at session.timeout events event)
After session events event reported (Some settled) =
    (session.settling ≡ call_of event) × Within session events event (reported ++ settled ∷ [])

-- States that, if the call that starts a poll succeeds, the polling session has then processed its
-- earlier events and the start of the poll.
abbrev pub StartsOn : {X E : Type 0} → Result X E → (old new : State) → Event → Type 0
StartsOn result old new start =
    (events : List Event) → Stands old events → OnOk result (After new events start [] None)

-- States that, if the polling session's old state is possible before a call for the event
-- (`Before`), its new state is possible after the call (`After`).
abbrev pub StepsOn : (old new : State) → Event → Option (ℕ × Settlement) → Type 0
StepsOn old new event settled =
    (events : List Event) (reported : List (ℕ × Settlement)) →
    Before old events event reported → After new events event reported settled

-- The effect on a polling session of a call that consumes bytes of a received chunk. If the
-- session's old state is possible before the call (`Before`), then the new state is possible after
-- the call (`After`).
abbrev pub TakesOn : (old new : State) → (moment : ℕ) → (taken : List ℕ)
    → Option (ℕ × Settlement) → Type 0
TakesOn old new moment taken settled =
    (events : List Event) (bytes : List ℕ) (reported : List (ℕ × Settlement)) →
    Before old events (Piece moment bytes) reported →
    After new events (Piece moment (bytes ++ taken)) reported settled
