-- Defines the effects of a polling session's public calls on the session (the connection to one
-- device), and the poll outcomes that the calls report.
use Rattle.std.specs.Prelude.{◌≡◌, ℕ, ◌<◌, ◌⊎◌, Bool, true, false, is_some, if◌then◌else◌, List, [], ◌++◌, length, take, Some, None, Result, OnErr, IfOk}
use Rattle.std.specs.declared.option.Option.{Option}
use Rattle.std.specs.Option.{option_map}
use Rattle.mb_wire.specs.Replies.{answer_of}
use Rattle.mb_wire.specs.declared.replies.Reply.{Reply}
use Rattle.poll_core.specs.Settling as reported
use Rattle.poll_core.specs.Settling.{Event, Piece, Settlement, moment_of, words_in}
use Rattle.poll_core.specs.Standing.{State, Before, After, call_of}
use Rattle.poll_core.specs.declared.outcome.Call.{Call}
use Rattle.poll_core.specs.declared.outcome.Outcome as plain
use Rattle.poll_core.specs.declared.outcome.Outcome.TheVariants.{Answered, Exception, Silent, Malformed, Lost}
use Rattle.poll_core.specs.declared.answers.ClockBack.{ClockBack}
use Rattle.poll_core.specs.declared.answers.Settled.{Settled}
use Rattle.poll_core.specs.declared.answers.Turn.{Turn}

-- The registers of a `Reply` that the polling session returns, or an empty list without a reply.
abbrev pub lent_words : Option Reply → List ℕ
lent_words None = []
lent_words (Some reply) = words_in (answer_of reply)

-- The outcome that the polling session returns, together with the registers of its reply.
abbrev pub outcome_of : plain.Outcome → Option Reply → Settlement
outcome_of Answered reply = reported.Answered (lent_words reply)
outcome_of (Exception code) reply = reported.Exception code
outcome_of Silent reply = reported.Silent
outcome_of (Malformed malformation) reply = reported.Malformed malformation
outcome_of (Lost cause) reply = reported.Lost cause

-- The poll number and the outcome of a completed poll.
abbrev pub settled_of : Settled → ℕ × Settlement
settled_of settled = (settled.poll, outcome_of settled.outcome settled.reply)

-- True if the device answered the poll with registers.
abbrev pub is_answered : plain.Outcome → Bool
is_answered Answered = true
is_answered _ = false

-- True if a reply is present exactly when the device answered the poll with registers.
abbrev pub LendsReply : Settled → Type 0
LendsReply settled = is_some settled.reply ≡ is_answered settled.outcome

-- True if no call of the polling session is in progress, or if the call in progress is of this kind
-- and at this time. A call that reported an outcome stays in progress, because the caller must
-- repeat it for further outcomes.
abbrev pub IsCall : Call → State → ℕ → Type 0
IsCall call session moment =
    (session.settling ≡ None) ⊎ ((session.settling ≡ Some call) × (session.last ≡ moment))

-- The effect on a polling session of a call that processes an event or more bytes of a chunk. The
-- arguments `before` and `after` are functions of the chunk's bytes that earlier calls consumed.
-- They return the event as processed before and after this call.
--
-- If a call of a polling session reports a poll's outcome, fewer polls are pending after the call
-- than before it.
pub record ReportsOfCall (old new : State) (before after : List ℕ → Event)
    (settled : Option (ℕ × Settlement)) : Type 0 where
  pub timeout : new.timeout ≡ old.timeout
  pub window : new.window ≡ old.window
  pub last : new.last ≡ moment_of (after [])
  pub settling : new.settling ≡ (if is_some settled then call_of (after []) else None)
  pub less : is_some settled ≡ true → length new.polls < length old.polls
  pub reported : (events : List Event) (bytes : List ℕ) (reported : List (ℕ × Settlement))
      → Before old events (before bytes) reported → After new events (after bytes) reported settled

-- The effect on a polling session of a call of `next` (which processes received bytes) at the given
-- time. `taken` has the bytes that the call consumes.
abbrev pub ReportsPiece : State → State → ℕ → List ℕ → Option (ℕ × Settlement) → Type 0
ReportsPiece old new moment taken =
    ReportsOfCall old new (λ bytes. Piece moment bytes) (λ bytes. Piece moment (bytes ++ taken))

-- The effect on a polling session of a call that processes this event.
abbrev pub ReportsEvent : State → State → Event → Option (ℕ × Settlement) → Type 0
ReportsEvent old new event = ReportsOfCall old new (λ _. event) (λ _. event)

-- True if the call of the polling session consumes bytes of the received chunk, or returns
-- `ClockBack` (the time is too early) and changes nothing.
abbrev pub TakesPiece : State → (moment : ℕ) → (piece : List ℕ) → Result Turn ClockBack → State
    → Type 0
TakesPiece old moment piece result new =
    OnErr result (new ≡ old)
    × IfOk result (λ turn. ReportsPiece old new moment (take turn.taken piece)
    (option_map settled_of turn.settled))

-- True if the call of the polling session processes the event, or returns `ClockBack` (the time is
-- too early) and changes nothing.
abbrev pub TakesEvent : State → Event → Result (Option Settled) ClockBack → State → Type 0
TakesEvent old event result new =
    OnErr result (new ≡ old)
    × IfOk result (λ settled. ReportsEvent old new event (option_map settled_of settled))
