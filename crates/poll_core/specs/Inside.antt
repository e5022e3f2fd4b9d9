-- The model of a polling session's private state, computed from its fields. A session tracks the
-- pending polls of one device over one connection.
use Rattle.std.specs.Prelude.{ℕ, ◌≤◌, Bool, if◌then◌else◌, List, length, take, Some, None}
use Rattle.std.specs.declared.option.Option.{Option}
use Rattle.std.specs.Option.{option_map}
use Rattle.poll_core.specs.Settling.{Event, Settlement}
use Rattle.poll_core.specs.Standing.{State}
use Rattle.poll_core.specs.Steps.{AreApart, reported_by}
use Rattle.poll_core.specs.Reporting.{ReportsPiece, ReportsEvent}
use Rattle.poll_core.specs.declared.poll.SettledPoll.{SettledPoll}
use Rattle.poll_core.specs.declared.limits.TheConstants.{MAX_TIMEOUT, MAX_WINDOW}
use Rattle.poll_core.specs.declared.outcome.Call.{Call}
use Rattle.poll_core.specs.declared.inner.Inner.{Inner}
use Rattle.poll_core.specs.declared.inner.Step.{Step}
use Rattle.poll_core.specs.declared.outcome.LostCause.{LostCause}
use Rattle.poll_core.specs.declared.outcome.LostCause.TheVariants.{Garbled}

-- The model of a polling session with the given private fields.
abbrev pub state_of : Inner → State
state_of s = record {
  timeout = s.timeout;
  window = s.window;
  last = s.last;
  next = s.next;
  reader = s.reader;
  polls = s.polls.items;
  ending = s.ending;
  settling = s.settling;
}

-- The invariant of a polling session's fields. The window (the greatest number of pending polls)
-- and the timeout are within their limits. At most `window` polls are pending, and their
-- transaction identifiers differ.
pub record IsSound (s : Inner) : Type 0 where
  pub window : s.window ≤ MAX_WINDOW
  pub timeout : s.timeout ≤ MAX_TIMEOUT
  pub room : length s.polls.items ≤ s.window
  pub apart : AreApart s.polls.items

-- The poll number and the outcome of a poll that was removed from the pending polls, or `None` if
-- no poll was removed. The byte list is the frame in the polling session's reader.
abbrev pub reported_of : Option SettledPoll → Option (List ℕ) → Option (ℕ × Settlement)
reported_of taken frame = option_map (λ t. reported_by t frame) taken

-- The effect of one step of a polling session: the bytes that the step consumes and the outcome
-- that it reports. The outcome is computed from the frame in the session's reader.
abbrev pub ReportsStep : State → State → (moment : ℕ) → (piece : List ℕ) → Step → Type 0
ReportsStep old new moment piece step =
    ReportsPiece old new moment (take step.taken piece) (reported_of step.settled new.reader.frame)

-- The effect of an event on the polling session, and the outcome that the session reports. The
-- outcome is computed from the frame in the session's reader.
abbrev pub ReportsTaken : State → State → Event → Option SettledPoll → Type 0
ReportsTaken old new event taken = ReportsEvent old new event (reported_of taken new.reader.frame)

-- The kind of call that must be repeated for further outcomes: the given kind if the call just
-- reported a completed poll, otherwise `None`. Each call reports at most one outcome.
abbrev pub call_if : Option SettledPoll → Call → Option Call
call_if None call = None
call_if (Some taken) call = Some call

-- The cause by which a received chunk ends the polling session: `Garbled` if it has an invalid
-- length field, otherwise `None`.
abbrev pub garbled_end : Bool → Option LostCause
garbled_end garbled = if garbled then Some Garbled else None
