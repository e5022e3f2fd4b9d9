-- Defines when a polling session refuses to start a poll.
use Rattle.std.specs.Prelude.{◌≡◌, ℕ, ◌+◌, ◌%◌, ◌≤◌, ◌<◌, Bool, true, false, not, ◌&&◌, is_some, nat_le, nat_lt, if◌then◌else◌, List, ◌++◌, length, take, Some, None, IsSome}
use Rattle.std.specs.declared.option.Option.{Option}
use Rattle.std.specs.List.{list_any, AllByRecursion}
use Rattle.mb_wire.specs.Reader.{spelling}
use Rattle.mb_wire.specs.Requests.{request_bytes}
use Rattle.mb_wire.specs.Spans.{Span, request_of}
use Rattle.poll_core.specs.Polls.{Poll, has_id}
use Rattle.poll_core.specs.Settling.{Event, is_start, pending, next_id}
use Rattle.poll_core.specs.Standing.{State, is_over, last_moment}
use Rattle.poll_core.specs.declared.answers.StartFault.{StartFault}
use Rattle.poll_core.specs.declared.answers.StartFault.TheVariants.{WindowFull, IdBusy, ClockBack, Closed}

-- The numeric code of each fault for which a polling session refuses to start a poll.
abbrev pub start_fault_number : StartFault → ℕ
start_fault_number WindowFull = 1
start_fault_number IdBusy = 2
start_fault_number ClockBack = 3
start_fault_number Closed = 4

-- The first fault for which a polling session refuses to start a poll, or `None`. The arguments are
-- the window, the pending polls, the next identifier, the latest time, whether the session is over,
-- and the time of the start.
abbrev pub least_fault : ℕ → List Poll → ℕ → ℕ → Bool → ℕ → Option StartFault
least_fault window polls next last over moment =
    if nat_le window (length polls) then Some WindowFull
    else if list_any (has_id next) polls then Some IdBusy
    else if nat_lt moment last then Some ClockBack
    else if over then Some Closed
    else None

-- The fault for which a polling session refuses to start a poll at the given time, or `None` if it
-- accepts the start. `events` are the session's events before this start.
abbrev pub start_fault : ℕ → ℕ → List Event → ℕ → Option StartFault
start_fault timeout window events moment =
    least_fault window (pending timeout events) (next_id events) (last_moment events)
    (is_over events)
    moment

-- True if the first `n` bytes of the buffer (the last argument) are the frame that requests this
-- span of registers from the unit.
abbrev pub AsksFor : (tid unit : ℕ) → Span → (buffer : List ℕ) → ℕ → Type 0
AsksFor tid unit span buffer n =
    take n buffer ≡ spelling tid unit (request_bytes (request_of span))

-- True if one more start of a poll would succeed after the given number of further starts. The
-- polling session must not be over, the window must have room, and no pending poll may use this
-- start's identifier.
abbrev pub start_fits : ℕ → List Poll → ℕ → Bool → ℕ → Bool
start_fits window polls next over before =
    not over && nat_lt (length polls + before) window
    && not (list_any (has_id ((next + before) % 65536)) polls)

-- True if exactly `count` consecutive starts of polls would now succeed.
pub record HasRoom (session : State) (count : ℕ) : Type 0 where
  pub fit : (k : ℕ) → k < count
      → start_fits session.window session.polls session.next (is_some session.ending) k ≡ true
  pub no_more : start_fits session.window session.polls session.next (is_some session.ending) count
      ≡ false

-- True if every event in a list of a polling session's events is the start of a poll.
abbrev pub AreStarts : List Event → Type 0
AreStarts events = AllByRecursion (λ event. is_start event ≡ true) events

-- True if `id` is the next transaction identifier, and the next `count` starts of polls succeed, at
-- times not before the latest event. The start after them is refused.
pub record IsReady (timeout window : ℕ) (events : List Event) (id count : ℕ) : Type 0 where
  pub next : id ≡ next_id events
  pub succeed : (starts : List Event) (moment : ℕ) → AreStarts starts → length starts < count
      → last_moment (events ++ starts) ≤ moment
      → start_fault timeout window (events ++ starts) moment ≡ None
  pub no_more : (starts : List Event) (moment : ℕ) → AreStarts starts → length starts ≡ count
      → IsSome (start_fault timeout window (events ++ starts) moment)
