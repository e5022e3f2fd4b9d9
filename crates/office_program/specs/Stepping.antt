-- The state of a polling round between two of its actions, such as a read of the link (the
-- connection to the device).
use Rattle.std.specs.Prelude.{◌≡◌, ◌⊎◌, ◌||◌, ℕ, Bool, true, false, List, [], ◌∷◌, Option, Result, Ok, Err}
use Rattle.std.specs.Io.KnownBytes.{Appends, Consumes}
use Rattle.office_events.specs.declared.events.Event.{Event}
use Rattle.office_events.specs.declared.events.Event.TheVariants as event
use Rattle.poll_core.specs.declared.outcome.Closing.TheVariants as closing
use Rattle.mb_wire.specs.Sockets.Clocks.{ReportsMoment}
use Rattle.office_events.specs.declared.answers.Answer.{Answer}
use Rattle.office_events.specs.declared.refusals.Refusal.{Refusal}
use Rattle.office_events.specs.declared.refusals.Refusal.TheVariants as refusal
use Rattle.office_core.specs.Failing.{stops}
use Rattle.office_books.specs.History.{History, latest_of}
use Rattle.office_books.specs.Notes.{outgoing_after}
use Rattle.office_books.specs.Refusals.{with_answer}
use Rattle.office_books.specs.Ledgers.{Ledger}
use Rattle.office_core.specs.EventRun.{Answered}
use Rattle.office_core.specs.Standing.{Stands, books_in, is_stopped, outgoing_in}
use Rattle.office_core.specs.Taking.{IsAnswer, IsReported}
use Rattle.office_core.specs.declared.office.Office.{Office}
use Rattle.sun_points.specs.Writing.{GotPart}
use Rattle.office_program.specs.Course.{AreNext, Next, next_in}
use Rattle.office_program.specs.DeviceRounds.Rounds.{joined, unconnected}
use Rattle.office_program.specs.Faults.{AreGiven, IsPrinted}
use Rattle.office_program.specs.Rounds.{BreaksOff, RoundState, IsFed, IsGoneAt, IsSettled, IsReportedOf, Wire}
use Rattle.office_program.specs.FedEvents.{AreTimed, frames_after, history_with, pieces_after, text_after, reported_text}
use Rattle.office_program.specs.Polling.{Holds}
use Rattle.office_program.specs.declared.fault.RoundFault.{RoundFault}
use Rattle.office_program.specs.declared.fault.RoundFault.TheVariants.{Refused, Link, Output, TurnsUsed}
use Rattle.office_program.specs.declared.progress.Progress.{Progress}

-- The first event of a polling round, with the event engine's answer. The event is `Connected` for
-- the round's device at timestamp `at`.
abbrev pub connection : (device : Option (List ℕ)) → (at : ℕ) → Result Answer Refusal → Answered
connection device at result = record { at = at; event = event.Connected device; result = result }

-- True if the office (the event engine) answered the event `e` with `reply`. The engine is in the
-- state after this event, and has the event's notifications and Modbus frames.
pub record IsTaken {B : Type 0} (ledger : B → Ledger) (past : History) (at : ℕ) (e : Event)
    (reply : Result Answer Refusal)
    (begun now : RoundState) (office : Office B) : Type 0 where
  pub stands : Stands ledger (with_answer past at e reply) office
  pub answer : IsAnswer past at e begun.failures now.failures reply
  pub reported : IsReported past at e reply office

-- True if the event engine accepted the event, a write of the event's report failed, and at most a
-- part of the report was printed.
pub record IsUnprinted {B : Type 0} (ledger : B → Ledger) (past : History) (at : ℕ) (e : Event)
    (begun now : RoundState)
    (office : Office B) : Type 0 where
  pub given : Answer
  pub taken : IsTaken ledger past at e (Ok given) begun now office
  pub printed : IsPrinted {X = Unit {0}} (Err Output) (reported_text past at e (Ok given)) begun.printed
      now.printed

-- True if the event was fed to the event engine. The report of an accepted event was printed, or a
-- part of the report if the write failed.
abbrev pub Feeds : {B : Type 0} → (B → Ledger) → History → (at : ℕ) → Event
    → (begun now : RoundState) → Office B
    → Result Answer RoundFault → Type 0
Feeds ledger past at e begun now office (Ok given) =
    IsTaken ledger past at e (Ok given) begun now office
    × Appends begun.printed now.printed (reported_text past at e (Ok given))
Feeds ledger past at e begun now office (Err (Refused why)) =
    IsTaken ledger past at e (Err why) begun now office × Appends begun.printed now.printed []
Feeds ledger past at e begun now office (Err Output) = IsUnprinted ledger past at e begun now office
Feeds ledger past at e begun now office (Err Link) = ⊥
Feeds ledger past at e begun now office (Err TurnsUsed) = ⊥

-- The rule that the event engine stops if the store or memory fails during an event that can end
-- polls. A stopped engine refuses every event until a restart.
--
-- The event engine refuses an event with the refusal `Stopped` only if the engine had stopped
-- before this event. The engine stops if the store or memory fails during an event that can end
-- polls.
pub record Stops (was : Bool) (e : Event) (reply : Result Answer Refusal) (now : Bool) : Type 0
  where
    pub before : reply ≡ Err refusal.Stopped → was ≡ true
    pub after : now ≡ (was || stops e reply)

-- States that if the event engine refused the event, it followed the rule `Stops`, which says when
-- the engine stops. States nothing for other results.
abbrev pub FeedStops : (was : Bool) → Event → Result Answer RoundFault → (now : Bool) → Type 0
FeedStops was e (Ok given) now = Unit {0}
FeedStops was e (Err (Refused why)) now = Stops was e (Err why) now
FeedStops was e (Err Link) now = Unit {0}
FeedStops was e (Err Output) now = Unit {0}
FeedStops was e (Err TurnsUsed) now = Unit {0}

-- States that if the event engine's answer is a refusal, the engine followed the rule `Stops`,
-- which says when the engine stops. States nothing for other answers.
abbrev pub RefusedStops : (was : Bool) → Event → Result Answer Refusal → (now : Bool) → Type 0
RefusedStops was e reply now = (why : Refusal) → reply ≡ Err why → Stops was e reply now

-- True if the event engine processed the last event of a polling round and the event's report was
-- printed. If the write failed, a part of the report was printed, and the fault is the failed
-- write.
pub record EndsPrinted {B : Type 0} (ledger : B → Ledger) (past : History) (at : ℕ) (e : Event)
    (cause : RoundFault)
    (begun now : RoundState) (old new : Office B) (fault : RoundFault) : Type 0 where
  pub reply : Result Answer Refusal
  pub taken : IsTaken ledger past at e reply begun now new
  pub stops : RefusedStops (is_stopped old) e reply (is_stopped new)
  pub printed : ((fault ≡ cause) × Appends begun.printed now.printed (reported_text past at e reply))
      ⊎ ((fault ≡ Output) × GotPart (reported_text past at e reply) begun.printed now.printed)

-- True if the event engine processed the last event of a polling round, and nothing was printed,
-- because an earlier write of output had failed.
pub record EndsUnprinted {B : Type 0} (ledger : B → Ledger) (past : History) (at : ℕ) (e : Event)
    (begun now : RoundState) (old new : Office B) : Type 0 where
  pub reply : Result Answer Refusal
  pub taken : IsTaken ledger past at e reply begun now new
  pub stops : RefusedStops (is_stopped old) e reply (is_stopped new)

-- The fault to report after the last event of a polling round: `Output` if printing the event
-- failed, otherwise the cause that ended the round early.
abbrev pub fault_after : (cause fault : RoundFault) → RoundFault
fault_after cause (Refused why) = cause
fault_after cause Link = cause
fault_after cause Output = Output
fault_after cause TurnsUsed = cause

-- True if the fault is a failed write of the program's output.
abbrev pub is_output : RoundFault → Bool
is_output (Refused why) = false
is_output Link = false
is_output Output = true
is_output TurnsUsed = false

-- States that on `Ok` the text of an answer was printed completely. On an error, the write failed,
-- and a part of the text was printed. No other fault occurs.
abbrev pub Prints : Answer → (text : List ℕ) → (old new : Option (List ℕ))
    → Result Answer RoundFault → Type 0
Prints given text old new (Ok reported) = (reported ≡ given) × Appends old new text
Prints given text old new (Err (Refused why)) = ⊥
Prints given text old new (Err Link) = ⊥
Prints given text old new (Err Output) = GotPart text old new
Prints given text old new (Err TurnsUsed) = ⊥

-- The timestamp of the latest accepted event after a polling round ended with the given fault. The
-- last event that the round fed to the event engine has the timestamp `at`.
--
-- The result is `at` if the event engine accepted the event with this timestamp but the event's
-- report could not be printed, otherwise `latest`.
abbrev pub latest_after : RoundFault → (at latest : ℕ) → ℕ
latest_after (Refused why) at latest = latest
latest_after Link at latest = latest
latest_after Output at latest = at
latest_after TurnsUsed at latest = latest

-- The progress of a polling round that has fed no event to the event engine yet: its device is
-- connected, and `latest` is 0.
abbrev pub unfed : (device : Option (List ℕ)) → Progress
unfed device = record { round = joined (unconnected device); latest = 0 }

-- True if the polling round has just been created, and has fed no event to the event engine.
abbrev pub IsNew : Progress → Type 0
IsNew progress = progress.round ≡ joined (unconnected progress.round.device)

-- The state of a running polling round of one device. The round fed its events in the order that
-- `AreNext` defines: each was the next action after the earlier events. The event engine accepted
-- each event, and the events' reports were printed.
pub record Going {B : Type 0} (ledger : B → Ledger) (device : Option (List ℕ)) (past : History)
    (begun now : RoundState)
    (office : Office B) (fed : List Answered) (progress : Progress) : Type 0 where
  pub leaves : IsFed ledger past begun now office fed
  pub next : AreNext device past fed
  pub timed : AreTimed begun.moments now.moments fed
  pub printed : Appends begun.printed now.printed (text_after past fed)
  pub holds : Holds device past fed progress.round
  pub latest : progress.latest ≡ latest_of (history_with past fed)

-- The state of a polling round that was ended early for `cause`, and has yet to feed its last event
-- to the event engine: `Gone` (the device is disconnected).
pub record Broken {B : Type 0} (ledger : B → Ledger) (device : Option (List ℕ)) (past : History)
    (begun now : RoundState)
    (office : Office B) (fed : List Answered) (progress : Progress) (cause : RoundFault) : Type 0
  where
    pub leaves : IsFed ledger past begun now office fed
    pub course : BreaksOff device past cause fed
    pub timed : AreTimed begun.moments now.moments fed
    pub printed : IsPrinted {X = Unit {0}} (Err cause) (text_after past fed) begun.printed
        now.printed
    pub device_is : progress.round.device ≡ device
    pub latest : progress.latest ≡ latest_of (history_with past fed)

-- True if the bytes read from the device's link are those in the events that the polling round fed.
-- The bytes written are the event engine's Modbus frames, or after a fault, only a part of the
-- frames.
pub record IsWired {X : Type 0} (past : History) (from to : Wire) (fed : List Answered)
    (result : Result X RoundFault) : Type 0 where
  pub taken : Consumes from.remaining to.remaining (pieces_after fed)
  pub given : AreGiven result (frames_after past fed) from.given to.given

-- True if the running polling round fed its next event to the event engine. The Modbus frames that
-- the engine will send are those of this event.
pub record RoundGoesOn {B : Type 0} (ledger : B → Ledger) (device : Option (List ℕ))
    (past : History) (begun now : RoundState)
    (office : Office B) (fed : List Answered) (one : Answered) (progress : Progress) : Type 0 where
  pub going : Going ledger device past begun now office (one ∷ fed) progress
  pub reported : outgoing_in office
      ≡ outgoing_after (history_with past fed) one.at one.event one.result

-- True if no Modbus frames were sent for an event of a polling round, because the event engine
-- refused the event or printing the event's report failed.
abbrev pub IsUnsent : RoundFault → Result Answer Refusal → Type 0
IsUnsent (Refused why) result = result ≡ Err why
IsUnsent Link result = ⊥
IsUnsent Output result = Unit {0}
IsUnsent TurnsUsed result = ⊥

-- The state after a polling round fed an event to the event engine. On `Ok` the round is running.
-- On a fault the round has ended early, and no Modbus frames were sent for the event.
abbrev pub Reported : {B : Type 0} → (B → Ledger) → (device : Option (List ℕ)) → History
    → (begun now : RoundState) → Office B
    → List Answered → Answered → Progress → Result (Unit {0}) RoundFault → Type 0
Reported ledger device past begun now office fed one progress (Ok done) =
    RoundGoesOn ledger device past begun now office fed one progress
Reported ledger device past begun now office fed one progress (Err cause) =
    Broken ledger device past begun now office (one ∷ fed) progress cause
    × IsUnsent cause one.result

-- The state after an action of a running polling round. On `Ok` the round is running, and the
-- function `next` gives its next action from the action's result. On a fault the round has ended
-- early.
abbrev pub Steps : {B X : Type 0} → (B → Ledger) → (device : Option (List ℕ)) → History
    → (begun now : RoundState) → (from to : Wire)
    → Office B → List Answered → Progress → Result X RoundFault → (X → Next) → Type 0
Steps ledger device past begun now from to office fed progress (Ok x) next =
    Going ledger device past begun now office fed progress
    × IsWired {X = Unit {0}} past from to fed (Ok tt) × (next_in past fed ≡ next x)
Steps ledger device past begun now from to office fed progress (Err cause) next =
    Broken ledger device past begun now office fed progress cause
    × IsWired {X = Unit {0}} past from to fed (Err cause)

-- The state of a polling round before or after an action: the event engine, the clock, the writer
-- of the output, the link, and the progress.
pub record Scene (B : Type 0) : Type 0 where
  pub office : Office B
  pub round_state : RoundState
  pub wire : Wire
  pub progress : Progress

-- Builds a `Scene` (the state of a polling round before or after an action) from its four fields.
abbrev pub scene : {B : Type 0} → Office B → RoundState → Wire → Progress → Scene B
scene office round_state wire progress =
    record { office = office; round_state = round_state; wire = wire; progress = progress }

-- The contract of an action `now` of a polling round. It holds for any running round with the
-- progress in `old` whose next action is `now`. `Steps` states the result.
--
-- The contract of an action of a polling round states nothing if the program used a wrong result of
-- its store during this action.
abbrev pub StepsFrom : {B X : Type 0} → (B → Ledger) → (old new : Scene B) → (now : Next)
    → Result X RoundFault → (X → Next) → Type 0
StepsFrom ledger old new now result next =
    (device : Option (List ℕ)) (past : History) (begun : RoundState) (from : Wire)
    (fed : List Answered)
    → Going ledger device past begun old.round_state old.office fed old.progress
    → IsWired {X = Unit {0}} past from old.wire fed (Ok tt)
    → next_in past fed ≡ now → (ledger (books_in new.office)).is_clean
    → (later : List Answered)
    × Steps ledger device past begun new.round_state from new.wire new.office later new.progress
    result next

-- The result of feeding the event `Connected` of a device to the event engine. Afterwards the
-- polling round is running, or the engine refused the event, or printing failed.
abbrev pub Connects : {B : Type 0} → (B → Ledger) → (device : Option (List ℕ)) → History
    → (begun now : RoundState) → Office B → Progress
    → Result (Unit {0}) RoundFault → Type 0
Connects ledger device past begun now office progress (Ok x) =
    (at : ℕ) × ((given : Answer)
    × Going ledger device past begun now office (connection device at (Ok given) ∷ []) progress)
Connects ledger device past begun now office progress (Err (Refused why)) =
    (at : ℕ) × IsFed ledger past begun now office (connection device at (Err why) ∷ [])
    × ReportsMoment begun.moments now.moments at
    × Appends begun.printed now.printed []
Connects ledger device past begun now office progress (Err Output) =
    (at : ℕ) × ((given : Answer)
    × Broken ledger device past begun now office (connection device at (Ok given) ∷ []) progress
    Output)
Connects ledger device past begun now office progress (Err Link) = ⊥
Connects ledger device past begun now office progress (Err TurnsUsed) = ⊥

-- True if a polling round that a fault ended has fed its last event to the event engine: `Gone`
-- with the cause `Failed`, as after a failed read or write of the link.
pub record Closes {B : Type 0} (ledger : B → Ledger) (device : Option (List ℕ)) (past : History)
    (begun now : RoundState)
    (office : Office B) (earlier : List Answered) (cause fault : RoundFault) : Type 0 where
  pub reported : IsReportedOf cause fault
  pub gone : Answered
  pub event : gone.event ≡ event.Gone device closing.Failed
  pub leaves : IsFed ledger past begun now office (gone ∷ earlier)
  pub timed : IsGoneAt past begun.moments now.moments earlier gone.at
  pub printed : IsPrinted {X = Unit {0}} (Err fault) (text_after past (gone ∷ earlier))
      begun.printed now.printed
  pub settled : IsSettled device (history_with past (gone ∷ earlier)) office
