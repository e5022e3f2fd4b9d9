-- The result of a polling round (one poll for each Modbus read that covers a device's point list):
-- the state of the office (the event engine), and the bytes that were read, written and printed.
use Rattle.std.specs.Prelude.{◌≡◌, ◌⊎◌, ℕ, nat_lt, true, ◌||◌, List, [], ◌∷◌, Option, Some, Result, Ok, Err, if◌then◌else◌}
use Rattle.std.specs.Io.KnownBytes.{Appends, Consumes}
use Rattle.mb_wire.specs.Sockets.Clocks.{ReportsMoment}
use Rattle.poll_core.specs.declared.outcome.Closing.TheVariants as closing
use Rattle.office_events.specs.declared.events.Event.TheVariants as event
use Rattle.office_events.specs.declared.refusals.Refusal.{Refusal}
use Rattle.office_events.specs.declared.refusals.Refusal.TheVariants as refusal
use Rattle.office_books.specs.Facts.{moment_limit}
use Rattle.office_books.specs.PollEndings.{pending_on}
use Rattle.office_books.specs.History.{History, latest_of, slots_of}
use Rattle.office_books.specs.Sessions.{Slot, slot_of}
use Rattle.office_books.specs.declared.failures.Failures.{Failures}
use Rattle.office_books.specs.Ledgers.{Ledger}
use Rattle.office_core.specs.EventRun.{Answered}
use Rattle.office_core.specs.Standing.{Stands, is_stopped}
use Rattle.office_core.specs.declared.office.Office.{Office}
use Rattle.office_program.specs.Course.{AreNext, Does, Over, next_in}
use Rattle.office_program.specs.Faults.{AreGiven, IsPrinted}
use Rattle.office_program.specs.FedEvents.{AreAnswered, AreTimed, frames_after, history_with, pieces_after, text_after}
use Rattle.office_program.specs.declared.fault.RoundFault.{RoundFault}
use Rattle.office_program.specs.declared.fault.RoundFault.TheVariants.{Refused, Link, Output, TurnsUsed}

-- The printed text and the times that the clock returns (each is `None` if the contracts state
-- nothing about it), and the failure counts of the store.
pub record RoundState : Type 0 where
  pub printed : Option (List ℕ)
  pub moments : Option (List ℕ)
  pub failures : Failures

-- Builds a `RoundState` (the known state of the output, the clock and the store) from its fields.
abbrev pub round_state : (printed moments : Option (List ℕ)) → (failures : Failures) → RoundState
round_state printed moments failures =
    record { printed = printed; moments = moments; failures = failures }

-- The bytes that a link (a connection to a device) still has to deliver, and the bytes written to
-- the link. `None` means that the link's specification does not say which bytes these are.
pub record Wire : Type 0 where
  pub remaining : Option (List ℕ)
  pub given : Option (List ℕ)

-- Builds a `Wire` (the known bytes read from and written to the link to a device) from its fields.
abbrev pub wire : (remaining given : Option (List ℕ)) → Wire
wire remaining given = record { remaining = remaining; given = given }

-- The state of the writer of the output, the clock, the store's failure counts and the link
-- (connection to the device) at the start and end of a polling round. A part that its type does not
-- specify is `None`.
pub record Passage : Type 0 where
  pub begun : RoundState
  pub ended : RoundState
  pub from : Wire
  pub to : Wire

-- Builds a `Passage` (the known states at the start and the end of a polling round) from its
-- fields.
abbrev pub passage : (begun ended : RoundState) → (from to : Wire) → Passage
passage begun ended from to = record { begun = begun; ended = ended; from = from; to = to }

-- True if each event of a list has the answer that the specification gives, or was refused because
-- of a failure. Also requires that the event engine is in the state after these events.
pub record IsFed {B : Type 0} (ledger : B → Ledger) (past : History) (begun now : RoundState)
    (office : Office B)
    (fed : List Answered) : Type 0 where
  pub stands : Stands ledger (history_with past fed) office
  pub answered : AreAnswered past begun.failures now.failures fed

-- True if no poll that was started since the device connected is pending.
abbrev pub NoneWaits : (device : Option (List ℕ)) → History → Type 0
NoneWaits device history = (slot : Slot) → slot_of (slots_of history) device ≡ Some slot
    → pending_on slot ≡ []

-- True if none of the device's polls is pending, or the event engine has stopped because the store
-- or memory failed.
abbrev pub IsSettled : {B : Type 0} → (device : Option (List ℕ)) → History → Office B → Type 0
IsSettled device history office = (is_stopped office ≡ true) ⊎ NoneWaits device history

-- True if the polling round ended without a fault: each event that it fed to the event engine was
-- its next event, and the last event was `Gone` (the device is disconnected).
--
-- The bytes read from the link are those in the polling round's events, and the bytes written are
-- the event engine's Modbus frames. The engine's reports of the events were printed.
pub record IsRound {B : Type 0} (ledger : B → Ledger) (device : Option (List ℕ)) (past : History)
    (through : Passage)
    (office : Office B) : Type 0 where
  pub fed : List Answered
  pub leaves : IsFed ledger past through.begun through.ended office fed
  pub next : AreNext device past fed
  pub over : next_in past fed ≡ Over
  pub timed : AreTimed through.begun.moments through.ended.moments fed
  pub taken : Consumes through.from.remaining through.to.remaining (pieces_after fed)
  pub given : Appends through.from.given through.to.given (frames_after past fed)
  pub printed : Appends through.begun.printed through.ended.printed (text_after past fed)
  pub settled : IsSettled device (history_with past fed) office

-- True if the event engine refused the event `Connected` of a polling round, no other event was
-- fed, and nothing was read, written or printed.
pub record IsNotConnected {B : Type 0} (ledger : B → Ledger) (device : Option (List ℕ))
    (past : History) (through : Passage)
    (office : Office B) (why : Refusal) : Type 0 where
  pub at : ℕ
  pub leaves : IsFed ledger past through.begun through.ended office
      (record { at = at; event = event.Connected device; result = Err why } ∷ [])
  pub timed : ReportsMoment through.begun.moments through.ended.moments at
  pub same : through.to ≡ through.from
  pub printed : Appends through.begun.printed through.ended.printed []

-- True if the latest event in a list was the next action of a polling round after the earlier
-- events of the list, and the event engine refused this event.
abbrev pub IsRefused : (device : Option (List ℕ)) → (past : History) → Refusal → List Answered
    → Type 0
IsRefused device past why [] = ⊥
IsRefused device past why (one ∷ earlier) =
    AreNext device past earlier × Does device (next_in past earlier) one.event
    × (one.result ≡ Err why)

-- True if the given events were fed to the event engine before a fault ended a polling round. Each
-- event was the next event of the round. If the engine refused an event, this is the last one.
--
-- If memory for received bytes ran out, the fault that ended the polling round is a refusal
-- although the event engine refused no event.
abbrev pub BreaksOff : (device : Option (List ℕ)) → (past : History) → RoundFault → List Answered
    → Type 0
BreaksOff device past (Refused why) fed =
    IsRefused device past why fed ⊎ (AreNext device past fed × (why ≡ refusal.Memory))
BreaksOff device past Link fed = AreNext device past fed
BreaksOff device past Output fed = AreNext device past fed
BreaksOff device past TurnsUsed fed = AreNext device past fed

-- The timestamp of the event `Gone` (the device is disconnected): the clock's time `moment`.
--
-- If the clock was set back or is past the largest supported timestamp, then the timestamp of
-- `Gone` is `latest`, that of the latest event. So the event engine never refuses `Gone` for its
-- timestamp.
abbrev pub gone_at : (latest moment : ℕ) → ℕ
gone_at latest moment =
    if nat_lt moment latest || nat_lt moment_limit moment then latest else moment

-- True if `at` is the timestamp of the event `Gone` (the device is disconnected) after the events
-- in `earlier`.
pub record IsGoneAt (past : History) (begun now : Option (List ℕ)) (earlier : List Answered)
    (at : ℕ) : Type 0 where
  pub between : Option (List ℕ)
  pub timed : AreTimed begun between earlier
  pub moment : ℕ
  pub reported : ReportsMoment between now moment
  pub is : at ≡ gone_at (latest_of (history_with past earlier)) moment

-- True if `fault` is a possible fault to report for a polling round that ended early for `cause`:
-- the cause itself, or a later failed write of the output.
abbrev pub IsReportedOf : (cause fault : RoundFault) → Type 0
IsReportedOf cause fault = (fault ≡ cause) ⊎ (fault ≡ Output)

-- True if a fault ended the polling round after the round had fed some of its events to the event
-- engine.
--
-- The last event of the polling round is `Gone` with the cause `Failed` (the connection failed).
-- The reported fault does not depend on the event engine's answer to this event.
pub record IsBrokenOff {B : Type 0} (ledger : B → Ledger) (device : Option (List ℕ))
    (past : History) (through : Passage)
    (office : Office B) (fault : RoundFault) : Type 0 where
  pub cause : RoundFault
  pub reported : IsReportedOf cause fault
  pub earlier : List Answered
  pub course : BreaksOff device past cause earlier
  pub gone : Answered
  pub event : gone.event ≡ event.Gone device closing.Failed
  pub leaves : IsFed ledger past through.begun through.ended office (gone ∷ earlier)
  pub timed : IsGoneAt past through.begun.moments through.ended.moments earlier gone.at
  pub taken : Consumes through.from.remaining through.to.remaining (pieces_after earlier)
  pub given : AreGiven {X = Unit {0}} (Err cause) (frames_after past earlier) through.from.given
      through.to.given
  pub printed : IsPrinted {X = Unit {0}} (Err fault) (text_after past (gone ∷ earlier))
      through.begun.printed through.ended.printed
  pub settled : IsSettled device (history_with past (gone ∷ earlier)) office

-- True if the fault is a refusal: the event engine refused the polling round's event `Connected`,
-- and nothing else was fed.
abbrev pub IsNotConnectedBy : {B : Type 0} → (B → Ledger) → (device : Option (List ℕ)) → History
    → Passage → Office B
    → RoundFault → Type 0
IsNotConnectedBy ledger device past through office (Refused why) =
    IsNotConnected ledger device past through office why
IsNotConnectedBy ledger device past through office Link = ⊥
IsNotConnectedBy ledger device past through office Output = ⊥
IsNotConnectedBy ledger device past through office TurnsUsed = ⊥

-- States the result of a polling round. On `Ok` the round ended without a fault. On an error, the
-- event engine refused the round's event `Connected`, or another fault ended the round.
abbrev pub Rounds : {B : Type 0} → (B → Ledger) → (device : Option (List ℕ)) → (past : History)
    → Passage → Office B
    → Result (Unit {0}) RoundFault → Type 0
Rounds ledger device past through office (Ok x) = IsRound ledger device past through office
Rounds ledger device past through office (Err fault) =
    IsNotConnectedBy ledger device past through office fault
    ⊎ IsBrokenOff ledger device past through office fault
