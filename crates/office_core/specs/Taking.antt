-- The program's answer to an event, and the program's state after the event.
use Rattle.std.specs.Prelude.{◌≡◌, ◌⊎◌, ◌↔◌, ℕ, true, false, ◌||◌, [], None, Result, Err, IfErr}
use Rattle.office_events.specs.declared.answers.Answer.{Answer}
use Rattle.office_events.specs.declared.events.Event.{Event}
use Rattle.office_events.specs.declared.refusals.Refusal.{Refusal}
use Rattle.office_events.specs.declared.refusals.Refusal.TheVariants as refusal
use Rattle.office_books.specs.History.{History, facts_of, slots_of, next_poll}
use Rattle.office_books.specs.Refusals.{IsAccepted, decision_of, refusal_of, with_answer}
use Rattle.office_books.specs.Notes.{notes_after, outgoing_after}
use Rattle.office_books.specs.Sessions.{command_in}
use Rattle.office_books.specs.Lawfulness.{PutsPlanned}
use Rattle.office_books.specs.declared.failures.Failures.{Failures}
use Rattle.office_books.specs.Ledgers.{Ledger}
use Rattle.office_core.specs.Settling.Settling.{SettleNothing}
use Rattle.office_core.specs.declared.office.Office.{Office}
use Rattle.office_core.specs.Events.{is_command}
use Rattle.office_core.specs.Failing.{Counts, FailsOutside, IsNotStopped, IsNotForWantOfDay, is_failure, stops}
use Rattle.office_core.specs.Leaving.{BooksStand, Leaves, LeftByEvent}
use Rattle.office_core.specs.Standing.{Goes, books_in, is_stopped, notes_in, outgoing_in}

-- The failure counter of the program's store.
abbrev pub failures_of : {B : Type 0} → (B → Ledger) → Office B → Failures
failures_of ledger office = (ledger office.books).failures

-- True if the answer to an event is what `decision_of` (the specification of answers) gives from
-- the accepted events, or correctly reports a failure or a stopped program. Memory outside the
-- store is needed only if the event is accepted.
abbrev pub IsAnswer : History → (at : ℕ) → Event → (before after : Failures)
    → Result Answer Refusal → Type 0
IsAnswer past at e before after result =
    ((result ≡ decision_of past at e) × (after ≡ before))
    ⊎ FailsOutside (IsAccepted past at e) before after result

-- True if the answer to the event is what the accepted events require or reports a failure, and the
-- store's failure counter changes as the answer requires.
abbrev pub AnswersEvent : {B : Type 0} → (B → Ledger) → (at : ℕ) → Event → (old new : Office B)
    → Result Answer Refusal → History → Type 0
AnswersEvent ledger at e old new result past =
    IsAnswer past at e (failures_of ledger old) (failures_of ledger new) result

-- True if the lists of records that a crash may leave before and after the event are related as the
-- specification `LeftByEvent` requires for the event's answer.
abbrev pub LeavesEvent : {B : Type 0} → (B → Ledger) → (at : ℕ) → Event → (old new : Office B)
    → Result Answer Refusal → History → Type 0
LeavesEvent ledger at e old new result past =
    Leaves (ledger (books_in old)) (ledger (books_in new)) (LeftByEvent past at e result)

-- True if the program reports the notifications (outcomes and readings) and the frames to send of
-- the given event, and no others.
pub record IsReported {B : Type 0} (past : History) (at : ℕ) (e : Event)
    (result : Result Answer Refusal) (office : Office B) : Type 0 where
  pub notes : notes_in office ≡ notes_after past at e result
  pub outgoing : outgoing_in office ≡ outgoing_after past at e result

-- The guarantees of processing an event, whatever the store returned. The program refuses the event
-- as `Stopped` if and only if an earlier failure makes it refuse all events. No event is refused
-- because a quarter hour has no civil day.
--
-- If an event that may end polls fails, the program stops (it refuses all later events). The
-- program reports exactly the store's failures. If the store is clean (every wrong result was
-- detected) after the event, it was clean before. The time zone stays the same.
pub record Ends {B : Type 0} (ledger : B → Ledger) (old new : Office B) (e : Event)
    (result : Result Answer Refusal) : Type 0 where
  pub stopped : (result ≡ Err refusal.Stopped) ↔ (is_stopped old ≡ true)
  pub no_day : IfErr result IsNotForWantOfDay
  pub stops : is_stopped new ≡ (is_stopped old || stops e result)
  pub counts : Counts (ledger (books_in old)).failures (ledger (books_in new)).failures result
  pub clean : (ledger (books_in new)).is_clean → (ledger (books_in old)).is_clean
  pub zone : (ledger (books_in new)).zone ≡ (ledger (books_in old)).zone

-- True if the event requests no command and ends no poll.
pub record SettlesNothing (past : History) (at : ℕ) (e : Event) : Type 0 where
  pub device : is_command e ≡ false
  pub nothing : refusal_of past at e ≡ None
      → SettleNothing (next_poll (facts_of past)) at e (slots_of past)

-- True if the event does not fail, and leaves the store unchanged without a query.
pub record IsQuiet {B : Type 0} (old new : Office B) (result : Result Answer Refusal) : Type 0 where
  pub answer : is_failure result ≡ false
  pub books : books_in new ≡ books_in old

-- The preconditions of processing an event. The program is running, and its notifications and bytes
-- to send are cleared. If the event sets a point list (the Modbus registers to read), the list has
-- a plan: the reads that cover it.
pub record MayTake {B : Type 0} (ledger : B → Ledger) (past : History) (e : Event)
    (office : Office B) : Type 0 where
  pub books : BooksStand (ledger office.books) past
  pub goes : Goes past office
  pub planned : PutsPlanned (command_in e)
  pub notes : notes_in office ≡ []
  pub outgoing : outgoing_in office ≡ []

-- The effect of processing an event. The answer and the notifications are those that the accepted
-- events require, and the store has the records after the event. The program's state agrees with
-- these records unless the program has stopped (it refuses all events).
pub record Takes {B : Type 0} (ledger : B → Ledger) (past : History) (at : ℕ) (e : Event)
    (old new : Office B) (result : Result Answer Refusal) : Type 0 where
  pub answer : IsAnswer past at e
      (ledger (books_in old)).failures (ledger (books_in new)).failures result
  pub books : BooksStand (ledger (books_in new)) (with_answer past at e result)
  pub leaves : LeavesEvent ledger at e old new result past
  pub goes : stops e result ≡ false → Goes (with_answer past at e result) new
  pub reported : IsReported past at e result new

-- States that, if every wrong result of the store was detected, processing the event had the
-- required effect (`Takes`) for every history before the event.
abbrev pub TakesAny : {B : Type 0} → (B → Ledger) → (at : ℕ) → Event → (old new : Office B)
    → Result Answer Refusal → Type 0
TakesAny ledger at e old new result =
    (past : History) → MayTake ledger past e old → (ledger (books_in new)).is_clean
    → Takes ledger past at e old new result

-- States that, if every wrong result of the store was detected, processing the event had the
-- required effect (`Takes`) for every history that accepts the event.
abbrev pub TakesAccepted : {B : Type 0} → (B → Ledger) → (at : ℕ) → Event → (old new : Office B)
    → Result Answer Refusal → Type 0
TakesAccepted ledger at e old new result =
    (past : History) → MayTake ledger past e old → IsAccepted past at e
    → (ledger (books_in new)).is_clean
    → Takes ledger past at e old new result

-- The guarantees of processing an event, whatever the store returned. The program reports exactly
-- the store's failures. If the store is clean (every wrong result was detected) after the event, it
-- was clean before. The event changes neither the time zone nor the flag that makes the program
-- refuse all events.
--
-- The event is not refused as `Stopped` (the program has stopped), or because a quarter hour has no
-- civil day.
pub record Passes {B : Type 0} (ledger : B → Ledger) (old new : Office B)
    (result : Result Answer Refusal) : Type 0 where
  pub counts : Counts (ledger (books_in old)).failures (ledger (books_in new)).failures result
  pub clean : (ledger (books_in new)).is_clean → (ledger (books_in old)).is_clean
  pub zone : (ledger (books_in new)).zone ≡ (ledger (books_in old)).zone
  pub stopped : is_stopped new ≡ is_stopped old
  pub not_stopped : IfErr result IsNotStopped
  pub no_day : IfErr result IsNotForWantOfDay
