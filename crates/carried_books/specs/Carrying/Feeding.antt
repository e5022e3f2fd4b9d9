-- The effect of feeding commands to an office (the part of the program that executes commands) in
-- order, each as an event at the command's timestamp.
use Rattle.std.specs.Prelude.{◌≡◌, List, [], ◌∷◌, ◌++◌, Result, Ok, Err}
use Rattle.office_events.specs.declared.events.Event.{Event}
use Rattle.office_events.specs.declared.events.Event.TheVariants as event
use Rattle.office_events.specs.declared.refusals.Refusal.{Refusal}
use Rattle.office_books.specs.History.{Accepted, Fed, History}
use Rattle.office_books.specs.Ledgers.{Ledger}
use Rattle.office_core.specs.declared.office.Office.{Office}
use Rattle.office_core.specs.Standing.{After, Stands, books_in}
use Rattle.office_core.specs.Taking.{IsAnswer, failures_of}
use Rattle.carried_books.specs.declared.carrying.commands.TimedCommand.{TimedCommand}

-- The event that passes a command to an office, the part of the program that executes commands.
abbrev pub event_of : TimedCommand → Event
event_of timed = event.Command timed.command

-- The accepted event of a command: the office (event engine) accepted the command at the command's
-- timestamp.
abbrev pub accepted : TimedCommand → Accepted
accepted timed = Fed timed.at (event_of timed)

-- The history of an office (event engine) after the office executed a list of commands in order.
abbrev pub history_with : History → List TimedCommand → History
history_with past [] = past
history_with past (timed ∷ later) = history_with (accepted timed ∷ past) later

-- The office (event engine) executed all commands in `commands` in order, and the database did not
-- fail.
pub record AreFed {B : Type 0} (ledger : B → Ledger) (past : History)
    (commands : List TimedCommand) (old new : Office B) : Type 0 where
  pub stands : Stands ledger (history_with past commands) new
  pub failures : failures_of ledger new ≡ failures_of ledger old

-- The office (event engine) refused to execute the command for the reason `why`, and the office's
-- state is unchanged.
pub record IsRefused {B : Type 0} (ledger : B → Ledger) (past : History) (timed : TimedCommand)
    (old new : Office B) (why : Refusal) : Type 0 where
  pub stands : Stands ledger past new
  pub answer : IsAnswer past timed.at (event_of timed)
      (failures_of ledger old) (failures_of ledger new) (Err why)

-- The office (event engine) executed the first commands in `commands`, refused the next command,
-- and received no further command.
pub record AreFedUpTo {B : Type 0} (ledger : B → Ledger) (past : History)
    (commands : List TimedCommand) (old new : Office B) (why : Refusal) : Type 0 where
  pub given : List TimedCommand
  pub next : TimedCommand
  pub later : List TimedCommand
  pub are : commands ≡ given ++ next ∷ later
  pub refused : IsRefused ledger (history_with past given) next old new why

-- States that on `Ok`, the office (event engine) executed the command. On an error, the office
-- refused the command, and the office's state is unchanged.
abbrev pub IsFedOr : {B : Type 0} → (B → Ledger) → History → TimedCommand
    → (old new : Office B) → Result (Unit {0}) Refusal → Type 0
IsFedOr ledger past timed old new (Ok done) = AreFed ledger past (timed ∷ []) old new
IsFedOr ledger past timed old new (Err why) = IsRefused ledger past timed old new why

-- States that on `Ok`, the office (event engine) executed all commands. On an error, the office
-- executed some commands and refused the next command.
abbrev pub AreFedOr : {B : Type 0} → (B → Ledger) → History → List TimedCommand
    → (old new : Office B) → Result (Unit {0}) Refusal → Type 0
AreFedOr ledger past commands old new (Ok done) = AreFed ledger past commands old new
AreFedOr ledger past commands old new (Err why) = AreFedUpTo ledger past commands old new why

-- The contract of feeding one command to an office (event engine), for any history of the office.
-- The contract promises `IsFedOr`: the command was executed, or refused without an effect.
abbrev pub FeedsOne : {B : Type 0} → (B → Ledger) → TimedCommand → (old new : Office B)
    → Result (Unit {0}) Refusal → Type 0
FeedsOne ledger timed old new result =
    After ledger old new (λ past. IsFedOr ledger past timed old new result)

-- The contract of feeding several commands to an office (event engine), for any history of the
-- office. The contract promises `AreFedOr`: all commands were executed, or those before a refused
-- one.
abbrev pub Feeds : {B : Type 0} → (B → Ledger) → List TimedCommand → (old new : Office B)
    → Result (Unit {0}) Refusal → Type 0
Feeds ledger commands old new result =
    After ledger old new (λ past. AreFedOr ledger past commands old new result)

-- If the database returned no wrong result up to the end of a call that feeds commands to an office
-- (event engine), then it returned none before the call. The call leaves the database's time zone
-- unchanged in any case.
pub record Passes {B : Type 0} (ledger : B → Ledger) (old new : Office B) : Type 0 where
  pub clean : (ledger (books_in new)).is_clean → (ledger (books_in old)).is_clean
  pub zone : (ledger (books_in new)).zone ≡ (ledger (books_in old)).zone
