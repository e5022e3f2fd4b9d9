-- The state of the old and the new database file after a file rollover. A file rollover begins a
-- new database file in which each open meter continues.
use Rattle.std.specs.Prelude.{◌≡◌, ℕ, List, Option, Result, Ok, Err}
use Rattle.office_events.specs.declared.facts.Fact.{Fact}
use Rattle.office_events.specs.declared.refusals.Refusal.{Refusal}
use Rattle.office_books.specs.declared.failures.Failures.{Failures}
use Rattle.office_books.specs.declared.faults.BooksFault.{BooksFault}
use Rattle.office_books.specs.Faults.{FailuresAfterCalls, as_refusal}
use Rattle.office_books.specs.Ledgers.{KeepsFacts, Ledger}
use Rattle.office_core.specs.declared.office.Office.{Office}
use Rattle.office_core.specs.Standing.{After}
use Rattle.carried_books.specs.Carrying.Feeding.{AreFed, AreFedUpTo}
use Rattle.carried_books.specs.Carrying.Openings.{IsNotYet}
use Rattle.carried_books.specs.Carrying.Plans.{AreCarried, open_meters}
use Rattle.carried_books.specs.declared.carrying.commands.TimedCommand.{TimedCommand}
use Rattle.carried_books.specs.declared.carrying.faults.CarryFault.{CarryFault}
use Rattle.carried_books.specs.declared.carrying.faults.CarryFault.TheVariants.{Old, New, NotYet}
use Rattle.carried_books.specs.declared.carrying.plans.Plan.{Plan}
use Rattle.carried_books.specs.declared.carrying.plans.Plan.TheVariants as plan
use Rattle.carried_books.specs.declared.carrying.plans.Plan.TheVariants.{Ready}

-- States that, if the old database file has returned no wrong result, then the property `says`
-- holds for the records of this file.
abbrev pub OfOld : (old new : Ledger) → (List Fact → Type 0) → Type 0
OfOld old new says = (known : List Fact) → old.holds known → new.is_clean → says known

-- The office (event engine) of the new file executed all commands of the change to a new database
-- file. These commands follow from the old file's records and install `meters` meters.
pub record IsCarried {N : Type 0} (old new : Ledger) (until : Option ℕ) (ledger : N → Ledger)
    (before after : Office N) (meters : ℕ) : Type 0 where
  pub commands : List TimedCommand
  pub are : OfOld old new (λ known. AreCarried known until commands meters)
  pub fed : After ledger before after (λ past. AreFed ledger past commands before after)

-- The office (event engine) of a new database file refused one of the commands that set up the
-- file. The office is in the state after the commands before the refused one.
pub record IsBrokenOff {N : Type 0} (old new : Ledger) (until : Option ℕ) (ledger : N → Ledger)
    (before after : Office N) (why : Refusal) : Type 0 where
  pub commands : List TimedCommand
  pub meters : ℕ
  pub are : OfOld old new (λ known. AreCarried known until commands meters)
  pub fed : After ledger before after (λ past. AreFedUpTo ledger past commands before after why)

-- An open meter of the old database file has no valid (not voided) entry up to the timestamp
-- `until`. A new file can't continue this meter, and received no command.
pub record WaitsFor {N : Type 0} (old new : Ledger) (until : Option ℕ) (before after : Office N)
    (meter : List ℕ) : Type 0 where
  pub none : after ≡ before
  pub are : OfOld old new (λ known. IsNotYet known until (open_meters known) meter)

-- The contract of a file rollover, the change to a new database file: what each result means.
--
-- A successful file rollover returns the number of installed meters. A fault is one of three: the
-- new file's office (event engine) refused a command, an open meter has no valid (not voided)
-- entry, or the old database or memory failed. In the last two cases, the new office received no
-- command.
abbrev pub Carries : {N : Type 0} → (old new : Ledger) → (until : Option ℕ) → (N → Ledger)
    → (before after : Office N) → Result ℕ CarryFault → Type 0
Carries old new until ledger before after (Ok meters) =
    IsCarried old new until ledger before after meters
Carries old new until ledger before after (Err (New why)) =
    IsBrokenOff old new until ledger before after why
Carries old new until ledger before after (Err (NotYet meter)) =
    WaitsFor old new until before after meter
Carries old new until ledger before after (Err (Old why)) = after ≡ before

-- The new file's office (event engine) followed the plan of a file rollover: it executed all
-- commands of the plan, or refused a command.
--
-- If the plan of a file rollover names a meter that has no entry to continue from, the office
-- (event engine) of the new file received no command.
abbrev pub Follows : {N : Type 0} → (N → Ledger) → Plan → (before after : Office N)
    → Result ℕ CarryFault → Type 0
Follows ledger (Ready commands meters) before after (Ok n) =
    (n ≡ meters) × After ledger before after
    (λ past. AreFed ledger past commands.items before after)
Follows ledger (Ready commands meters) before after (Err (New why)) =
    After ledger before after (λ past. AreFedUpTo ledger past commands.items before after why)
Follows ledger (plan.NotYet meter) before after (Err (NotYet name)) =
    (name ≡ meter) × (after ≡ before)
Follows ledger _ before after _ = ⊥

-- The database of the old file failed or memory ran out, and the refusal `why` reports that
-- failure.
pub record FailedBy (before after : Failures) (why : Refusal) : Type 0 where
  pub fault : BooksFault
  pub is : why ≡ as_refusal fault
  pub failures : FailuresAfterCalls {T = Unit {0}} (Err fault) before after

-- The failure counts of the old database change only if the file rollover's result reports a
-- failure of that database.
abbrev pub ReportsFailures : (before after : Failures) → Result ℕ CarryFault → Type 0
ReportsFailures before after (Ok meters) = after ≡ before
ReportsFailures before after (Err (New why)) = after ≡ before
ReportsFailures before after (Err (NotYet meter)) = after ≡ before
ReportsFailures before after (Err (Old why)) = FailedBy before after why

-- The old database file was only queried: its records and its time zone are unchanged, and so is
-- the set of records that may remain after a crash.
pub record OnlyAsked (old new : Ledger) (result : Result ℕ CarryFault) : Type 0 where
  pub keeps : KeepsFacts old new
  pub failures : ReportsFailures old.failures new.failures result
  pub clean : new.is_clean → old.is_clean
  pub zone : new.zone ≡ old.zone
