-- The reading of a meter's counter for an input line with `@read`, which installs the meter at the
-- counter's present reading.
use Rattle.std.specs.Prelude.{◌≡◌, ◌⊎◌, ℕ, pos, List, true, Option, Some, None, is_some, Result, Ok, Err}
use Rattle.std.specs.Option.{option_and_then}
use Rattle.office_events.specs.declared.events.Asked.{Asked}
use Rattle.office_events.specs.declared.facts.Device.{Device}
use Rattle.office_events.specs.declared.facts.Fact.{Fact}
use Rattle.office_events.specs.declared.facts.Register.{Register}
use Rattle.office_events.specs.declared.refusals.Refusal.{Refusal}
use Rattle.office_books.specs.Facts.{device_of, register_of}
use Rattle.office_books.specs.History.{History, facts_of}
use Rattle.office_books.specs.Ledgers.{Ledger}
use Rattle.office_books.specs.declared.books.Repeat.{Repeat}
use Rattle.office_books.specs.declared.failures.Failures.{Failures}
use Rattle.office_core.specs.Failing.{IsOutside}
use Rattle.office_core.specs.Standing.{After, Stands}
use Rattle.office_core.specs.Taking.{failures_of}
use Rattle.office_core.specs.declared.office.Office.{Office}
use Rattle.office_program.specs.declared.entering.files.Shown.{Shown}
use Rattle.office_program.specs.declared.entering.read_line.ReadRequest.{ReadRequest}
use Rattle.office_program.specs.Entering.Doubts.{repeat_in}
use Rattle.office_program.specs.Entering.Lines.{Reporting}
use Rattle.office_program.specs.Entering.ReadLines as line
use Rattle.office_program.specs.Entering.ReadLines.{asked_at}

-- The comparison of a request with the stored request of the same key (caller and number), to
-- detect a retry. `None` if no such request is stored. The comparison does not depend on the
-- counter's reading.
abbrev pub repeat_of_read : List Fact → ReadRequest → Option Repeat
repeat_of_read facts read = repeat_in facts (asked_at read 0 (pos 0))

-- True if the counter of the accounting register was read from its device, with the result `shown`.
-- `None` means that the device gave no reading.
pub record IsCounterReported (reports : Reporting) (facts : List Fact) (register : Option (List ℕ))
    (shown : Option Shown) : Type 0 where
  pub counter : Register
  pub device : Device
  pub register_is : option_and_then (register_of facts) register ≡ Some counter
  pub device_is : device_of facts counter.device ≡ Some device
  pub reported : reports.counters device counter shown

-- True if the store has the accounting register, but not the register's device. Then the register's
-- counter can't be read.
pub record LacksDevice (facts : List Fact) (register : Option (List ℕ)) : Type 0 where
  pub counter : Register
  pub register_is : option_and_then (register_of facts) register ≡ Some counter
  pub none : device_of facts counter.device ≡ None

-- True if the counter can't be read, because the accounting register or its device does not exist
-- or the device gave no reading.
abbrev pub IsNotShown : Reporting → List Fact → (register : Option (List ℕ)) → Type 0
IsNotShown reports facts register =
    (option_and_then (register_of facts) register ≡ None) ⊎ LacksDevice facts register
    ⊎ IsCounterReported reports facts register None

-- True if the result is possible for an input line with `@read`: `Some` with the reading at which
-- the line installs its meter, or `None` if the meter's counter can't be read from the device.
--
-- If the store already has the request, any reading is possible, because the counter is not read.
-- Otherwise the reading is that of the accounting register's counter.
abbrev pub IsShownFor : Reporting → List Fact → ReadRequest → Option Shown → Type 0
IsShownFor reports facts read (Some shown) =
    (is_some (repeat_of_read facts read) ≡ true)
    ⊎ IsCounterReported reports facts (line.register_of read.line) (Some shown)
IsShownFor reports facts read None =
    (repeat_of_read facts read ≡ None) × IsNotShown reports facts (line.register_of read.line)

-- True if the request installs the meter at the reading that was found for the input line.
abbrev pub AsksShown : Reporting → List Fact → ReadRequest → Asked → Type 0
AsksShown reports facts read request =
    (shown : Shown) × IsShownFor reports facts read (Some shown)
    × (request ≡ asked_at read shown.raw shown.sf)

-- The next definitions give the event engine's answer to the query for a counter's reading.

-- States that on `Ok` the office (the event engine) found the requested reading of a counter, or
-- found that the store has none. On an error, the engine refused the query because of a failure.
abbrev pub HasShown : Reporting → List Fact → ReadRequest → (before after : Failures)
    → Result (Option Shown) Refusal → Type 0
HasShown reports facts read before after (Ok found) =
    IsShownFor reports facts read found × (after ≡ before)
HasShown reports facts read before after (Err why) = IsOutside ⊥ before after why

-- True if the event engine found the counter's reading for the input line, or refused the query
-- because of a failure. The engine's accepted events are still `past`, since a query records
-- nothing.
pub record IsFilled {B : Type 0} (ledger : B → Ledger) (reports : Reporting) (read : ReadRequest)
    (past : History) (before after : Failures) (office : Office B)
    (result : Result (Option Shown) Refusal) : Type 0 where
  pub stands : Stands ledger past office
  pub reported : HasShown reports (facts_of past) read before after result

-- The contract of finding the counter's reading for an input line. The definition `IsFilled` states
-- the result, whatever events the event engine accepted before.
abbrev pub Fills : {B : Type 0} → (B → Ledger) → Reporting → ReadRequest → (old new : Office B)
    → Result (Option Shown) Refusal → Type 0
Fills ledger reports read old new result = After ledger old new (λ past.
    IsFilled ledger reports read past (failures_of ledger old) (failures_of ledger new) new result)

-- The next definitions look up an accounting register, then its device, and then the reading of its
-- counter.

-- True if the result is possible for the accounting register's counter: `Some` with the counter's
-- reading, or `None` if the counter can't be read from the register's device.
abbrev pub IsCounterFor : Reporting → List Fact → (register : Option (List ℕ)) → Option Shown → Type 0
IsCounterFor reports facts register (Some shown) = IsCounterReported reports facts register (Some shown)
IsCounterFor reports facts register None = IsNotShown reports facts register

-- States that on `Ok` the event engine found the counter's reading or found that there is none. On
-- an error, the engine refused the query because of a failure.
abbrev pub HasCounter : Reporting → List Fact → (register : Option (List ℕ))
    → (before after : Failures) → Result (Option Shown) Refusal → Type 0
HasCounter reports facts register before after (Ok found) =
    IsCounterFor reports facts register found × (after ≡ before)
HasCounter reports facts register before after (Err why) = IsOutside ⊥ before after why

-- True if the event engine found the counter's reading, or refused the query because of a failure.
-- The engine's accepted events are still `past`, since a query records nothing.
pub record IsReadThere {B : Type 0} (ledger : B → Ledger) (reports : Reporting)
    (register : Option (List ℕ)) (past : History) (before after : Failures) (office : Office B)
    (result : Result (Option Shown) Refusal) : Type 0 where
  pub stands : Stands ledger past office
  pub reported : HasCounter reports (facts_of past) register before after result

-- The contract of reading the counter of an accounting register by the register's name. The
-- definition `IsReadThere` states the result, whatever events the event engine accepted before.
abbrev pub ReadsThere : {B : Type 0} → (B → Ledger) → Reporting → (register : Option (List ℕ))
    → (old new : Office B) → Result (Option Shown) Refusal → Type 0
ReadsThere ledger reports register old new result = After ledger old new (λ past.
    IsReadThere ledger reports register past (failures_of ledger old) (failures_of ledger new) new
    result)

-- The contract of reading the counter of an accounting register that was already looked up by its
-- name. The definition `IsReadThere` states the result for this name.
abbrev pub ReadsAt : {B : Type 0} → (B → Ledger) → Reporting → Register → (old new : Office B)
    → Result (Option Shown) Refusal → Type 0
ReadsAt ledger reports counter old new result = (register : Option (List ℕ)) → After ledger old new
    (λ past. option_and_then (register_of (facts_of past)) register ≡ Some counter
    → IsReadThere ledger reports register past (failures_of ledger old) (failures_of ledger new) new
    result)
