-- The state of the program after a history of accepted events.
use Rattle.std.specs.Prelude.{◌≡◌, ℕ, Bool, false, List, []}
use Rattle.office_events.specs.declared.answers.Note.{Note}
use Rattle.office_books.specs.History.{History, slots_of, latest_of}
use Rattle.office_core.specs.Sessions.Keeping.{KeepsSlots}
use Rattle.office_books.specs.Ledgers.{Ledger}
use Rattle.office_core.specs.declared.office.Office.{Office}
use Rattle.office_core.specs.Leaving.{BooksStand}

-- The store that the program uses.
abbrev pub books_in : {B : Type 0} → Office B → B
books_in office = office.books

-- True if the program has stopped, and refuses all further events.
abbrev pub is_stopped : {B : Type 0} → Office B → Bool
is_stopped office = office.stopped

-- The notifications of the last event that the program processed.
abbrev pub notes_in : {B : Type 0} → Office B → List Note
notes_in office = office.notes.items

-- The bytes that the program must send to a device after the last event that it processed.
abbrev pub outgoing_in : {B : Type 0} → Office B → List ℕ
outgoing_in office = office.outgoing

-- The state of the running program after a history of events: the latest accepted timestamp, and
-- for each device a slot with the state of its connection.
pub record Goes {B : Type 0} (past : History) (office : Office B) : Type 0 where
  pub latest : office.latest ≡ latest_of past
  pub slots : KeepsSlots office.slots.items (slots_of past)

-- True if the program's state follows from the history `past`. The store has the records of the
-- accepted events. Unless the program has stopped (it refuses all events), its slots have the state
-- of each device's connection.
pub record Stands {B : Type 0} (ledger : B → Ledger) (past : History)
    (office : Office B) : Type 0 where
  pub books : BooksStand (ledger office.books) past
  pub goes : office.stopped ≡ false → Goes past office

-- States that, if every wrong result of the store was detected, the program's state follows from
-- the history of accepted events.
abbrev pub StandsIfClean : {B : Type 0} → (B → Ledger) → History → Office B → Type 0
StandsIfClean ledger past office = (ledger (books_in office)).is_clean → Stands ledger past office

-- True if the program has not stopped (it would refuse all events), and has no notifications and no
-- bytes to send.
pub record IsFresh {B : Type 0} (office : Office B) : Type 0 where
  pub goes : is_stopped office ≡ false
  pub notes : notes_in office ≡ []
  pub outgoing : outgoing_in office ≡ []

-- States that, if every wrong result of the store was detected, a property holds for every history
-- of accepted events from which the program's state before the call follows.
abbrev pub After : {B : Type 0} → (B → Ledger) → (old new : Office B) → (History → Type 0) → Type 0
After ledger old new so =
    (past : History) → Stands ledger past old → (ledger (books_in new)).is_clean → so past
