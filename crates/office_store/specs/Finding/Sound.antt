-- Definitions of when rows can be read: their numbers must be in the ranges of the table, and their
-- texts must be valid names.
use Rattle.std.specs.Prelude.{◌≡◌, ℕ, List, map, true, string_bytes}
use Rattle.std.specs.List.{AllByRecursion}
use Rattle.office_events.specs.declared.facts.Fact.{Fact}
use Rattle.office_events.specs.Names.{is_name}
use Rattle.office_books.specs.Facts.{devices_in, registers_in, polls_in, ended_in, replies_in}
use Rattle.store_tables.specs.Devices.Rows.{Added, Registered, IsSoundAdded, IsSoundRegistered}
use Rattle.store_tables.specs.Polls.Rows.{Started, IsSoundStarted, IsSoundOutcome, IsSoundKept}
use Rattle.office_store.specs.Rows.{placed, added, registered, started, outcome_row, kept}

-- True if the numbers of a device's row are in their ranges, and its text is a valid name.
pub record IsReadableDevice (d : Added) : Type 0 where
  pub row : IsSoundAdded d
  pub name : is_name d.name ≡ true

-- True if the numbers in the row of an accounting register (a named energy counter) are in their
-- ranges, and its texts are valid names.
pub record IsReadableRegister (r : Registered) : Type 0 where
  pub row : IsSoundRegistered r
  pub name : is_name r.name ≡ true
  pub device : is_name r.device ≡ true

-- True if the numbers of a poll's row are in their ranges, and its text is a valid name.
pub record IsReadablePoll (p : Started) : Type 0 where
  pub row : IsSoundStarted p
  pub device : is_name p.device ≡ true

-- True if every row of `devices` can be read.
abbrev pub HasReadableDevices : List Fact → Type 0
HasReadableDevices facts = AllByRecursion IsReadableDevice (placed added (devices_in facts))

-- True if every row of `registers` can be read.
abbrev pub HasReadableRegisters : List Fact → Type 0
HasReadableRegisters facts =
    AllByRecursion IsReadableRegister (placed registered (registers_in facts))

-- True if every row of the table `polls` can be parsed as a started poll.
abbrev pub HasReadablePolls : List Fact → Type 0
HasReadablePolls facts = AllByRecursion IsReadablePoll (map started (polls_in facts))

-- True if every row of the table `outcomes` (how polls ended) can be parsed.
abbrev pub HasReadableOutcomes : List Fact → Type 0
HasReadableOutcomes facts = AllByRecursion IsSoundOutcome (map outcome_row (ended_in facts))

-- True if every row of the table `replies` (stored responses to requests with idempotency keys) can
-- be parsed.
abbrev pub HasReadableReplies : List Fact → Type 0
HasReadableReplies facts = AllByRecursion IsSoundKept (map kept (replies_in facts))
