-- Defines the result rows of queries for devices, points, accounting registers (named energy
-- counters) and polls, as functions of the stored records.
use Rattle.std.specs.Prelude.{◌≡◌, ℕ, List, map, filter, reverse, Option, Vec}
use Rattle.sqlite.specs.Order.{Row}
use Rattle.office_events.specs.declared.facts.Fact.{Fact}
use Rattle.office_books.specs.Facts.{devices_in, registers_in, polls_in, pending_in, replies_in}
use Rattle.store_tables.specs.Answer.{IsFound}
use Rattle.store_tables.specs.declared.devices.rows.Register.{Register}
use Rattle.store_tables.specs.Devices.Rows.{device_shown, point_shown, register_shown, is_register, is_register_of, IsRegister}
use Rattle.store_tables.specs.declared.polls.rows.Poll.{Poll}
use Rattle.store_tables.specs.declared.polls.rows.Repeat.{Repeat}
use Rattle.store_tables.specs.Polls.Rows.{poll_shown, is_poll, IsStarted, is_reply, IsRepeat}
use Rattle.office_store.specs.Rows.{placed, placed_on, added, listed, points_of, registered, started, kept}

-- True if a query returns all devices, in the order in which they were added.
abbrev pub ShowsDevices : {Z : Type 0} → List Fact → Vec Row Z → Type 0
ShowsDevices facts rows = rows.items ≡ map device_shown (reverse (placed added (devices_in facts)))

-- True if a query returns the points of a device, in the order of its point list.
abbrev pub ShowsPoints : {Z : Type 0} → (device : List ℕ) → List Fact → Vec Row Z → Type 0
ShowsPoints device facts rows =
    rows.items ≡ map point_shown (placed_on (listed device) 0 (points_of facts device))

-- True if a query returns the accounting registers (named energy counters) of a device, in the
-- order in which they were added.
abbrev pub ShowsRegisters : {Z : Type 0} → (device : List ℕ) → List Fact → Vec Row Z → Type 0
ShowsRegisters device facts rows =
    rows.items ≡ map register_shown
    (reverse (filter (is_register_of device) (placed registered (registers_in facts))))

-- True if a query returns the polls without an outcome, in the order in which they were started.
abbrev pub ShowsPendingPolls : {Z : Type 0} → List Fact → Vec Row Z → Type 0
ShowsPendingPolls facts rows = rows.items ≡ map poll_shown (map started (pending_in facts))

-- True if the answer is the accounting register (named energy counter) with the name `name`. If no
-- register has this name, true if the answer is None.
abbrev pub FindsRegister : (name : List ℕ) → List Fact → Option Register → Type 0
FindsRegister name facts =
    IsFound (is_register name) IsRegister (placed registered (registers_in facts))

-- True if the answer is the poll with the number `number`, or None if no poll has the number.
abbrev pub FindsPoll : (number : ℕ) → List Fact → Option Poll → Type 0
FindsPoll number facts = IsFound (is_poll number) IsStarted (map started (polls_in facts))

-- True if the answer correctly says whether a request equals the request that is stored under its
-- idempotency key. None means that no request is stored under the key.
abbrev pub FindsRepeat : (caller : List ℕ) → (number : ℕ) → (request : List ℕ) → List Fact
    → Option Repeat → Type 0
FindsRepeat caller number request facts =
    IsFound (is_reply caller number) (IsRepeat request) (map kept (replies_in facts))
