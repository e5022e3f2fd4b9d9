-- Conversions from rows of the tables to devices, accounting registers (named energy counters) and
-- polls.
use Rattle.std.specs.Prelude.{◌≡◌, ℕ, nat_le, ◌&&◌, if◌then◌else◌, List, Option, Some, None, Result, Ok, Err, string_bytes}
use Rattle.poll_core.specs.declared.limits.TheConstants.{MAX_TIMEOUT, MAX_WINDOW}
use Rattle.office_events.specs.Names.{named}
use Rattle.office_events.specs.declared.facts.Device.{Device}
use Rattle.office_events.specs.declared.facts.Register.{Register}
use Rattle.office_events.specs.declared.facts.ScaleSource.{ScaleSource}
use Rattle.office_events.specs.declared.facts.ScaleSource.TheVariants as source
use Rattle.office_events.specs.declared.facts.Poll.{Poll}
use Rattle.office_events.specs.declared.facts.EndedPoll.{EndedPoll}
use Rattle.store_tables.specs.declared.faults.RowFault.{RowFault}
use Rattle.store_tables.specs.Columns.{or_damaged, and_then}
use Rattle.store_tables.specs.declared.devices.rows.DeviceRow.{DeviceRow}
use Rattle.store_tables.specs.declared.devices.rows.RegisterRow.{RegisterRow}
use Rattle.store_tables.specs.declared.devices.rows.RegisterScale.{RegisterScale}
use Rattle.store_tables.specs.declared.devices.rows.RegisterScale.TheVariants as scale
use Rattle.store_tables.specs.Devices.Rows.{Added, Registered}
use Rattle.store_tables.specs.declared.polls.rows.PollRow.{PollRow}
use Rattle.store_tables.specs.declared.polls.rows.OutcomeRow.{OutcomeRow}
use Rattle.store_tables.specs.Polls.Rows.{Started}
use Rattle.store_tables.specs.declared.polls.rows.Repeat as kept
use Rattle.store_tables.specs.declared.polls.rows.Repeat.TheVariants as kept_as
use Rattle.office_books.specs.declared.books.Repeat.{Repeat}
use Rattle.office_books.specs.declared.books.Repeat.TheVariants.{Same, Other}
use Rattle.office_store.specs.Rows.{added, registered, started, outcome_row}

-- The device with the given name and numbers, or `Damaged` if the name is no valid name or a number
-- is out of its range.
abbrev pub device_with : (name : List ℕ) → DeviceRow → Result Device RowFault
device_with text row =
    and_then (or_damaged (named text)) (λ name.
    and_then (or_damaged
    (if nat_le 1 row.timeout && nat_le row.timeout MAX_TIMEOUT then Some row.timeout else None))
    (λ timeout.
    and_then (or_damaged
    (if nat_le 1 row.window && nat_le row.window MAX_WINDOW then Some row.window else None))
    (λ window.
    Ok (record { name = name; unit = row.unit; timeout = timeout; window = window }))))

-- True if a row of `devices` encodes no device other than the given one.
abbrev pub IsDeviceOf : Added → Device → Type 0
IsDeviceOf row device = (place : ℕ) (d : Device) → row ≡ added place d → device ≡ d

-- The source of the scale factor of an accounting register (a named energy counter): a fixed
-- exponent, or the address of a Modbus register.
abbrev pub source_from : RegisterScale → ScaleSource
source_from (scale.Fixed sf) = source.Fixed sf
source_from (scale.At address) = source.Register address

-- The accounting register (named counter of a device) with the given names and numbers, or
-- `Damaged` if a name is not valid or a number is out of its range.
abbrev pub register_with : (name device : List ℕ) → RegisterRow → Result Register RowFault
register_with text of row =
    and_then (or_damaged (named text)) (λ name.
    and_then (or_damaged (named of)) (λ device.
    Ok (record {
      name = name;
      device = device;
      function = row.function;
      address = row.address;
      scale = source_from row.scale;
    })))

-- True if a row of `registers` encodes no accounting register (named energy counter) other than the
-- given one.
abbrev pub IsRegisterOf : Registered → Register → Type 0
IsRegisterOf row register = (place : ℕ) (r : Register) → row ≡ registered place r → register ≡ r

-- True if a poll has the given name of a device, and the numbers of a row of `polls`.
pub record HasNumbers (name : List ℕ) (row : PollRow) (poll : Poll) : Type 0 where
  pub number : poll.number ≡ row.number
  pub device : poll.device ≡ name
  pub unit : poll.unit ≡ row.unit
  pub at : poll.at ≡ row.started
  pub id : poll.id ≡ row.id
  pub function : poll.span.function ≡ row.function
  pub address : poll.span.address ≡ row.address
  pub count : poll.span.count ≡ row.count

-- True if a row of `polls` encodes no poll other than the given one.
abbrev pub IsPollOf : Started → Poll → Type 0
IsPollOf row poll = (p : Poll) → row ≡ started p → poll ≡ p

-- The ended poll that a row of `outcomes` encodes: the poll's number, its outcome and the time of
-- its end.
abbrev pub ended_from : OutcomeRow → EndedPoll
ended_from row = record { poll = row.poll; at = row.moment; outcome = row.outcome }

-- Converts the result of comparing a request with the request that is stored under the same
-- idempotency key. The type `Repeat` of the tables becomes the type `Repeat` of the store's
-- interface.
abbrev pub repeat_from : kept.Repeat → Repeat
repeat_from (kept_as.Same kind) = Same kind
repeat_from kept_as.Other = Other
