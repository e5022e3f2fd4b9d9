-- The rules for adding a record to the earlier records, one rule for each kind of record.
use Rattle.std.specs.Prelude.{◌≡◌, ℕ, ◌≤◌, ◌<◌, true, List, [], ◌∷◌, Some, None, is_some}
use Rattle.poll_core.specs.declared.limits.TheConstants.{MAX_TIMEOUT, MAX_WINDOW}
use Rattle.energy_core.specs.declared.limits.TheConstants.{MAX_CEILING, MAX_RANGE, MIN_RANGE}
use Rattle.energy_core.specs.Account.{IsScale}
use Rattle.meter_journal.specs.Journal as journal
use Rattle.meter_journal.specs.Fitting as journals
use Rattle.read_plan.specs.PlannedLists.{IsPlanned}
use Rattle.office_events.specs.declared.limits.TheConstants.{LAST_UNIT}
use Rattle.office_events.specs.declared.facts.Device.{Device}
use Rattle.office_events.specs.declared.facts.DeviceList.{DeviceList}
use Rattle.office_events.specs.declared.facts.Register.{Register}
use Rattle.office_events.specs.declared.facts.Opening.{Opening}
use Rattle.office_events.specs.declared.facts.Poll.{Poll}
use Rattle.office_events.specs.declared.facts.EndedPoll.{EndedPoll}
use Rattle.office_events.specs.declared.facts.HeldReading.{HeldReading}
use Rattle.office_events.specs.declared.facts.Reply.{Reply}
use Rattle.office_events.specs.declared.facts.Fact.{Fact}
use Rattle.office_events.specs.declared.facts.Fact.TheVariants as fact
use Rattle.office_books.specs.Facts.{moment_limit, poll_limit, request_limit, moment_in, latest_in, device_of, register_of, opening_of, reply_of, poll_of, ends_of}
use Rattle.office_books.specs.Meters.{held_line, installed, journal_of, open_at}
use Rattle.office_books.specs.History.{next_poll}

-- True if a device may be added: no device has its name, and its Modbus unit, timeout and window
-- (number of concurrent polls) are in range.
pub record DeviceFits (facts : List Fact) (device : Device) : Type 0 where
  pub new : device_of facts device.name ≡ None
  pub unit : device.unit ≤ LAST_UNIT
  pub timeout : (1 ≤ device.timeout) × (device.timeout ≤ MAX_TIMEOUT)
  pub window : (1 ≤ device.window) × (device.window ≤ MAX_WINDOW)

-- True if a point list may be stored: its device exists, and the Modbus reads stored with the list
-- are those of its plan (the reads that cover its points).
pub record ListFits (facts : List Fact) (put : DeviceList) : Type 0 where
  pub device : is_some (device_of facts put.device) ≡ true
  pub planned : IsPlanned put.list

-- True if an accounting register (an energy counter) may be added: no accounting register has its
-- name, and its device exists.
pub record RegisterFits (facts : List Fact) (register : Register) : Type 0 where
  pub new : register_of facts register.name ≡ None
  pub device : is_some (device_of facts register.device) ≡ true

-- True if a meter may be installed: no meter has its name, and its accounting register (an energy
-- counter) exists and has no open meter. Also, no record has a later timestamp, and the meter's
-- counter value and limits are in range.
pub record OpeningFits (facts : List Fact) (opening : Opening) : Type 0 where
  pub new : opening_of facts opening.meter ≡ None
  pub free : open_at facts opening.register ≡ None
  pub register : is_some (register_of facts opening.register) ≡ true
  pub latest : latest_in facts ≤ opening.at
  pub range : (MIN_RANGE ≤ opening.range) × (opening.range ≤ MAX_RANGE)
  pub raw : opening.raw < opening.range
  pub scale : IsScale opening.sf
  pub ceiling : (1 ≤ opening.ceiling) × (opening.ceiling ≤ MAX_CEILING)

-- True if a line may be added to a meter's journal, the list of its entries, rejected readings and
-- voids (cancellations). The conditions: the meter is installed, and the journal's rules accept the
-- line.
pub record LineFits (facts : List Fact) (meter : List ℕ) (line : journal.Line) : Type 0 where
  pub opening : Opening
  pub there : opening_of facts meter ≡ Some opening
  pub fits : journals.Fits (installed opening) (journal_of facts opening.meter) line

-- True if a rejected reading may be recorded: its poll was started, and the rules for meter entries
-- accept it as the next line of its meter's journal (history).
pub record HoldFits (facts : List Fact) (held : HeldReading) : Type 0 where
  pub started : is_some (poll_of facts held.poll) ≡ true
  pub line : LineFits facts held.meter (held_line held)

-- True if a poll may be recorded: it has the next poll number, this number is within the limit, and
-- the poll's device exists.
pub record PollFits (facts : List Fact) (poll : Poll) : Type 0 where
  pub number : poll.number ≡ next_poll facts
  pub few : poll.number ≤ poll_limit
  pub device : is_some (device_of facts poll.device) ≡ true

-- True if an outcome may be recorded: its poll was started and has no outcome yet.
pub record EndFits (facts : List Fact) (ended : EndedPoll) : Type 0 where
  pub started : is_some (poll_of facts ended.poll) ≡ true
  pub pending : ends_of facts ended.poll ≡ []

-- True if the response to a request may be stored: no response is stored for its idempotency key
-- (caller and number), and the number is within the limit.
pub record ReplyFits (facts : List Fact) (reply : Reply) : Type 0 where
  pub new : reply_of facts reply.caller reply.number ≡ None
  pub number : reply.number ≤ request_limit

-- True if a record may be added to a list of records by the rule for the record's kind.
abbrev pub Fits : List Fact → Fact → Type 0
Fits facts (fact.Device device) = DeviceFits facts device
Fits facts (fact.List put) = ListFits facts put
Fits facts (fact.Register register) = RegisterFits facts register
Fits facts (fact.Opening opening) = OpeningFits facts opening
Fits facts (fact.Entry booked) =
    LineFits facts booked.meter (journal.Entered booked.kind booked.entry)
Fits facts (fact.Hold held) = HoldFits facts held
Fits facts (fact.Void voided) = LineFits facts voided.meter (journal.Voided voided.place)
Fits facts (fact.Poll poll) = PollFits facts poll
Fits facts (fact.Outcome ended) = EndFits facts ended
Fits facts (fact.Reply reply) = ReplyFits facts reply

-- True if records are lawful: the rules for adding records accept each record after the earlier
-- records, and no timestamp exceeds the latest supported timestamp (`moment_limit`).
abbrev pub AreLawful : List Fact → Type 0
AreLawful [] = Unit {0}
AreLawful (f ∷ facts) = (Fits facts f × (moment_in f ≤ moment_limit)) × AreLawful facts
