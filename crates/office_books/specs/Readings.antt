-- The readings of a device's meters in the response to a poll.
use Rattle.std.specs.Prelude.{ℕ, ℤ, ◌+◌, ◌-◌, ◌==◌, nat_le, Bool, true, ◌&&◌, List, [], ◌∷◌, Option, Some, None, slice_index, if◌then◌else◌}
use Rattle.std.specs.Option.{option_map}
use Rattle.energy_core.specs.declared.entries.Entry.TheVariants.{Step}
use Rattle.energy_core.specs.declared.verdicts.Reading.{Reading}
use Rattle.energy_core.specs.declared.verdicts.Verdict.{Verdict}
use Rattle.energy_core.specs.declared.verdicts.Verdict.TheVariants.{Accepted, Held}
use Rattle.energy_core.specs.Verdict.{verdict_of}
use Rattle.mb_wire.specs.Spans.{code_of}
use Rattle.mb_wire.specs.declared.span.ReadSpan.{ReadSpan}
use Rattle.sun_points.specs.Counters.{acc32_value, scale_value}
use Rattle.office_events.specs.declared.facts.Register.{Register}
use Rattle.office_events.specs.declared.facts.Poll.{Poll}
use Rattle.office_events.specs.declared.facts.ScaleSource.{ScaleSource}
use Rattle.office_events.specs.declared.facts.ScaleSource.TheVariants as source
use Rattle.meter_journal.specs.declared.lines.EntryKind.TheVariants as kind
use Rattle.office_events.specs.declared.facts.Fact.{Fact}
use Rattle.office_events.specs.declared.facts.Fact.TheVariants as fact
use Rattle.office_events.specs.declared.questions.Installation.{Installation}
use Rattle.office_events.specs.declared.questions.PollRow.{PollRow}
use Rattle.office_books.specs.Facts.{registers_of, poll_of, end_of}
use Rattle.office_books.specs.Meters.{open_at}

-- A poll, together with its recorded outcome if it has one.
abbrev pub poll_row : List Fact → Poll → PollRow
poll_row facts poll = record { poll = poll; ended = end_of facts poll.number }

-- The poll with a given number, together with its recorded outcome if it has one. `None` if the
-- poll was not started.
abbrev pub poll_row_of : List Fact → ℕ → Option PollRow
poll_row_of facts number = option_map (poll_row facts) (poll_of facts number)

-- True if a read contains `count` Modbus registers from `address` on.
abbrev pub contains : ReadSpan → (address count : ℕ) → Bool
contains span address count =
    nat_le span.address address && nat_le (address + count) (span.address + span.count)

-- True if a read contains the Modbus register of a scale factor, or if the scale factor is fixed.
abbrev pub contains_scale : ReadSpan → ScaleSource → Bool
contains_scale span (source.Fixed sf) = true
contains_scale span (source.Register address) = contains span address 1

-- True if a read covers an accounting register (an energy counter): the function codes are equal,
-- and the read contains the accounting register's counter and scale factor.
abbrev pub is_read_by : ReadSpan → Register → Bool
is_read_by span register =
    (code_of span.function == code_of register.function) && contains span register.address 2
    && contains_scale span register.scale

-- The value of the Modbus register at `address` in the response to a read.
abbrev pub word_at : ReadSpan → (words : List ℕ) → (address : ℕ) → ℕ
word_at span words address = slice_index words (address - span.address)

-- The scale factor of an accounting register (an energy counter), either fixed or taken from the
-- response to a read.
abbrev pub scale_of : ReadSpan → List ℕ → ScaleSource → ℤ
scale_of span words (source.Fixed sf) = sf
scale_of span words (source.Register address) = scale_value (word_at span words address)

-- The reading of an accounting register (an energy counter) in a response: its counter, from two
-- Modbus registers with the high word first, and its scale factor.
abbrev pub reading_of : ℕ → ReadSpan → List ℕ → Register → Reading
reading_of at span words register = record {
  at = at;
  raw =
      acc32_value (word_at span words register.address) (word_at span words (register.address + 1));
  sf = scale_of span words register.scale;
}

-- The verdict on a reading, judged by the present state of an installed meter.
abbrev pub judgement : Installation → Reading → Verdict
judgement row reading =
    verdict_of row.opening.range (record { ceiling = row.opening.ceiling; total = row.total })
    row.last reading

-- The record of a reading with a given verdict. An accepted reading is recorded as an entry of its
-- meter, and a rejected reading is recorded with its cause.
abbrev pub as_fact : (meter : List ℕ) → (poll : ℕ) → Reading → Verdict → Fact
as_fact meter poll reading (Accepted rolls step) =
    fact.Entry (record
    { meter = meter; kind = kind.Reading; entry = Step reading.at reading.raw rolls })
as_fact meter poll reading (Held cause) =
    fact.Hold (record {
      meter = meter;
      poll = poll;
      at = reading.at;
      raw = reading.raw;
      sf = reading.sf;
      cause = cause;
    })

-- The record of a reading of an installed meter, judged by the meter's present state.
abbrev pub reading_fact : (poll : ℕ) → Reading → Installation → Fact
reading_fact poll reading row = as_fact row.opening.meter poll reading (judgement row reading)

-- The records after a reading of the open meter is added. Without an open meter (`None`), nothing
-- is added.
abbrev pub with_reading : (poll : ℕ) → Reading → Option Installation → List Fact → List Fact
with_reading poll reading None facts = facts
with_reading poll reading (Some row) facts = reading_fact poll reading row ∷ facts

-- The records after the reading that a response has for an accounting register (an energy counter)
-- is added. If the read does not cover the register, nothing is added.
abbrev pub with_register : ℕ → Poll → List ℕ → Register → List Fact → List Fact
with_register at poll words register facts =
    if is_read_by poll.span register
    then with_reading poll.number (reading_of at poll.span words register)
    (open_at facts register.name) facts
    else facts

-- The records after the readings that a response has for several accounting registers (energy
-- counters) are added, in order.
abbrev pub with_registers : ℕ → Poll → List ℕ → List Register → List Fact → List Fact
with_registers at poll words [] facts = facts
with_registers at poll words (register ∷ registers) facts =
    with_registers at poll words registers (with_register at poll words register facts)

-- The records after all readings in the response to a poll are added. Each covered accounting
-- register (an energy counter) of the device adds one reading, in the order in which the registers
-- were added.
abbrev pub with_reply : ℕ → Option Poll → List ℕ → List Fact → List Fact
with_reply at None words facts = facts
with_reply at (Some poll) words facts =
    with_registers at poll words (registers_of facts poll.device) facts
