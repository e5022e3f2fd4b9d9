-- Definitions of the table rows that encode each kind of record of the store, such as devices,
-- meter entries and polls.
use Rattle.std.specs.Prelude.{◌≡◌, ℕ, ℤ, ◌+◌, ◌≤◌, IsTrue, true, false, List, [], ◌∷◌, length, map, Vec, Option, Some, None}
use Rattle.std.specs.List.{find}
use Rattle.mb_wire.specs.declared.span.ReadFunction.{ReadFunction}
use Rattle.energy_core.specs.declared.entries.Last.{Last}
use Rattle.energy_core.specs.declared.entries.Entry.{Entry}
use Rattle.energy_core.specs.declared.entries.Entry.TheVariants as entry
use Rattle.energy_core.specs.Account.{moment_of, last_of}
use Rattle.interval_core.specs.declared.shares.Share.{Share}
use Rattle.meter_journal.specs.Journal.{entries_in}
use Rattle.meter_journal.specs.declared.lines.EntryRow as journal
use Rattle.meter_journal.specs.declared.lines.EntryKind as journal_kind
use Rattle.meter_journal.specs.declared.lines.EntryKind.TheVariants as from
use Rattle.point_list.specs.declared.point.ListedPoint.{ListedPoint}
use Rattle.point_list.specs.RowTexts.{type_text, scale_text}
use Rattle.office_events.specs.declared.limits.TheConstants.{LAST_COUNTER}
use Rattle.office_events.specs.declared.facts.Device.{Device}
use Rattle.office_events.specs.declared.facts.DeviceList.{DeviceList}
use Rattle.office_events.specs.declared.facts.Register.{Register}
use Rattle.office_events.specs.declared.facts.ScaleSource.{ScaleSource}
use Rattle.office_events.specs.declared.facts.ScaleSource.TheVariants as source
use Rattle.office_events.specs.declared.facts.Opening.{Opening}
use Rattle.office_events.specs.declared.facts.HeldReading.{HeldReading}
use Rattle.office_events.specs.declared.facts.VoidedEntry.{VoidedEntry}
use Rattle.office_events.specs.declared.facts.Poll.{Poll}
use Rattle.office_events.specs.declared.facts.EndedPoll.{EndedPoll}
use Rattle.office_events.specs.declared.facts.Reply.{Reply}
use Rattle.office_events.specs.declared.facts.Fact.{Fact}
use Rattle.office_events.specs.declared.questions.Installation.{Installation}
use Rattle.office_books.specs.Facts.{same, lists_in, opening_of}
use Rattle.office_books.specs.Meters.{opened, rows_of, installation_of}
use Rattle.store_tables.specs.Columns.{is_within}
use Rattle.store_tables.specs.Limits.{IsPlace, latest_moment}
use Rattle.store_tables.specs.declared.devices.rows.RegisterScale.{RegisterScale}
use Rattle.store_tables.specs.declared.devices.rows.RegisterScale.TheVariants as scale
use Rattle.store_tables.specs.declared.devices.rows.Point.{Point}
use Rattle.store_tables.specs.declared.devices.rows.PointRow.{PointRow}
use Rattle.store_tables.specs.declared.devices.rows.RegisterRow.{RegisterRow}
use Rattle.store_tables.specs.Devices.Rows.{Added, Listed, Registered, IsSoundRegister, IsSoundScale, fits_a_read, listed_at}
use Rattle.store_tables.specs.declared.meters.rows.LastRow.{LastRow}
use Rattle.store_tables.specs.Meters.Rows.{Installed, Ranged, IsRange, greatest_ceiling}
use Rattle.store_tables.specs.declared.entries.rows.EntryRow.{EntryRow}
use Rattle.store_tables.specs.declared.entries.rows.EntryKind.{EntryKind}
use Rattle.store_tables.specs.declared.entries.rows.EntryKind.TheVariants as kind
use Rattle.store_tables.specs.Entries.Rows.{Entered, Voided}
use Rattle.office_store.specs.Intervals.Rows.{Interval}
use Rattle.store_tables.specs.declared.polls.rows.OutcomeRow.{OutcomeRow}
use Rattle.store_tables.specs.Polls.Rows.{Started, Held, Kept}

-- The rows that encode the elements of a list that is sorted latest first. The oldest element has
-- index 1.
abbrev pub placed : {X Y : Type 0} → (row : ℕ → X → Y) → List X → List Y
placed row [] = []
placed row (x ∷ xs) = row (length xs + 1) x ∷ placed row xs

-- The rows that encode the elements of a list, in the order of the list. The first row has index
-- `before` + 1.
abbrev pub placed_on : {X Y : Type 0} → (row : ℕ → X → Y) → (before : ℕ) → List X → List Y
placed_on row before [] = []
placed_on row before (x ∷ xs) = row (before + 1) x ∷ placed_on row (before + 1) xs

-- The row of `devices` that encodes a device.
abbrev pub added : (place : ℕ) → Device → Added
added place device = record {
  name = device.name;
  row = record {
    place = place;
    unit = device.unit;
    timeout = device.timeout;
    window = device.window;
  };
}

abbrev pub point_row : (place : ℕ) → ReadFunction → (area address : ℕ) → PointRow
point_row place function area address =
    record { place = place; function = function; area = area; address = address }

-- The row of `points` that encodes a SunSpec point of a device's point list.
abbrev pub listed : (device : List ℕ) → (place : ℕ) → ListedPoint → Listed
listed device place point = record {
  device = device;
  name = point.name;
  kind = type_text point.kind;
  scale = scale_text point.scale;
  row = record {
    place = place;
    function = point.function;
    area = point.area;
    address = point.address;
  };
}

-- True if `row` has the columns of a SunSpec point at index `place` of a point list.
abbrev pub IsPlacedPoint : (place : ℕ) → ListedPoint → Point → Type 0
IsPlacedPoint place point row = (device : List ℕ) → listed_at device row ≡ listed device place point

-- True if `rows` has the columns of all SunSpec points of a complete point list, with indices from
-- 1.
abbrev pub ArePlacedPoints : {Z : Type 0} → List ListedPoint → Vec Point Z → Type 0
ArePlacedPoints points rows =
    (device : List ℕ) → map (listed_at device) rows.items ≡ placed_on (listed device) 0 points

-- The SunSpec points of a device's point list, in order. A device without a list has no points.
abbrev pub points_put : Option DeviceList → List ListedPoint
points_put None = []
points_put (Some put) = put.list.points

-- The points of a device's latest point list in the records, in order.
abbrev pub points_of : List Fact → (device : List ℕ) → List ListedPoint
points_of facts device = points_put (find (λ put. same put.device device) (lists_in facts))

-- The scale of an accounting register (a named energy counter), as the table `registers` stores it.
abbrev pub scale_as : ScaleSource → RegisterScale
scale_as (source.Fixed sf) = scale.Fixed sf
scale_as (source.Register address) = scale.At address

-- The row of `registers` that encodes an accounting register, a named counter of a device.
abbrev pub registered : (place : ℕ) → Register → Registered
registered place register = record {
  name = register.name;
  device = register.device;
  row = record {
    place = place;
    function = register.function;
    address = register.address;
    scale = scale_as register.scale;
  };
}

-- States when the row of an accounting register (a named energy counter) is in the ranges of the
-- table `registers`. Its index, address and scale must be valid, and one Modbus read must cover the
-- counter and its scale.
abbrev pub GivesSoundRow : (place : ℕ) → Register → RegisterRow → Type 0
GivesSoundRow place register row =
    IsPlace place → register.address ≤ LAST_COUNTER → IsSoundScale (scale_as register.scale)
    → fits_a_read register.address (scale_as register.scale) ≡ true → IsSoundRegister row

-- A meter's state at its installation: no energy, and not closed.
abbrev pub begun : Opening → Installation
begun opening = record { opening = opening; last = opened opening; total = 0; ended = false }

-- The columns of `installations` for a meter's last entry and total energy.
abbrev pub last_row : Installation → LastRow
last_row row =
    record { moment = row.last.at; raw = row.last.raw; sf = row.last.sf; total = row.total }

-- The row of `installations` that encodes a meter's state.
abbrev pub installed_as : (place : ℕ) → Installation → Installed
installed_as place row = record {
  meter = row.opening.meter;
  register = row.opening.register;
  row = record {
    place = place;
    ceiling = row.opening.ceiling;
    is_ended = row.ended;
    last = last_row row;
  };
}

-- The row of `installations` for a meter, given its opening (the record that installs the meter).
-- The row has the meter's state after all records.
abbrev pub installed_row : List Fact → (place : ℕ) → Opening → Installed
installed_row facts place opening = installed_as place (installation_of facts opening)

-- True if every number in an opening, the record that installs a meter, is in the range of its
-- column.
pub record IsSoundOpening (opening : Opening) : Type 0 where
  pub ceiling : (1 ≤ opening.ceiling) × (opening.ceiling ≤ greatest_ceiling)
  pub range : IsRange opening.range
  pub moment : opening.at ≤ latest_moment
  pub sf : IsTrue (is_within 3 opening.sf)

-- The row of `ranges` that encodes how many values a meter's counter has before it rolls over.
abbrev pub ranged : Opening → Ranged
ranged opening = record { meter = opening.meter; range = opening.range }

-- Definitions of the rows of `entries`. A meter's opening (its first entry, made at installation)
-- has index 1.

-- The kind of an entry, as the table `entries` stores it.
abbrev pub kind_as : journal_kind.EntryKind → EntryKind
kind_as from.Reading = kind.Reading
kind_as from.Manual = kind.Manual
kind_as from.Closing = kind.Closing
kind_as from.Reset = kind.Reset
kind_as from.Rescale = kind.Rescale

-- The counter's value at a meter entry. For a reset or a rescale (a change of the scale factor),
-- this is the value before the counter was set.
abbrev pub raw_of : Entry → ℕ
raw_of (entry.Step at raw rolls) = raw
raw_of (entry.Change at before after sf) = before

-- The number of times that the counter rolled over since the previous meter entry. A reset and a
-- rescale (a change of the scale factor) have no rollovers.
abbrev pub rolls_of : Entry → ℕ
rolls_of (entry.Step at raw rolls) = rolls
rolls_of (entry.Change at before after sf) = 0

-- The value that a reset or a rescale (a change of the scale factor) set the counter to. 0 for any
-- other meter entry.
abbrev pub after_of : Entry → ℕ
after_of (entry.Step at raw rolls) = 0
after_of (entry.Change at before after sf) = after

-- The row of `entries` that encodes a meter entry, with the scale factor after the entry.
abbrev pub entry_row : (sf : ℤ) → journal.EntryRow → EntryRow
entry_row sf row = record {
  place = row.place;
  kind = kind_as row.kind;
  moment = moment_of row.entry;
  raw = raw_of row.entry;
  rolls = rolls_of row.entry;
  after = after_of row.entry;
  sf = sf;
}

-- The row of `entries` that encodes an opening, the record that installs a meter, as the meter's
-- first entry.
abbrev pub opening_row : Opening → EntryRow
opening_row opening =
    record {
      place = 1;
      kind = kind.Opening;
      moment = opening.at;
      raw = opening.raw;
      rolls = 0;
      after = 0;
      sf = opening.sf;
    }

-- The counter's value after a meter entry. For a reset or a rescale (a change of the scale factor),
-- this is the value that the counter was set to.
abbrev pub raw_after : EntryKind → EntryRow → ℕ
raw_after kind.Reset e = e.after
raw_after kind.Rescale e = e.after
raw_after _ e = e.raw

-- The state of a meter's counter after an entry: timestamp, value and scale factor.
abbrev pub counter_after : EntryRow → Last
counter_after e = record { at = e.moment; raw = raw_after e.kind e; sf = e.sf }

abbrev pub entered : (meter : List ℕ) → EntryRow → Entered
entered meter row = record { meter = meter; entry = row }

-- The scale factor of a meter's counter after its entries that are not voided (cancelled).
abbrev pub scale_after : Opening → List journal.EntryRow → ℤ
scale_after opening rows = (last_of (opened opening) (entries_in rows)).sf

-- The rows of `entries` for one meter, the latest first: its opening (made at installation) and its
-- later entries. Each row has the scale factor after its entry.
abbrev pub entered_rows : Opening → List journal.EntryRow → List Entered
entered_rows opening [] = entered opening.meter (opening_row opening) ∷ []
entered_rows opening (row ∷ rows) =
    entered opening.meter (entry_row (scale_after opening (row ∷ rows)) row)
    ∷ entered_rows opening rows

-- The rows of `entries` for a meter, given its opening (the record that installs the meter). A
-- meter without an opening has no rows.
abbrev pub entries_at : List Fact → Option Opening → List Entered
entries_at facts None = []
entries_at facts (Some opening) = entered_rows opening (rows_of facts opening)

-- The rows of `entries` that encode the recorded entries of a meter.
abbrev pub entries_of : List Fact → (meter : List ℕ) → List Entered
entries_of facts meter = entries_at facts (opening_of facts meter)

-- The row of `voids` that encodes the cancellation of a meter's entry.
abbrev pub voided : VoidedEntry → Voided
voided void = record { meter = void.meter; place = void.place; moment = void.at }

-- The row of `intervals` that encodes a meter's energy in a quarter hour.
abbrev pub interval_of : (meter : List ℕ) → Share → Interval
interval_of meter share = record { meter = meter; share = share }

-- The row of `polls` that encodes a poll.
abbrev pub started : Poll → Started
started poll = record {
  device = poll.device;
  row = record {
    number = poll.number;
    unit = poll.unit;
    started = poll.at;
    id = poll.id;
    function = poll.span.function;
    address = poll.span.address;
    count = poll.span.count;
  };
}

-- The row of `outcomes` that encodes how a poll ended.
abbrev pub outcome_row : EndedPoll → OutcomeRow
outcome_row ended = record { poll = ended.poll; moment = ended.at; outcome = ended.outcome }

-- The row of `holds` that encodes a rejected reading with its cause.
abbrev pub held_row : (place : ℕ) → HeldReading → Held
held_row place reading = record {
  meter = reading.meter;
  row = record {
    place = place;
    poll = reading.poll;
    moment = reading.at;
    raw = reading.raw;
    sf = reading.sf;
    cause = reading.cause;
  };
}

-- The row of `replies` that encodes an accepted request, which is stored to detect retries.
abbrev pub kept : Reply → Kept
kept given = record {
  caller = given.caller;
  number = given.number;
  request = given.request;
  kind = given.kind;
  moment = given.at;
}
