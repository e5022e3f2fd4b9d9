-- Defines what the record at a given index of the list of records contains. Index 0 is the record
-- that was added first.
use Rattle.std.specs.Prelude.{ℕ, List, Option, Some, None, if◌then◌else◌}
use Rattle.std.specs.List.{slice_get}
use Rattle.std.specs.Option.{option_and_then, option_map}
use Rattle.mb_wire.specs.declared.span.ReadSpan.{ReadSpan}
use Rattle.office_events.specs.declared.facts.Register.{Register}
use Rattle.office_events.specs.declared.facts.Opening.{Opening}
use Rattle.office_events.specs.declared.facts.Fact.{Fact}
use Rattle.read_plan.specs.PlannedLists.{Planned}
use Rattle.office_books.specs.declared.books.Repeat.{Repeat}
use Rattle.office_books.specs.Repeats.{as_repeat}
use Rattle.office_books.specs.Facts.{as_register, as_opening, as_list, as_reply, if_some}
use Rattle.office_books.specs.Readings.{is_read_by}

-- The point list (the Modbus registers to read) in a record, or `None` if the record has no point
-- list or the list has no points.
abbrev pub listed : Fact → Option Planned
listed f = option_and_then (λ put. if_some put.list.points put.list) (as_list f)

-- Compares the given request with the request that is stored in a record, or returns `None` if the
-- record has no request.
abbrev pub repeated : (request : List ℕ) → Fact → Option Repeat
repeated request f = option_map (as_repeat request) (as_reply f)

-- The accounting register (a named energy counter) in the record at an index of the list of
-- records, or `None` if the record is of another kind.
abbrev pub register_at : List Fact → ℕ → Option Register
register_at facts place = option_and_then as_register (slice_get facts place)

-- The accounting register (a named energy counter) if the Modbus read covers the register,
-- otherwise `None`.
abbrev pub if_read : ReadSpan → Register → Option Register
if_read span register = if is_read_by span register then Some register else None

-- The accounting register (a named energy counter) in a record, or `None` if the record has no
-- accounting register that the Modbus read covers.
abbrev pub register_read : ReadSpan → Fact → Option Register
register_read span f = option_and_then (if_read span) (as_register f)

-- The accounting register (a named energy counter) in the record at the index `place`. `None` if
-- the record has no accounting register that the Modbus read `span` covers.
abbrev pub register_read_at : ReadSpan → List Fact → ℕ → Option Register
register_read_at span facts place = option_and_then (register_read span) (slice_get facts place)

-- The opening, which is the record that installs a meter, at an index of the records. `None` if the
-- record at the index is of another kind.
abbrev pub opening_at : List Fact → ℕ → Option Opening
opening_at facts place = option_and_then as_opening (slice_get facts place)

-- The point list (the Modbus registers to read) in the record at an index. `None` if the record has
-- no point list or the list has no points.
abbrev pub list_at : List Fact → ℕ → Option Planned
list_at facts place = option_and_then listed (slice_get facts place)

-- Compares the given request with the request that is stored in the record at an index, or returns
-- `None` if the record has no request.
abbrev pub repeat_at : (request : List ℕ) → List Fact → ℕ → Option Repeat
repeat_at request facts place = option_and_then (repeated request) (slice_get facts place)
