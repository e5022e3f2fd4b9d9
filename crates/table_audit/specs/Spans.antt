-- Defines when meters overlap at a register: a meter was opened there before an earlier meter was
-- closed.
use Rattle.std.specs.Prelude.{◌≡◌, ℕ, Bool, true, false, not, nat_le, bytes_eq, ◌&&◌, ◌||◌, List, [], ◌∷◌, ◌++◌, Option, Some, None, find, if◌then◌else◌}
use Rattle.std.specs.List.{list_all}
use Rattle.std.specs.Option.{option_and_then}
use Rattle.std.specs.Result.{result_ok}
use Rattle.sqlite.specs.Order.{Row, column}
use Rattle.store_tables.specs.Columns.{whole_in}
use Rattle.store_tables.specs.Limits.{latest_moment}
use Rattle.store_tables.specs.Meters.Rows.{installation_in}
use Rattle.store_tables.specs.declared.meters.rows.InstallationRow.{InstallationRow}
use Rattle.table_audit.specs.declared.differences.Difference.{Difference}
use Rattle.table_audit.specs.declared.differences.Difference.TheVariants.{Overlap}
use Rattle.table_audit.specs.declared.rows.MeterRows.{MeterRows}
use Rattle.table_audit.specs.declared.spans.MeterSpan.{MeterSpan}
use Rattle.table_audit.specs.Reading.{name_in}

-- The timestamp of a meter's opening, which is its first entry. The result is None if the meter has
-- no entry, or if the timestamp is out of range.
abbrev pub opened_in : (entries : List Row) → Option ℕ
opened_in [] = None
opened_in (row ∷ rows) = whole_in 0 latest_moment (column row 2)

-- The timestamp of a meter's closing, which is its last entry, or None if the meter is open.
abbrev pub closed_in : InstallationRow → Option ℕ
closed_in row = if row.is_ended then Some row.last.moment else None

-- The time during which a meter is installed at its register, from the meter's row of
-- `installations` and the meter's entries. The result is None if one of the values can't be parsed
-- (it is out of range, for example).
abbrev pub span_of : (installation : Row) → MeterRows → Option MeterSpan
span_of row rows =
    option_and_then (λ meter.
    option_and_then (λ register.
    option_and_then (λ opened.
    option_and_then (λ installation.
    Some (record {
      register = register;
      meter = meter;
      opened = opened;
      closed = closed_in installation;
    }))
    (result_ok (installation_in row)))
    (opened_in rows.entries.items))
    (name_in (column row 2)))
    (name_in (column row 1))

-- True if a meter was closed at or before the time `opened`.
abbrev pub is_closed_by : (closed : Option ℕ) → (opened : ℕ) → Bool
is_closed_by None opened = false
is_closed_by (Some closed) opened = nat_le closed opened

-- True if two meters are at different registers, or the earlier meter was closed when the later
-- meter was opened.
abbrev pub follows : (earlier later : MeterSpan) → Bool
follows earlier later =
    not (bytes_eq earlier.register later.register) || is_closed_by earlier.closed later.opened

-- True if the meters of each register follow each other: each was closed when the next ones were
-- opened. The list has the meters of all registers, in the order of their installation.
abbrev pub never_overlap : List MeterSpan → Bool
never_overlap [] = true
never_overlap (span ∷ spans) = list_all (follows span) spans && never_overlap spans

-- A list with the discrepancy that two meters overlap, or an empty list if there is no later meter.
abbrev pub overlap_with : (earlier : MeterSpan) → Option MeterSpan → List Difference
overlap_with earlier None = []
overlap_with earlier (Some later) = Overlap earlier.register earlier.meter later.meter ∷ []

-- The first of several later meters that overlaps an earlier meter, or None if none does.
abbrev pub first_overlap : (earlier : MeterSpan) → List MeterSpan → Option MeterSpan
first_overlap earlier spans = find (λ later. not (follows earlier later)) spans

-- The discrepancies of all meters that overlap a later meter. Each meter is reported with the first
-- later meter that it overlaps.
abbrev pub overlaps : List MeterSpan → List Difference
overlaps [] = []
overlaps (span ∷ spans) = overlap_with span (first_overlap span spans) ++ overlaps spans
