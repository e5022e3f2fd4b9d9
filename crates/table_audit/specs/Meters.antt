-- Defines when the rows of all meters have no discrepancy, and which discrepancies an audit
-- reports.
use Rattle.std.specs.Prelude.{⊤, ◌≡◌, ◌↔◌, ◌+◌, ℕ, suc, min, ◌^◌, ◌-◌, List, [], ◌∷◌, map, filter_map, length, true, Option, Some, None, Ok}
use Rattle.std.specs.List.{AllByRecursion}
use Rattle.std.specs.Option.{option_and_then}
use Rattle.sqlite.specs.Order.{Row, column}
use Rattle.store_tables.specs.Content.{Content}
use Rattle.store_tables.specs.Meters.Rows.{installation_in}
use Rattle.store_tables.specs.declared.meters.rows.InstallationRow.{InstallationRow}
use Rattle.table_audit.specs.declared.findings.Counts.{Counts}
use Rattle.table_audit.specs.declared.findings.Findings.{Findings}
use Rattle.table_audit.specs.declared.rows.MeterRows.{MeterRows}
use Rattle.table_audit.specs.declared.spans.MeterSpan.{MeterSpan}
use Rattle.table_audit.specs.Fine.{IsFine}
use Rattle.table_audit.specs.Reading.{name_in}
use Rattle.table_audit.specs.Showing.{AreRowsOf, ShowsInstallations}
use Rattle.table_audit.specs.Spans.{span_of, never_overlap}

-- States that a row of `installations` has the index `place`, a register's name and values in their
-- ranges, and that the meter's other rows have no discrepancy.
pub record IsFineMeter (place : ℕ) (row : Row) (rows : MeterRows) : Type 0 where
  pub installation : InstallationRow
  pub read : installation_in row ≡ Ok installation
  pub placed : installation.place ≡ place
  pub register : List ℕ
  pub register_named : name_in (column row 2) ≡ Some register
  pub fine : IsFine installation rows

-- A row of `installations`, paired with the rows that its meter has in the other tables. `rows` is
-- None if the row of `installations` names no meter.
pub record LookedAt : Type 0 where
  pub row : Row
  pub rows : Option MeterRows

abbrev pub row_of : LookedAt → Row
row_of looked = looked.row

-- States that the tables have exactly the rows `rows` for the meter that `row` names. If `rows` is
-- None, then `row` has no valid name of a meter.
abbrev pub AreTheirs : Content → Row → Option MeterRows → Type 0
AreTheirs content row None = name_in (column row 1) ≡ None
AreTheirs content row (Some rows) =
    (name : List ℕ) × (name_in (column row 1) ≡ Some name) × AreRowsOf name content rows

-- States that an audited row of `installations` is paired with its meter's rows in the tables.
abbrev pub IsLookedUp : Content → LookedAt → Type 0
IsLookedUp content looked = AreTheirs content looked.row looked.rows

-- States that a row of `installations` has the index `place` and names a meter in whose rows an
-- audit finds no discrepancy.
abbrev pub IsFineAt : (place : ℕ) → Row → Option MeterRows → Type 0
IsFineAt place row None = ⊥
IsFineAt place row (Some rows) = IsFineMeter place row rows

-- States that each row of `installations` names a meter whose rows are those that the program would
-- write. The row indices count up from `place`. The SQL schema excludes two rows of one meter.
abbrev pub AreFineFrom : (place : ℕ) → List LookedAt → Type 0
AreFineFrom place [] = ⊤
AreFineFrom place (looked ∷ others) =
    IsFineAt place looked.row looked.rows × AreFineFrom (suc place) others

-- Definitions of how many rows an audit read. Each count is limited to 2^64 - 1.

-- The number `n` of rows that an audit read, limited to 2^64 - 1, the greatest 64-bit number.
abbrev pub up_to_most : ℕ → ℕ
up_to_most n = min n (2 ^ 64 - 1)

-- The counts of the rows that an audit read, at the beginning of the audit: all 0.
abbrev pub none_counted : Counts
none_counted = record { meters = 0; entries = 0; intervals = 0; polls = 0 }

-- Adds the number of a meter's entries to the count `n`, up to 2^64 - 1.
abbrev pub and_entries : Option MeterRows → ℕ → ℕ
and_entries None n = n
and_entries (Some rows) n = up_to_most (n + length rows.entries.items)

-- Adds the number of a meter's interval rows (energies of quarter hours) to the count `n`, up to
-- 2^64 - 1.
abbrev pub and_intervals : Option MeterRows → ℕ → ℕ
and_intervals None n = n
and_intervals (Some rows) n = up_to_most (n + length rows.intervals.items)

-- The counts of the rows that an audit read, after one more row of `installations` and the other
-- rows of its meter are counted.
abbrev pub counted : Option MeterRows → Counts → Counts
counted rows counts = record {
  meters = up_to_most (counts.meters + 1);
  entries = and_entries rows counts.entries;
  intervals = and_intervals rows counts.intervals;
  polls = counts.polls;
}

-- The counts of the rows that an audit read, after several rows of `installations` and the other
-- rows of their meters are counted.
abbrev pub counted_from : Counts → List LookedAt → Counts
counted_from counts [] = counts
counted_from counts (looked ∷ others) = counted_from (counted looked.rows counts) others

-- The time during which the meter of a row of `installations` is installed at its register. The
-- result is None if a value of the meter's rows that gives this time can't be parsed.
abbrev pub span_in : Row → Option MeterRows → Option MeterSpan
span_in row rows = option_and_then (span_of row) rows

-- The times during which the meters of several rows of `installations` are installed. A meter is
-- left out if a value of its rows that gives this time can't be parsed.
abbrev pub spans_in : List LookedAt → List MeterSpan
spans_in looked = filter_map (λ one. span_in one.row one.rows) looked

-- The effect of auditing one row of `installations`. The meter's rows are counted. The findings are
-- empty afterwards if and only if they were empty before and these rows have no discrepancy.
pub record ReportsRow (content : Content) (place : ℕ) (row : Row) (span : Option MeterSpan)
    (old new : Findings) : Type 0 where
  pub rows : Option MeterRows
  pub theirs : AreTheirs content row rows
  pub reported : (new.first.items ≡ []) ↔ ((old.first.items ≡ []) × IsFineAt place row rows)
  pub counts : new.counts ≡ counted rows old.counts
  pub span_is : span ≡ span_in row rows

-- The result of auditing several rows of `installations`, before the meters of each register are
-- compared. The findings are empty if and only if no row of these meters has a discrepancy.
pub record ReportsEach (rows : List Row) (content : Content) (found : Findings)
    (spans : List MeterSpan) : Type 0 where
  pub looked : List LookedAt
  pub each : map row_of looked ≡ rows
  pub theirs : AllByRecursion (IsLookedUp content) looked
  pub reported : (found.first.items ≡ []) ↔ AreFineFrom 1 looked
  pub counts : found.counts ≡ counted_from none_counted looked
  pub spans_are : spans ≡ spans_in looked

-- The result of auditing several rows of `installations`. The findings are empty if and only if no
-- row of these meters has a discrepancy, and no two meters overlap at a register.
pub record ReportsRows (rows : List Row) (content : Content) (found : Findings) : Type 0 where
  pub looked : List LookedAt
  pub each : map row_of looked ≡ rows
  pub theirs : AllByRecursion (IsLookedUp content) looked
  pub reported : (found.first.items ≡ [])
      ↔ (AreFineFrom 1 looked × (never_overlap (spans_in looked) ≡ true))
  pub counts : found.counts ≡ counted_from none_counted looked

-- The contract of the audit of all rows of the table `installations` (the meters). The audit counts
-- the rows, and reports a discrepancy exactly if some row has one.
pub record ReportsMeters (content : Content) (found : Findings) : Type 0 where
  pub rows : List Row
  pub shown : ShowsInstallations content rows
  pub reports : ReportsRows rows content found
