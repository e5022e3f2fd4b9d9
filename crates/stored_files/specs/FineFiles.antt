-- Defines which interval rows (energy by quarter hour) the audited tables have for an accounting
-- register (an energy counter), and states that they can be added up by civil day.
use Rattle.std.specs.Prelude.{◌≡◌, ℕ, Bool, false, bytes_eq, List, [], map, filter, Option, Some, None, Result, Ok, Err}
use Rattle.std.specs.List.{AllByRecursion, flat_map}
use Rattle.interval_core.specs.Fold.{HasTaken}
use Rattle.interval_core.specs.declared.shares.Share.{Share}
use Rattle.office_books.specs.Registers.{CanBeFolded}
use Rattle.office_books.specs.Rows.{TakesAll}
use Rattle.office_books.specs.Spans.{rows_within}
use Rattle.office_books.specs.declared.spans.Span.{Span}
use Rattle.office_core.specs.DaySums.{HasAdded, TakesShare}
use Rattle.office_core.specs.declared.day_sink.DaySink.{DaySink}
use Rattle.sqlite.specs.Order.{Row, column}
use Rattle.store_tables.specs.Content.{Content}
use Rattle.store_tables.specs.declared.faults.RowFault.{RowFault}
use Rattle.table_audit.specs.Meters.{LookedAt, row_of, IsLookedUp}
use Rattle.table_audit.specs.Polls.{ReportsTables}
use Rattle.table_audit.specs.Reading.{all_in, name_in, share_in}
use Rattle.table_audit.specs.Showing.{ShowsInstallations}
use Rattle.table_audit.specs.declared.findings.Findings.{Findings}
use Rattle.table_audit.specs.declared.rows.MeterRows.{MeterRows}

-- True if a value of a column, which is a name or None, is the name `register`.
abbrev pub is_called : (register : List ℕ) → Option (List ℕ) → Bool
is_called register None = false
is_called register (Some name) = bytes_eq name register

-- True if an audited row of `installations` has a meter at the accounting register `register`.
abbrev pub is_at : (register : List ℕ) → LookedAt → Bool
is_at register one = is_called register (name_in (column one.row 2))

-- The interval rows (energy by quarter hour) that were parsed, or no rows if a row is damaged.
abbrev pub shares_read : Result (List Share) RowFault → List Share
shares_read (Ok shares) = shares
shares_read (Err fault) = []

-- The interval rows (energy by quarter hour) of one meter in the tables, in order of their starts.
abbrev pub shares_of : Option MeterRows → List Share
shares_of None = []
shares_of (Some rows) = shares_read (all_in share_in rows.intervals.items)

-- The interval rows (energy by quarter hour) of all meters of an accounting register in the tables,
-- one meter after another in the order of installation.
abbrev pub shares_at : (register : List ℕ) → List LookedAt → List Share
shares_at register looked = flat_map (λ one. shares_of one.rows) (filter (is_at register) looked)

-- States that a row of `installations` names a meter, and that no interval row (energy of a quarter
-- hour) of this meter is damaged.
abbrev pub AreWhole : Option MeterRows → Type 0
AreWhole None = ⊥
AreWhole (Some rows) = (shares : List Share) × (all_in share_in rows.intervals.items ≡ Ok shares)

-- States that a new sink (a consumer of rows) for sums by civil day adds all interval rows of the
-- list, unless memory runs out. The sink never fails because a row is out of order.
abbrev pub AddsAllUp : List Share → Type 0
AddsAllUp rows = (fresh after : DaySink) → fresh.fault ≡ None → HasTaken fresh.zone [] fresh.fold
    → TakesAll TakesShare fresh rows after → HasAdded after rows

-- States that the interval rows (energy by quarter hour) of each accounting register in the tables
-- can be added up by civil day, over each time span. `looked` has all rows of `installations`, each
-- with the other rows of its meter.
pub record IsReportable (content : Content) : Type 0 where
  pub rows : List Row
  pub shown : ShowsInstallations content rows
  pub looked : List LookedAt
  pub each : map row_of looked ≡ rows
  pub theirs : AllByRecursion (IsLookedUp content) looked
  pub whole : AllByRecursion (λ one. AreWhole one.rows) looked
  pub folds : (register : List ℕ) → CanBeFolded (shares_at register looked)
  pub adds_up : (register : List ℕ) (span : Span)
      → AddsAllUp (rows_within span (shares_at register looked))

-- Theorem: if an audit finds no discrepancy in the tables, their interval rows (energy by quarter
-- hour) can be added up by civil day. The rows of each accounting register are in order, because
-- each meter is closed before the next meter is opened.
abbrev pub FineRegistersAreInTurn : Type 0
FineRegistersAreInTurn = (content : Content) (found : Findings) → ReportsTables content found
    → found.first.items ≡ [] → IsReportable content
