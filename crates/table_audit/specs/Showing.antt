-- Defines the results of queries for a meter's rows, over tables with any content.
use Rattle.std.specs.Prelude.{◌≡◌, ℕ, Bool, false, bytes_eq, List, [], ◌∷◌}
use Rattle.std.specs.Ordering.{is_gt}
use Rattle.sqlite.specs.declared.types.Value.{Value}
use Rattle.sqlite.specs.declared.types.Value.TheVariants.{Null, Int, Real, Text, Blob}
use Rattle.sqlite.specs.Order.{Row, column, value_cmp}
use Rattle.store_tables.specs.Answer.{AnyOrder, every}
use Rattle.store_tables.specs.Asking.{Shows}
use Rattle.store_tables.specs.Content.{Content}
use Rattle.store_tables.specs.Entries.Trees as entry_tree
use Rattle.store_tables.specs.Meters.Trees as meter_tree
use Rattle.table_audit.specs.declared.rows.MeterRows.{MeterRows}

-- The number of the B-tree that stores the table `intervals`.
abbrev pub intervals_tree : ℕ
intervals_tree = 14

-- True if an SQL value is the text with the bytes `name`.
abbrev pub is_text : List ℕ → Value → Bool
is_text name (Text t) = bytes_eq t name
is_text name Null = false
is_text name (Int n) = false
is_text name (Real x) = false
is_text name (Blob b) = false

-- True if the first column of a table row has the meter's name.
abbrev pub is_of : (meter : List ℕ) → Row → Bool
is_of meter row = is_text meter (column row 0)

-- The ascending order of rows by their second column, as SQL compares values. This column has an
-- entry's index or a quarter hour's start.
abbrev pub InOrder : Row → Row → Type 0
InOrder row later = is_gt (value_cmp (column row 1) (column later 1)) ≡ false

-- The ascending order of rows by their first column, as SQL compares values.
abbrev pub InPlace : Row → Row → Type 0
InPlace row later = is_gt (value_cmp (column row 0) (column later 0)) ≡ false

-- The result row of a query for an installation: its index, the meter's name, and the other
-- columns.
abbrev pub installation_shown : Row → Row
installation_shown row =
    column row 0 ∷ column row 2 ∷ column row 3 ∷ column row 4 ∷ column row 5 ∷ column row 6
    ∷ column row 7 ∷ column row 8 ∷ column row 9 ∷ []

-- The result row of a query for a counter's range, without the meter's name.
abbrev pub range_shown : Row → Row
range_shown row = column row 1 ∷ []

-- The result row of a query for an entry, without the meter's name.
abbrev pub entry_shown : Row → Row
entry_shown row =
    column row 1 ∷ column row 2 ∷ column row 3 ∷ column row 4 ∷ column row 5 ∷ column row 6
    ∷ column row 7 ∷ []

-- The result row of a query for a void record (a cancellation): the index of the voided entry, and
-- the timestamp of the void.
abbrev pub void_shown : Row → Row
void_shown row = column row 1 ∷ column row 2 ∷ []

-- The result row of a query for a quarter hour: its start and its energy.
abbrev pub share_shown : Row → Row
share_shown row = column row 1 ∷ column row 2 ∷ []

-- True if a query returns all rows of `installations`, in order of index.
abbrev pub ShowsInstallations : Content → List Row → Type 0
ShowsInstallations content rows =
    Shows every InPlace installation_shown (content meter_tree.installations) rows

-- True if a query returns the range of a meter's counter.
abbrev pub ShowsRange : (meter : List ℕ) → Content → List Row → Type 0
ShowsRange meter content rows =
    Shows (is_of meter) AnyOrder range_shown (content meter_tree.ranges) rows

-- True if a query returns all entries of a meter, in order of index.
abbrev pub ShowsEntries : (meter : List ℕ) → Content → List Row → Type 0
ShowsEntries meter content rows =
    Shows (is_of meter) InOrder entry_shown (content entry_tree.entries) rows

-- True if a query returns the void records (cancellations) of a meter, in order of the voided
-- entries' indices.
abbrev pub ShowsVoids : (meter : List ℕ) → Content → List Row → Type 0
ShowsVoids meter content rows =
    Shows (is_of meter) InOrder void_shown (content entry_tree.voids) rows

-- True if a query returns the interval rows (energies of quarter hours) of a meter, in order of
-- their starts.
abbrev pub ShowsIntervals : (meter : List ℕ) → Content → List Row → Type 0
ShowsIntervals meter content rows =
    Shows (is_of meter) InOrder share_shown (content intervals_tree) rows

-- True if `rows` are all rows that the tables have for the meter with the name `meter`.
pub record AreRowsOf (meter : List ℕ) (content : Content) (rows : MeterRows) : Type 0 where
  pub ranges : ShowsRange meter content rows.ranges.items
  pub entries : ShowsEntries meter content rows.entries.items
  pub voids : ShowsVoids meter content rows.voids.items
  pub intervals : ShowsIntervals meter content rows.intervals.items
