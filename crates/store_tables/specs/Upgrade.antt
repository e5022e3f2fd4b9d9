-- The tables of a file of an earlier version after the file was opened and upgraded.
use Rattle.std.specs.Prelude.{◌≡◌, ◌≢◌, ℕ, List, [], ◌∷◌, ◌++◌, map, Vec, Result, IsTrue, OnOk, OnErr}
use Rattle.std.specs.List.Sorted.{IsPermutation}
use Rattle.sqlite.specs.declared.types.Value.{Value}
use Rattle.sqlite.specs.declared.types.Value.TheVariants.{Null, Int, Real, Text, Blob}
use Rattle.sqlite.specs.Order.{Row, column}
use Rattle.sqlite.specs.Effect.{Database}
use Rattle.sqlite.specs.State.{State, KeepsCommit, Survives, IsUnchanged}
use Rattle.store_tables.specs.Content.{Content, Edits, HasRows, AreTables, AreTablesIn}
use Rattle.store_tables.specs.Meters.Rows.{Installed, installed_columns, Ranged, ranged_columns}
use Rattle.store_tables.specs.Meters.Trees.{installations, ranges}
use Rattle.store_tables.specs.declared.layouts.Layout.{Layout}
use Rattle.store_tables.specs.declared.layouts.Layout.TheVariants.{First, Second, Third}
use Rattle.store_tables.specs.Layouts.{version_of, schema_of}
use Rattle.store_tables.specs.Meta.{meta, IsMarked}

-- The number that identifies the B-tree of the table `voids` in contracts and proofs.
abbrev pub voids : ℕ
voids = 20

-- True if a database has the tables of a layout (file version), and `meta` has the layout's version
-- and the time zone `zone`. All tables except `meta` may have any rows.
pub record IsFile (layout : Layout) (zone : List ℕ) (db : Database)
    (content : Content) : Type 0 where
  pub tables : AreTablesIn (schema_of layout) db content
  pub marked : IsMarked (record { version = version_of layout; zone = zone }) content

-- The row of `ranges` that an upgrade inserts for a meter of a version 1 file: its counter has 2^32
-- values.
abbrev pub full_range : Installed → Ranged
full_range i = record { meter = i.meter; range = 4294967296 }

-- The effect of an upgrade on `ranges`: each meter of a version 1 file gets a counter range of 2^32
-- values. A file of a later version keeps its rows.
abbrev pub HasRanges : Layout → (content after : Content) → Type 0
HasRanges First content after =
    (is : List Installed) → HasRows installations installed_columns is content
    → HasRows ranges ranged_columns (map full_range is) after
HasRanges Second content after = after ranges ≡ content ranges
HasRanges Third content after = after ranges ≡ content ranges

-- The effect of an upgrade on `voids` (cancelled entries). A file of version 1 or 2 gets an empty
-- table, and a file of version 3 keeps its rows.
abbrev pub HasVoids : Layout → (content after : Content) → Type 0
HasVoids First content after = after voids ≡ []
HasVoids Second content after = after voids ≡ []
HasVoids Third content after = after voids ≡ content voids

-- The tables after an upgrade. `meta` has version 3 and the old time zone. Each meter of a version
-- 1 file has a counter range in `ranges`, and a file that had no table `voids` has it without rows.
-- All other rows are unchanged.
pub record IsBrought (layout : Layout) (zone : List ℕ) (content after : Content) : Type 0 where
  pub marked : IsMarked (record { version = 3; zone = zone }) after
  pub with_ranges : HasRanges layout content after
  pub with_voids : HasVoids layout content after
  pub others : (t : ℕ) → t ≢ meta → t ≢ ranges → t ≢ voids → after t ≡ content t

-- The effect of upgrading a file of a given layout (version) to version 3: the database then has
-- the tables of version 3, with the rows that `IsBrought` requires.
abbrev pub Brings : Layout → (zone : List ℕ) → Database → Database → Type 0
Brings layout zone old new = (content : Content) → IsFile layout zone old content
    → (after : Content) × IsBrought layout zone content after × AreTables new after

-- Definitions of the query that selects the names of the meters in a database file of version 1 (an
-- old table layout), before the file is upgraded.

-- The result row that the query for a file's meters returns for a meter. The row has only the
-- meter's name.
abbrev pub meter_shown : Installed → Row
meter_shown i = Text i.meter ∷ []

-- True if the result rows have the name of each meter of a file, in any order.
abbrev pub AreMetersOf : Content → (shown : List Row) → Type 0
AreMetersOf content shown =
    (is : List Installed) → HasRows installations installed_columns is content
    → IsPermutation (map meter_shown is) shown

-- True if a query returned the name of each meter of a file and changed nothing.
abbrev pub ShowsMeters : {Z : Type 0} → Content → (old new : State) → Vec Row Z → Type 0
ShowsMeters content old new rows = IsUnchanged old new × AreMetersOf content rows.items

-- The text in a column, or an empty text if the column is not a text. A meter's name is always a
-- text.
abbrev pub text_in : Value → List ℕ
text_in Null = []
text_in (Int n) = []
text_in (Real x) = []
text_in (Text t) = t
text_in (Blob b) = []

-- The row of `ranges` for the meter whose name is in a result row: its counter has 2^32 values.
abbrev pub range_in : Row → Ranged
range_in row = record { meter = text_in (column row 0); range = 4294967296 }

-- The rows of `ranges` after an upgrade added a counter range for the meter in each result row.
abbrev pub with_ranges : List Row → List Ranged → List Ranged
with_ranges shown rs = map range_in shown ++ rs

-- The effect of an upgrade's inserts into `ranges`: a counter range for the meter in each result
-- row.
abbrev pub GivesRanges : List Row → Content → Content → Type 0
GivesRanges shown = Edits ranges ranged_columns (with_ranges shown)

-- Definitions of the contract of opening a file, including its upgrade.

-- The effect of upgrading a version 1 file whose meters are in the result rows `shown`.
abbrev pub BringsFirst : (shown : List Row) → Database → Database → Type 0
BringsFirst shown old new =
    (zone : List ℕ) (content : Content) → IsFile First zone old content
    → AreMetersOf content shown
    → (after : Content) × IsBrought First zone content after × AreTables new after

-- The effect of upgrading a file of version 2 to version 3.
abbrev pub BringsSecond : Database → Database → Type 0
BringsSecond old new = (zone : List ℕ) → Brings Second zone old new

-- The contract of opening a file of a given layout (version). At Ok the upgraded file is committed,
-- otherwise the old file. A crash leaves the old file or the upgraded one.
pub record OpensFile {X E : Type 0} (layout : Layout) (zone : List ℕ) (content : Content)
    (old new : State) (result : Result X E) : Type 0 where
  pub ok : OnOk result
      (IsTrue new.is_open × (after : Content) × IsBrought layout zone content after
      × AreTables new.committed after)
  pub err : OnErr result (KeepsCommit old new)
  pub survives : Survives old new
      (λ trees. (after : Content) × IsBrought layout zone content after × (db : Database)
      × AreTables db after × (trees ≡ db.trees))

-- True if a connection is open to a file of a given layout (version), and has no uncommitted
-- changes.
pub record IsOpenTo (layout : Layout) (zone : List ℕ) (content : Content) (s : State) : Type 0 where
  pub is_open : IsTrue s.is_open
  pub settled : s.now ≡ s.committed
  pub file : IsFile layout zone s.committed content

-- The contract of opening a file of any layout (version): the call satisfies the contract for the
-- file's layout. If the connection is closed, the call satisfies the contract for every layout.
abbrev pub OpensAnyFile : {X E : Type 0} → (old new : State) → Result X E → Type 0
OpensAnyFile old new result =
    (layout : Layout) (zone : List ℕ) (content : Content)
    → (IsTrue old.is_open → IsFile layout zone old.committed content)
    → OpensFile layout zone content old new result
