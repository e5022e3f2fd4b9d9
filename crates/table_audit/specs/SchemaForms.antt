-- Defines which tables and indexes are described by the short forms in which the program lists its
-- schema. Also defines which fault names the first difference of another schema.
use Rattle.std.specs.Prelude.{◌≡◌, ◌≢◌, ◌⊎◌, ℕ, true, false, List, [], ◌∷◌, map}
use Rattle.std.specs.Borrow.{Bor}
use Rattle.sqlite.specs.Table.{Table}
use Rattle.sqlite_schema.specs.declared.schema.Column.{Column}
use Rattle.sqlite_schema.specs.declared.schema.Index.{Index}
use Rattle.sqlite_schema.specs.declared.schema.Reference.{Reference}
use Rattle.sqlite_schema.specs.declared.schema.Stamps.{Stamps}
use Rattle.sqlite_value.specs.Keys.{plain}
use Rattle.store_tables.specs.Schema.{books_schema, strict, refers}
use Rattle.sqlite.specs.Kind.{Kind}
use Rattle.table_audit.specs.declared.schema.SchemaFault.{SchemaFault}
use Rattle.table_audit.specs.declared.schema.SchemaFault.TheVariants.{Meta, Devices, Points, Registers, Installations, Entries, Polls, Holds, Outcomes, Intervals, Replies, Ranges, Voids, Objects}
use Rattle.table_audit.specs.declared.schema.forms.KeyForm.{KeyForm}
use Rattle.table_audit.specs.declared.schema.forms.TableForm.{TableForm}
use Rattle.table_audit.specs.declared.schema.forms.IndexForm.{IndexForm}

-- The column that a short form of a table describes: NOT NULL in a STRICT table, without a default.
abbrev pub column_of : Bor (List ℕ) × Kind → Column
column_of form = strict form.0.now form.1

-- The SQL foreign key that a `KeyForm` (the audit's short description of a foreign key of one of
-- the program's tables) describes.
abbrev pub reference_of : KeyForm → Reference
reference_of form =
    refers form.columns.now form.parent.now (map (λ text. text.now) form.parent_columns.now)

-- The empty list of columns whose default is the current time: no table of the program has such a
-- column.
abbrev pub no_stamps : Stamps
no_stamps = record { places = []; terms = []; formats = [] }

-- The SQL table that a `TableForm` (the audit's short description of one of the program's tables)
-- describes: a STRICT table of NOT NULL columns.
abbrev pub table_of : TableForm → Table
table_of form = record {
  name = form.name.now;
  tree = form.tree;
  columns = map column_of form.columns.now;
  key = form.key;
  primary = form.primary.now;
  uniques = map (λ places. places.now) form.uniques.now;
  orders = map (λ places. plain) form.uniques.now;
  checks = [];
  references = map reference_of form.keys.now;
  computed = [];
  stamps = no_stamps;
  is_counted = false;
}

-- The index that an `IndexForm` (the program's short description of an index) describes. SQLite
-- creates such an index for a UNIQUE or a PRIMARY KEY.
abbrev pub index_of : IndexForm → Index
index_of form = record {
  name = form.name.now;
  tree = form.tree;
  table = form.table;
  columns = form.columns.now;
  order = plain;
  is_unique = true;
}

-- The list of faults that an audit can report for tables, one for each table of the program, in the
-- order of the tables. Each fault means that the file defines its table differently than the
-- program.
abbrev pub table_faults : List SchemaFault
table_faults =
    Meta ∷ Devices ∷ Points ∷ Registers ∷ Installations ∷ Entries ∷ Polls ∷ Holds ∷ Outcomes
    ∷ Intervals ∷ Replies ∷ Ranges ∷ Voids ∷ []

-- States that `fault` is the fault of the first table that differs from the expected table at the
-- same index. If there is no such table, the fault is `Objects`: tables may be missing or surplus.
abbrev pub NamesFirst : (tables expected : List Table) → (faults : List SchemaFault) → SchemaFault
    → Type 0
NamesFirst (table ∷ tables) (other ∷ expected) (named ∷ faults) fault =
    ((table ≢ other) × (fault ≡ named))
    ⊎ ((table ≡ other) × NamesFirst tables expected faults fault)
NamesFirst _ _ _ fault = fault ≡ Objects

-- States that `fault` is the fault of the first table that differs from the program's table at the
-- same index, or `Objects` if there is no such table.
abbrev pub NamesDifference : (tables : List Table) → SchemaFault → Type 0
NamesDifference tables fault = NamesFirst tables books_schema.tables table_faults fault
