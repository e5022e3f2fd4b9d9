-- The tables that a database file of each version (its layout) has.
use Rattle.std.specs.Prelude.{◌≡◌, ◌==◌, ◌+◌, ℕ, Bool, List, [], take, map, filter}
use Rattle.std.specs.List.{list_any}
use Rattle.sqlite.specs.Schema.{Schema}
use Rattle.sqlite.specs.Table.{Table}
use Rattle.sqlite_schema.specs.declared.schema.Index.{Index}
use Rattle.store_tables.specs.Schema.{books_schema}
use Rattle.store_tables.specs.declared.layouts.Layout.{Layout}
use Rattle.store_tables.specs.declared.layouts.Layout.TheVariants.{First, Second, Third}

-- The schema of a database without tables.
abbrev pub no_schema : Schema
no_schema = record { tables = []; indexes = []; views = [] }

-- True if an SQL index belongs to one of the tables in a list.
abbrev pub is_index_of : List Table → Index → Bool
is_index_of tables i = list_any (λ (t : Table). t.tree == i.table) tables

-- The schema with the given number of first tables of the store, in the order in which they are
-- created, and with their indexes.
abbrev pub first_tables : ℕ → Schema
first_tables n =
    let tables = take n books_schema.tables in
    record {
      tables = tables;
      indexes = filter (is_index_of tables) books_schema.indexes;
      views = [];
    }

-- The version number of a layout (which tables a file has), as the table `meta` stores it.
abbrev pub version_of : Layout → ℕ
version_of First = 1
version_of Second = 2
version_of Third = 3

-- How many tables a file of a given layout has. Version 1 lacks the last two tables, version 2
-- lacks the last table, and version 3 has all tables.
abbrev pub table_count : Layout → ℕ
table_count layout = version_of layout + 10

-- The SQL schema of a file with a given layout: its tables in the order of their creation.
abbrev pub schema_of : Layout → Schema
schema_of layout = first_tables (table_count layout)

-- The names of a schema's tables, in the order in which they were created.
abbrev pub names_of : Schema → List (List ℕ)
names_of schema = map (λ (t : Table). t.name) schema.tables

-- True if the tables of a schema have the names of the tables of a layout (file version), in the
-- same order.
abbrev pub IsNamedAs : Schema → Layout → Type 0
IsNamedAs schema layout = names_of schema ≡ names_of (schema_of layout)
