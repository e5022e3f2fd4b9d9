-- The effect of creating several tables one after another.
use Rattle.std.specs.Prelude.{◌≡◌, ℕ, [], map}
use Rattle.std.specs.List.Sorted.{IsPermutation}
use Rattle.sqlite.specs.Effect.{Database}
use Rattle.store_tables.specs.Content.{Content, HasTree, AreApart, AreTablesIn, is_numbered, reported}
use Rattle.store_tables.specs.Schema.{books_schema}
use Rattle.store_tables.specs.Layouts.{first_tables}

-- True if a database has the first `count` tables of the schema with the rows of `content`. In
-- `content`, the tables that do not exist yet are empty.
pub record HasFirst (count : ℕ) (db : Database) (content : Content) : Type 0 where
  pub schema : db.schema ≡ first_tables count
  pub rows : (t : ℕ) → HasTree (first_tables count).tables t
      → IsPermutation (map (reported (is_numbered t)) (db.trees t)) (content t)
  pub apart : (t : ℕ) → HasTree (first_tables count).tables t → AreApart (db.trees t)
  pub none : (t : ℕ) → HasTree books_schema.tables t → (HasTree (first_tables count).tables t → ⊥)
      → content t ≡ []

-- The effect of creating tables: a database with the first `from` tables gets the first `to`
-- tables. New tables have no rows, and old tables keep their rows.
abbrev pub Grows : (from to : ℕ) → Database → Database → Type 0
Grows from to old new = (content : Content) → HasFirst from old content
    → AreTablesIn (first_tables to) new content
