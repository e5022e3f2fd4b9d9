-- The rows of the store's tables, and the changes that SQL statements make to them.
use Rattle.std.specs.Prelude.{◌≡◌, ◌≢◌, ◌⊎◌, ℕ, ℤ, ◌==◌, Bool, true, false, List, [], ◌∷◌, map, drop, filter, not, if◌then◌else◌}
use Rattle.std.specs.List.{list_any, AllByRecursion, IsDistinct}
use Rattle.std.specs.List.Sorted.{IsPermutation}
use Rattle.std.specs.Ordering.{is_eq, int_cmp}
use Rattle.sqlite.specs.Tree.{rowid}
use Rattle.sqlite.specs.Edit.{id_in}
use Rattle.sqlite.specs.declared.types.Value.TheVariants.{Int}
use Rattle.sqlite.specs.Order.{Row}
use Rattle.sqlite.specs.Table.{Table}
use Rattle.sqlite.specs.Schema.{Schema}
use Rattle.sqlite.specs.Effect.{Database, IsDatabase}
use Rattle.store_tables.specs.Schema.{books_schema}

-- True if a table in the list is stored in the B-tree with the given number.
abbrev pub HasTree : List Table → ℕ → Type 0
HasTree [] t = ⊥
HasTree (x ∷ xs) t = (t ≡ x.tree) ⊎ HasTree xs t

-- The rows of each table, by the number of the table's B-tree, in any order. If a table has an
-- integer primary key, each of its rows begins with the rowid, and the key's own column is NULL.
abbrev pub Content : Type 0
Content = ℕ → List Row

-- True if the table with this number in the database schema has an integer primary key, which is
-- the table's rowid.
abbrev pub is_numbered : ℕ → Bool
is_numbered t = list_any (λ n. n == t) (0 ∷ 1 ∷ 5 ∷ 7 ∷ 11 ∷ 12 ∷ 13 ∷ [])

-- The columns of a stored row as a query sees them: without the rowid if SQLite chose the rowid.
abbrev pub reported : Bool → Row → Row
reported true row = row
reported false row = drop 1 row

-- The rowid of a stored row. Every row begins with its rowid.
abbrev pub id_of : Row → ℤ
id_of r = id_in (rowid r)

-- True if two rowids are equal by SQLite's comparison of integers.
abbrev pub same_id : ℤ → ℤ → Bool
same_id x y = is_eq (int_cmp x y)

-- True if each row of a table has an integer rowid, and no two rows have equal rowids.
pub record AreApart (rows : List Row) : Type 0 where
  pub keyed : AllByRecursion (λ r. rowid r ≡ Int (id_of r)) rows
  pub distinct : IsDistinct same_id (map id_of rows)

-- True if the database `db` has the schema `form`, and its tables have the rows of `content`.
pub record AreTablesIn (form : Schema) (db : Database) (content : Content) : Type 0 where
  pub schema : db.schema ≡ form
  pub rows : (t : ℕ) → HasTree form.tables t
      → IsPermutation (map (reported (is_numbered t)) (db.trees t)) (content t)
  pub apart : (t : ℕ) → HasTree form.tables t → AreApart (db.trees t)
  pub sound : IsDatabase db

-- True if a database has the store's schema, and its tables have the rows of a `Content` (a
-- function that returns the rows of each table).
abbrev pub AreTables : Database → Content → Type 0
AreTables = AreTablesIn books_schema

-- The content of a store's tables, with the rows of one table replaced.
abbrev pub with_rows : ℕ → List Row → Content → Content
with_rows k rows content t = if t == k then rows else content t

-- True if the table `tree` has exactly the rows that encode the values in a list, in any order.
abbrev pub HasRows : {X : Type 0} → (tree : ℕ) → (columns : X → Row) → List X → Content → Type 0
HasRows tree columns xs content = IsPermutation (map columns xs) (content tree)

-- True if a write replaces the rows of table `tree` by `edit` of these rows, and leaves all other
-- tables unchanged.
pub record Edits {X : Type 0} (tree : ℕ) (columns : X → Row) (edit : List X → List X)
    (content after : Content) : Type 0 where
  pub rows : (xs : List X) → HasRows tree columns xs content → HasRows tree columns (edit xs) after
  pub others : (t : ℕ) → t ≢ tree → after t ≡ content t

-- The rows of a table after an INSERT of one row.
abbrev pub with_row : {X : Type 0} → X → List X → List X
with_row x xs = x ∷ xs

-- The rows of a table after an UPDATE: a function is applied to each row that passes a test.
abbrev pub changed_where : {X : Type 0} → (X → Bool) → (X → X) → List X → List X
changed_where p f xs = map (λ x. if p x then f x else x) xs

-- The rows of a table after a DELETE: only the rows that fail a test remain.
abbrev pub without_where : {X : Type 0} → (X → Bool) → List X → List X
without_where p xs = filter (λ x. not (p x)) xs
