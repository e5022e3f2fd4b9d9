-- The table `meta`: one row with the version of the file and the time zone of its civil days.
use Rattle.std.specs.Prelude.{ℕ, pos, List, [], ◌∷◌}
use Rattle.sqlite.specs.declared.types.Value.TheVariants.{Null, Int, Text}
use Rattle.sqlite.specs.Order.{Row}
use Rattle.store_tables.specs.Content.{Content, HasRows}

-- The number that identifies the B-tree of the table `meta` in contracts and proofs.
abbrev pub meta : ℕ
meta = 0

-- The one row of `meta`: the version of the file, and its time zone.
pub record Meta : Type 0 where
  pub version : ℕ
  pub zone : List ℕ

-- The columns of the one row of `meta`: its rowid 1, the NULL of its key, the file's version and
-- the time zone.
abbrev pub meta_columns : Meta → Row
meta_columns m = Int (pos 1) ∷ Null ∷ Int (pos m.version) ∷ Text m.zone ∷ []

-- The result row of the query on `meta` that runs when a file is opened.
abbrev pub meta_shown : Meta → Row
meta_shown m = Int (pos m.version) ∷ Text m.zone ∷ []

-- The row of `meta` with its version replaced, and the same time zone.
abbrev pub with_version : ℕ → Meta → Meta
with_version n m = record m { version = n }

-- True if the table `meta` has one row with the given version and time zone.
abbrev pub IsMarked : Meta → Content → Type 0
IsMarked m content = HasRows meta meta_columns (m ∷ []) content
