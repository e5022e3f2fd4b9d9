-- Definitions of the tables of a database file that was just created.
use Rattle.std.specs.Prelude.{◌≡◌, ◌≢◌, ℕ, List, []}
use Rattle.sqlite.specs.Effect.{Database}
use Rattle.store_tables.specs.Content.{Content, AreTables}
use Rattle.store_tables.specs.Layouts.{no_schema}
use Rattle.store_tables.specs.Meta.{meta, IsMarked}

-- True if all tables of a new file are empty except `meta`, which has one row with version 3 and
-- the time zone `zone`.
pub record IsNew (zone : List ℕ) (content : Content) : Type 0 where
  pub marked : IsMarked (record { version = 3; zone = zone }) content
  pub empty : (t : ℕ) → t ≢ meta → content t ≡ []

-- The effect of creating a store: a database without tables gets the tables of a new store.
abbrev pub Makes : (zone : List ℕ) → Database → Database → Type 0
Makes zone old new = old.schema ≡ no_schema
    → (content : Content) × IsNew zone content × AreTables new content
