-- Defines when a database file has all metering records, either together with its write-ahead log
-- or without it.
use Rattle.std.specs.Prelude.{◌≡◌, ℕ, List}
use Rattle.sqlite_disk.specs.declared.Disk.{Ghosts}
use Rattle.sqlite_disk.specs.declared.Files.{Files}
use Rattle.sqlite_wal.specs.Recovery.{Image}
use Rattle.sqlite_wal.specs.Files.{outcomes}
use Rattle.sqlite.specs.Tree.{Trees}
use Rattle.sqlite.specs.Effect.{Database, IsDatabase}
use Rattle.sqlite.specs.Files.{HoldsDatabase, image_of}
use Rattle.sqlite.specs.Closing.{HoldsAlone}
use Rattle.office_books.specs.History.{History, facts_of}
use Rattle.office_books.specs.Lawfulness.{IsPast}
use Rattle.store_tables.specs.declared.layouts.Layout.{Layout}
use Rattle.office_store.specs.Laws.Files.{HasFactsIn}

-- States that opening a database whose tables and indices are the B-trees `trees` finds the records
-- of the accepted events `past`. Any program version may have created the tables.
pub record TreesHavePast (trees : Trees) (past : History) : Type 0 where
  pub zone : List ℕ
  pub is_past : IsPast past
  pub has : (found : Database) → IsDatabase found → found.trees ≡ trees
      → (layout : Layout) × HasFactsIn layout zone (facts_of past) found

-- States that a database file and its write-ahead log together have the records of the accepted
-- events `past`.
pub record HasPastIn (image : Image) (past : History) : Type 0 where
  pub trees : Trees
  pub holds : HoldsDatabase image trees
  pub has : TreesHavePast trees past

-- States that the database file has the records of the accepted events `past`, both alone and with
-- its write-ahead log. The same is true of any files that a crash at this point can leave.
pub record HasPastAlone {D : Type 0} (g : Ghosts D) (files : Files D) (past : History) :
    Type 0 where
  pub trees : Trees
  pub seen : HoldsAlone (image_of g files) trees
  pub left : (image : Image) → outcomes g files.log files.db image → HoldsAlone image trees
  pub has : TreesHavePast trees past
