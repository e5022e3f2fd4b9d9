-- Theorems: the tables of a database file that was just created encode no records, and opening a
-- file keeps its records.
use Rattle.std.specs.Prelude.{◌≡◌, ◌≢◌, ◌↔◌, ◌^◌, ⊤, ℕ, List, [], All}
use Rattle.sqlite.specs.Effect.{Database, IsDatabase}
use Rattle.office_events.specs.declared.facts.Opening.{Opening}
use Rattle.office_events.specs.declared.facts.Fact.{Fact}
use Rattle.office_books.specs.Facts.{openings_in, voids_in}
use Rattle.store_tables.specs.Content.{Content, HasTree}
use Rattle.store_tables.specs.declared.layouts.Layout.{Layout}
use Rattle.store_tables.specs.declared.layouts.Layout.TheVariants.{First, Second, Third}
use Rattle.store_tables.specs.Layouts.{schema_of}
use Rattle.store_tables.specs.Meta.{meta}
use Rattle.store_tables.specs.NewFile.{IsNew}
use Rattle.store_tables.specs.Upgrade.{IsFile, IsBrought}
use Rattle.office_store.specs.Tables.{AreOf}
use Rattle.office_store.specs.Holding.{HasFacts}

-- Theorem: if a database file was just created, its tables encode no records.
abbrev pub NewFilesHaveNone : Type 0
NewFilesHaveNone = (zone : List ℕ) (content : Content) → IsNew zone content → AreOf zone [] content

-- Defines which records a database file of any version encodes, and states theorems on opening such
-- a file.

-- True if the counter of an installed meter has 2^32 values.
abbrev pub HasFullRange : Opening → Type 0
HasFullRange opening = opening.range ≡ 2 ^ 32

-- True if a file of the given version can encode the records. Without the table `ranges` (version
-- 1), each counter rolls over at 2^32. Without `voids` (versions 1 and 2), no meter entry is voided
-- (cancelled).
abbrev pub FitIn : Layout → List Fact → Type 0
FitIn First facts = All HasFullRange (openings_in facts) × (voids_in facts ≡ [])
FitIn Second facts = voids_in facts ≡ []
FitIn Third facts = ⊤

-- True if a file of the given version encodes the records. Each table of the file except `meta` has
-- the rows that a file of version 3 has for these records.
pub record HasFactsIn (layout : Layout) (zone : List ℕ) (facts : List Fact)
    (db : Database) : Type 0
  where
    pub content : Content
    pub file : IsFile layout zone db content
    pub newest : Content
    pub are : AreOf zone facts newest
    pub same : (t : ℕ) → HasTree (schema_of layout).tables t → t ≢ meta → content t ≡ newest t
    pub fit : FitIn layout facts

-- Theorem: after a database file was opened and upgraded, its tables encode the same records as
-- before.
abbrev pub OpenedFilesKeepTheirs : Type 0
OpenedFilesKeepTheirs = (layout : Layout) (zone : List ℕ) (facts : List Fact) (db : Database)
    → (it : HasFactsIn layout zone facts db) (after : Content)
    → IsBrought layout zone it.content after → AreOf zone facts after

-- Theorem: for files of version 3, two definitions of the records that a file encodes are
-- equivalent. These are `HasFactsIn` (for files of any version) and `HasFacts` (for current
-- tables).
abbrev pub NewestFilesHaveTheirs : Type 0
NewestFilesHaveTheirs = (zone : List ℕ) (facts : List Fact) (db : Database)
    → (HasFactsIn Third zone facts db) ↔ (HasFacts zone facts db)

-- Theorem: if two databases have the same B-trees, they encode the same records, because the
-- B-trees of a database determine its schema.
abbrev pub FoundFilesKeepTheirs : Type 0
FoundFilesKeepTheirs = (layout : Layout) (zone : List ℕ) (facts : List Fact) (db found : Database)
    → HasFactsIn layout zone facts db → IsDatabase found → found.trees ≡ db.trees
    → HasFactsIn layout zone facts found
