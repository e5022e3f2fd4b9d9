-- Theorems that the tables of a store determine the records that they encode, also after a crash.
use Rattle.std.specs.Prelude.{◌≡◌, ℕ, List}
use Rattle.sqlite.specs.Tree.{Trees}
use Rattle.sqlite.specs.Effect.{Database, IsDatabase}
use Rattle.office_events.specs.declared.facts.Fact.{Fact}
use Rattle.office_books.specs.Same.{AreSame}
use Rattle.store_tables.specs.Content.{Content}
use Rattle.office_store.specs.Tables.{AreOf}
use Rattle.office_store.specs.Holding.{HasFacts, IsLeft}

-- Theorem: if the same tables encode two lists of records, each with a time zone, then the lists
-- are equal up to order, and the time zones are equal.
abbrev pub TablesTellTheirFacts : Type 0
TablesTellTheirFacts = (zone others_zone : List ℕ) (facts others : List Fact) (content : Content)
    → AreOf zone facts content → AreOf others_zone others content
    → AreSame facts others × (zone ≡ others_zone)

-- Theorem: if one database encodes two lists of records, each with a time zone, then the lists are
-- equal up to order, and the time zones are equal.
abbrev pub DatabasesTellTheirFacts : Type 0
DatabasesTellTheirFacts = (zone others_zone : List ℕ) (facts others : List Fact) (db : Database)
    → HasFacts zone facts db → HasFacts others_zone others db
    → AreSame facts others × (zone ≡ others_zone)

-- Theorem: if a crash leaves B-trees that encode a list of records, the database that is opened
-- from these B-trees encodes these records. The B-trees of a database determine its schema.
abbrev pub LeftFactsAreFound : Type 0
LeftFactsAreFound = (zone : List ℕ) (left : List (List Fact)) (trees : Trees) (db : Database)
    → (it : IsLeft zone left trees) → IsDatabase db → db.trees ≡ trees → HasFacts zone it.facts db
