-- Proofs that opening a file finds the records that a crash left in it.
use Rattle.std.proofs.Common.{◌≡◌, sym, subst, ◌∙◌}
use Rattle.sqlite.specs.Tree.{Trees}
use Rattle.sqlite.specs.Schema.{Schema}
use Rattle.sqlite.specs.Effect.{Database}
use Rattle.sqlite_catalog.specs.Listing.{IsSound}
use Rattle.sqlite_catalog.proofs.ReadLemmas.{reads, read_once}
use Rattle.office_store.specs.Holding.{HasFacts}
use Rattle.office_store.specs.Laws.Laws.{LeftFactsAreFound}
use Rattle.office_store.specs.Laws.Files.{HasFactsIn, FoundFilesKeepTheirs}

-- If the same B-trees encode the tables of a database for each of two schemas (`IsSound`), the two
-- schemas are equal.
one_schema : (s t : Schema) (trees : Trees) → IsSound s trees → IsSound t trees → s ≡ t
one_schema s t trees h k =
    let read = reads _ s h.lists in read_once _ s t read.tables read.indexes read.views (reads _ t k.lists)

one_database : (a b : Database) → IsSound a.schema a.trees → IsSound b.schema b.trees → a.trees ≡ b.trees → a ≡ b
one_database a b h k e =
    let schema : a.schema ≡ b.schema = one_schema a.schema b.schema b.trees (subst (IsSound a.schema) e h) k in
    λ i. record { schema = schema i; trees = e i }

pub left_facts_are_found : LeftFactsAreFound
left_facts_are_found zone left trees db it sound same =
    subst (HasFacts zone it.facts) (sym (one_database db it.db sound it.has.tables.sound (same ∙ it.same))) it.has

pub found_files_keep_theirs : FoundFilesKeepTheirs
found_files_keep_theirs layout zone facts db found it sound same =
    subst (HasFactsIn layout zone facts) (sym (one_database found db sound it.file.tables.sound same)) it
