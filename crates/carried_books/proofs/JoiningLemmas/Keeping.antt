-- The lemma that the collected data of an accounting register (a named counter) have the meters and
-- daily energies of all database files that were added. The collected data are of the type
-- `JoinedFiles`.
use Rattle.std.proofs.Common.{ℕ, List, Option, Some, None}
use Rattle.interval_core.specs.declared.zone.Zone.{Zone}
use Rattle.office_events.specs.declared.facts.Fact.{Fact}
use Rattle.office_books.specs.declared.spans.Span.{Span}
use Rattle.carried_books.specs.Joining.Files.{AllJoin, DoesNotJoin, HasJoined, Joins}
use Rattle.carried_books.specs.Joining.Keeping.{KeepsFile, PartsFile}
use Rattle.carried_books.specs.declared.joining.files.JoinedFiles.{JoinedFiles}
use Rattle.carried_books.specs.declared.joining.files.Unjoined.{Unjoined}

pub kept : (zone : Zone) (span : Span) (register : List ℕ) (facts : List Fact) (old new : JoinedFiles) (why : Option Unjoined)
    → AllJoin span register facts old new why → KeepsFile (HasJoined zone span register) facts old new why
kept zone span register facts old new None all = λ files has. all zone files has
kept zone span register facts old new (Some why) all = tt

pub parted : (span : Span) (register : List ℕ) (facts : List Fact) (old new : JoinedFiles) (why : Option Unjoined)
    → Joins span register facts old new why → PartsFile (DoesNotJoin span register facts old) why
parted span register facts old new None joins = tt
parted span register facts old new (Some why) joins = (new, joins)
