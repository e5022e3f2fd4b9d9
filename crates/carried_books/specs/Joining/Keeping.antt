-- Defines, for a value that collects the data of several database files (the oldest first), the
-- result of adding one more file.
use Rattle.std.specs.Prelude.{List, ◌∷◌, Option, Some, None}
use Rattle.office_events.specs.declared.facts.Fact.{Fact}
use Rattle.carried_books.specs.declared.joining.files.Unjoined.{Unjoined}

-- States that, if adding a new database file returns `None`, its data were added to the data
-- collected from the earlier files. For any other result (a reason why the new file does not
-- continue them), states nothing.
abbrev pub KeepsFile : {K : Type 0} → (keeps : List (List Fact) → K → Type 0) → List Fact
    → (old new : K) → Option Unjoined → Type 0
KeepsFile keeps facts old new None =
    (files : List (List Fact)) → keeps files old → keeps (facts ∷ files) new
KeepsFile keeps facts old new (Some why) = Unit {0}

-- If a function that adds a database file returns a reason, then the file does not continue the
-- meter history of the earlier files for this reason.
abbrev pub PartsFile : (parts : Unjoined → Type 0) → Option Unjoined → Type 0
PartsFile parts None = Unit {0}
PartsFile parts (Some why) = parts why
