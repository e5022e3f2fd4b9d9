-- The contract of a function that queries an old database file and appends the result's items (such
-- as meters) to a list. The queries belong to a file rollover, in which a new file continues the
-- old meters.
use Rattle.std.specs.Prelude.{◌≡◌, List, ◌++◌, Result, OnOk}
use Rattle.office_events.specs.declared.facts.Fact.{Fact}
use Rattle.office_books.specs.Ledgers.{Ledger}

-- Suppose that appending to a list succeeds, and the queried database has returned no wrong result.
-- Then exactly the items that the database's records contain or determine were appended.
abbrev pub Adds : {R T E : Type 0} → (old new : Ledger) → (List Fact → List R)
    → (before after : List R) → Result T E → Type 0
Adds old new says before after result = (known : List Fact) → old.holds known → new.is_clean
    → OnOk result (after ≡ before ++ says known)
