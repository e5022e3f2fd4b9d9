-- Defines the rows of `installations` for the meters that were installed at one accounting register
-- (a named energy counter), one after another.
use Rattle.std.specs.Prelude.{◌≡◌, ℕ, List, map, filter, reverse, Vec}
use Rattle.sqlite.specs.Order.{Row}
use Rattle.office_events.specs.declared.facts.Opening.{Opening}
use Rattle.office_events.specs.declared.facts.Fact.{Fact}
use Rattle.office_books.specs.Facts.{openings_in}
use Rattle.store_tables.specs.Meters.Rows.{Installed, installed_shown, is_at}
use Rattle.store_tables.specs.declared.meters.rows.Installation as stored
use Rattle.office_store.specs.Rows.{placed, installed_row}
use Rattle.office_store.specs.Finding.Each.{AreEach}
use Rattle.office_store.specs.Metering.Meters.{IsRowOf}

-- The rows of `installations` for the meters of an accounting register (a named energy counter), in
-- the order in which the meters were installed.
abbrev pub rows_at : (register : List ℕ) → List Fact → List Installed
rows_at register facts =
    reverse (filter (is_at register) (placed (installed_row facts) (openings_in facts)))

-- True if a query returns all rows of `installations` for the meters of an accounting register (a
-- named energy counter), in the order of installation.
abbrev pub ShowsMetersAt : {Z : Type 0} → (register : List ℕ) → List Fact → Vec Row Z → Type 0
ShowsMetersAt register facts rows = rows.items ≡ map installed_shown (rows_at register facts)

-- True if each row of `installations` encodes the opening (the record that installs a meter) at the
-- same index of the list of openings.
abbrev pub AreRowsOf : List Fact → List Opening → List stored.Installation → Type 0
AreRowsOf facts openings rows = AreEach (IsRowOf facts) openings rows
