-- Definitions about the result of creating or opening a store, and about the database connection
-- that is returned.
use Rattle.std.specs.Prelude.{◌≡◌, ◌⊎◌, Result, Ok, Err}
use Rattle.sqlite.specs.Store.{Ghosts}
use Rattle.sqlite.specs.Held.{Held}
use Rattle.interval_core.specs.declared.zone.Zone.{Zone}
use Rattle.store_tables.specs.declared.open_faults.OpenFault.{OpenFault}
use Rattle.store_tables.specs.declared.open_faults.OpenFault.TheVariants.{NotOurs, Zone as NoZone}
use Rattle.office_store.specs.declared.books.SqlBooks.{SqlBooks}
use Rattle.office_store.specs.declared.books.Unopened.{Unopened}

-- The time zone of the store, or the fault, from the result of creating or opening the store.
abbrev pub reported_by : {S : Type 0} {g : Ghosts S} → Result (SqlBooks S g) (Unopened S)
    → Result Zone OpenFault
reported_by (Ok books) = Ok books.zone
reported_by (Err unopened) = Err unopened.fault

-- The database connection after the call that created or opened a store. If the call succeeded,
-- this is the store's connection. If it failed, this is the connection that the result returns
-- together with the fault.
abbrev pub connection_in : {S : Type 0} {g : Ghosts S} → Result (SqlBooks S g) (Unopened S) → Held S
connection_in (Ok books) = books.connection
connection_in (Err unopened) = unopened.connection

-- States that, after an error `NotOurs` (the database is not a store) or `Zone` (its time zone is
-- invalid), the database connection is returned unchanged.
abbrev pub HandsBackUntouched : {S : Type 0} → Held S → Unopened S → Type 0
HandsBackUntouched connection unopened =
    (unopened.fault ≡ NotOurs) ⊎ (unopened.fault ≡ NoZone)
    → unopened.connection ≡ connection
