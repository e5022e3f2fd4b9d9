-- Defines the creation of the tables for metering records in an empty database.
use Rattle.std.specs.Prelude.{◌≡◌, ℕ, List, [], Ok}
use Rattle.std.specs.declared.result.Result.{Result}
use Rattle.sqlite.specs.Store.{Ghosts}
use Rattle.sqlite.specs.Held.{Held, state}
use Rattle.interval_core.specs.declared.zone.Zone.{Zone}
use Rattle.store_tables.specs.declared.open_faults.OpenFault.{OpenFault}
use Rattle.store_tables.specs.NewFile.{Makes}
use Rattle.store_tables.specs.Steps.{TransactsTo}
use Rattle.office_store.specs.Database.{HoldsAlone}

-- States that the tables of a new store were created in one transaction. Directly after this
-- transaction, the database has no records, and a crash at this point would also leave none.
pub record IsMade {S : Type 0} (g : Ghosts S) (zone : List ℕ) (from : Held S) : Type 0 where
  pub made : Held S
  pub reported : Zone
  pub does : let end : Result Zone OpenFault = Ok reported in
      TransactsTo (state g from) (state g made) end (Makes zone)
  pub none : HoldsAlone g zone made []
