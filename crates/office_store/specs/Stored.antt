-- Defines which records the database of a store has, and the abstract state of the store.
use Rattle.std.specs.Prelude.{ℕ, List, IsTrue}
use Rattle.sqlite.specs.Store.{Ghosts}
use Rattle.sqlite.specs.Held.{Held, state}
use Rattle.sqlite.specs.State.{HasCleanDisk}
use Rattle.interval_core.specs.declared.zone.Zone.{Zone}
use Rattle.office_events.specs.declared.facts.Fact.{Fact}
use Rattle.office_books.specs.declared.failures.Failures.{Failures}
use Rattle.office_books.specs.Ledgers.{Ledger}
use Rattle.office_store.specs.Holding.{HoldsFacts, LeavesFacts}

module _ {S : Type 0} (g : Ghosts S) where
  -- True if the tables of the connection's database encode the given records, with some time zone.
  pub record IsStored (h : Held S) (facts : List Fact) : Type 0 where
    pub zone : List ℕ
    pub holds : HoldsFacts g zone h facts

  -- True if the tables of a database encode some records, and a crash leaves tables that encode one
  -- of the lists of records in `left`. All these lists have the time zone of the database.
  pub record MayBeLeft (h : Held S) (left : List (List Fact)) : Type 0 where
    pub zone : List ℕ
    pub facts : List Fact
    pub holds : HoldsFacts g zone h facts
    pub leaves : LeavesFacts g zone h left

  -- The abstract state of the store, by which the trait `Books` (the interface of a store of
  -- metering records) is specified. The store is clean while reads of the database file return the
  -- written bytes, and open while the connection is open.
  abbrev pub ledger_of : Held S → Failures → Zone → Ledger
  ledger_of h failures zone = record {
    holds = IsStored h;
    may_leave = MayBeLeft h;
    is_clean = HasCleanDisk (state g h);
    is_open = IsTrue (state g h).is_open;
    failures = failures;
    zone = zone;
  }
