-- Defines file rollovers. A file rollover begins a new database, in which each open meter continues
-- from its last entry in the old database.
use Rattle.std.specs.Prelude.{◌≡◌, ℕ, List, [], ◌∷◌, Option}
use Rattle.sqlite.specs.Store.{Ghosts}
use Rattle.sqlite.specs.Held.{Held, state}
use Rattle.sqlite.specs.State.{HasCleanDisk}
use Rattle.office_events.specs.declared.facts.Fact.{Fact}
use Rattle.office_books.specs.History.{History, Opened}
use Rattle.office_books.specs.Ledgers.{Ledger}
use Rattle.office_core.specs.declared.office.Office.{Office}
use Rattle.office_core.specs.Standing.{StandsIfClean}
use Rattle.office_store.specs.declared.books.SqlBooks.{SqlBooks}
use Rattle.stored_files.specs.BooksFound.{ledger_beneath}
use Rattle.stored_files.specs.NewOffice.{IsMade}
use Rattle.carried_books.specs.Carrying.Carried.{OfOld}
use Rattle.carried_books.specs.Carrying.Feeding.{history_with}
use Rattle.carried_books.specs.Carrying.Plans.{AreCarried}
use Rattle.carried_books.specs.declared.carrying.commands.TimedCommand.{TimedCommand}

-- The history of a new store that was opened at time 0 and then accepted the commands `commands`.
abbrev pub set_up_by : List TimedCommand → History
set_up_by commands = history_with (Opened 0 ∷ []) commands

-- States that the open meters of an old store continue in a new store. The old store was only
-- queried. The commands set up the old store's devices, and install each of its `meters` open
-- meters at the meter's last entry up to `until`. The new store was opened at time 0, and accepted
-- only these commands.
pub record GoesOn {O N : Type 0} (of_old : O → Ledger) (of_new : N → Ledger) (old : O)
    (until : Option ℕ) (meters : ℕ) : Type 0 where
  pub asked : O
  pub clean : (of_old asked).is_clean → (of_old old).is_clean
  pub commands : List TimedCommand
  pub are : OfOld (of_old old) (of_old asked) (λ known. AreCarried known until commands meters)
  pub office : Office N
  pub stands : StandsIfClean of_new (set_up_by commands) office

module _ {S : Type 0} (g : Ghosts S) where
  -- States that the open meters of an old store continue in a new store, whose database tables were
  -- created for the time zone `zone`.
  pub record GoesOnIn {O : Type 0} (of_old : O → Ledger) (old : O) (zone : List ℕ)
      (until : Option ℕ) (new : Held S) (meters : ℕ) : Type 0 where
    pub made : IsMade g zone new
    pub goes_on : GoesOn of_old (ledger_beneath g) old until meters

  -- States that the open meters of an old store continue in a new store, and that both stores are
  -- in SQLite databases. The records in the old store's file are `facts`.
  pub record GoesOnFrom (old : Held S) (facts : List Fact) (zone : List ℕ) (until : Option ℕ)
      (new : Held S) (meters : ℕ) : Type 0 where
    pub asked : SqlBooks S g
    pub clean : (ledger_beneath g asked).is_clean → HasCleanDisk (state g old)
    pub commands : List TimedCommand
    pub are : (ledger_beneath g asked).is_clean → AreCarried facts until commands meters
    pub made : IsMade g zone new
    pub office : Office (SqlBooks S g)
    pub stands : StandsIfClean (ledger_beneath g) (set_up_by commands) office

  -- States that the open meters in the records `facts` of an old database continue in a new
  -- database with the same time zone. The new database accepted only commands that set up the
  -- devices in `facts` and install each of the `meters` open meters. The statement assumes that the
  -- disks returned what was written to them.
  pub record IsCarriedInto (facts : List Fact) (zone : List ℕ) (until : Option ℕ)
      (new : Held S) (meters : ℕ) : Type 0 where
    pub asked : SqlBooks S g
    pub commands : List TimedCommand
    pub are : (ledger_beneath g asked).is_clean → AreCarried facts until commands meters
    pub reported : List ℕ
    pub zone_is : (ledger_beneath g asked).is_clean → reported ≡ zone
    pub made : IsMade g reported new
    pub office : Office (SqlBooks S g)
    pub stands : StandsIfClean (ledger_beneath g) (set_up_by commands) office
