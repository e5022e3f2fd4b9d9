-- Lemmas that combine the contracts of the calls of a file rollover. A file rollover begins a new
-- database, in which each open meter continues from its last entry.
use Rattle.std.proofs.Common.{◌≡◌, ℕ, List, [], ◌∷◌, Result, Ok, Err, IfOk, Option, sym, subst}
use Rattle.std.specs.Prelude.{String, string_bytes}
use Rattle.sqlite.specs.Store.{Ghosts}
use Rattle.sqlite.specs.Held.{Held, state}
use Rattle.sqlite.specs.State.{HasCleanDisk}
use Rattle.office_events.specs.declared.facts.Fact.{Fact}
use Rattle.office_books.specs.History.{Opened}
use Rattle.office_books.specs.Ledgers.{Ledger}
use Rattle.office_core.specs.declared.office.Office.{Office}
use Rattle.office_core.specs.Standing.{StandsIfClean}
use Rattle.store_tables.specs.Content.{Content}
use Rattle.store_tables.specs.declared.layouts.Layout.{Layout}
use Rattle.store_tables.specs.Upgrade.{IsFile}
use Rattle.office_store.specs.Laws.Files.{HasFactsIn}
use Rattle.office_store.specs.Database.{HasFile, HoldsAlone}
use Rattle.office_store.specs.declared.books.SqlBooks.{SqlBooks}
use Rattle.stored_files.specs.BooksFound.{ledger_beneath}
use Rattle.carried_books.specs.Carrying.Carried.{Carries, OnlyAsked}
use Rattle.carried_books.specs.Carrying.Feeding.{Passes}
use Rattle.carried_books.specs.declared.carrying.faults.CarryFault.{CarryFault}
use Rattle.stored_files.specs.Carries.GoingOn.{GoesOn, GoesOnFrom, GoesOnIn, IsCarriedInto}
use Rattle.stored_files.specs.Carries.ReportedZone.{ReportsZone}

-- If a file rollover (the continuation of all open meters in a new database) executes the
-- rollover's commands on a new store, the new store's history consists of these commands.
pub goes_on : {O N : Type 0} (of_old : O → Ledger) (of_new : N → Ledger) (old asked : O) (until : Option ℕ) (before after : Office N) (result : Result ℕ CarryFault)
    → StandsIfClean of_new (Opened 0 ∷ []) before → Carries (of_old old) (of_old asked) until of_new before after result
    → OnlyAsked (of_old old) (of_old asked) result → Passes of_new before after → IfOk result (GoesOn of_old of_new old until)
goes_on of_old of_new old asked until before after (Ok meters) opened carried asks passes = record {
  asked = asked;
  clean = asks.clean;
  commands = carried.commands;
  are = carried.are;
  office = after;
  stands = λ clean. (carried.fed (Opened 0 ∷ []) (opened (passes.clean clean)) clean).stands;
}
goes_on of_old of_new old asked until before after (Err why) opened carried asks passes = tt

-- A file rollover that continues the open meters of a store continues those of the database file
-- from which the store was opened.
pub goes_on_from : {S E : Type 0} (g : Ghosts S) (old : Held S) (facts : List Fact) (its zone : List ℕ) (until : Option ℕ) (new : Held S) (books : SqlBooks S g) (result : Result ℕ E)
    → (HasCleanDisk (state g books.connection) → HasCleanDisk (state g old)) → HoldsAlone g its books.connection facts
    → IfOk result (GoesOnIn g (ledger_beneath g) books zone until new) → IfOk result (GoesOnFrom g old facts zone until new)
goes_on_from g old facts its zone until new books (Ok meters) clean holds it = record {
  asked = it.goes_on.asked;
  clean = λ asked. clean (it.goes_on.clean asked);
  commands = it.goes_on.commands;
  are = λ asked. it.goes_on.are facts (record { zone = its; holds = holds.holds }) asked;
  made = it.made;
  office = it.goes_on.office;
  stands = it.goes_on.stands;
}
goes_on_from g old facts its zone until new books (Err why) clean holds it = tt

-- Lemmas: reading the time zone of a database file, before its open meters continue in a new file,
-- changes no record of the file.

-- After the time zone of a file is read, the file has the same records as before.
pub still_has : {S Z : Type 0} (g : Ghosts S) (old new : Held S) (zone : List ℕ) (facts : List Fact) (reported : String Z) → HasFile g zone old facts
    → (HasCleanDisk (state g new) → HasCleanDisk (state g old))
    → (HasCleanDisk (state g new) → (layout : Layout) (its : List ℕ) (content : Content) → IsFile layout its (state g old).committed content → ReportsZone its (state g old) (state g new) reported)
    → HasFile g zone new facts
still_has g old new zone facts reported has cleans reports = λ clean.
    let file = has (cleans clean) in
    (file.0, subst (λ db. HasFactsIn file.0 zone facts db) (sym (reports clean file.0 zone file.1.content file.1.file).same) file.1)

-- If a query reads the time zone of a file, then it returns the time zone in the file's table
-- `meta`.
pub is_reported : {S Z : Type 0} (g : Ghosts S) (old new : Held S) (zone : List ℕ) (facts : List Fact) (reported : String Z) → HasFile g zone old facts
    → (HasCleanDisk (state g new) → HasCleanDisk (state g old))
    → (HasCleanDisk (state g new) → (layout : Layout) (its : List ℕ) (content : Content) → IsFile layout its (state g old).committed content → ReportsZone its (state g old) (state g new) reported)
    → HasCleanDisk (state g new) → string_bytes reported ≡ zone
is_reported g old new zone facts reported has cleans reports clean =
    let file = has (cleans clean) in
    (reports clean file.0 zone file.1.content file.1.file).bytes

pub carried_into : {S E : Type 0} (g : Ghosts S) (mid : Held S) (facts : List Fact) (reported zone : List ℕ) (until : Option ℕ) (new : Held S) (result : Result ℕ E)
    → (HasCleanDisk (state g mid) → reported ≡ zone) → IfOk result (GoesOnFrom g mid facts reported until new) → IfOk result (IsCarriedInto g facts zone until new)
carried_into g mid facts reported zone until new (Ok meters) is it = record {
  asked = it.asked;
  commands = it.commands;
  are = it.are;
  reported = reported;
  zone_is = λ clean. is (it.clean clean);
  made = it.made;
  office = it.office;
  stands = it.stands;
}
carried_into g mid facts reported zone until new (Err why) is it = tt
