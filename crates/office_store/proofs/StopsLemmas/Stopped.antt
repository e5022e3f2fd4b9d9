-- Proofs that a crash of a database connection leaves only files that encode records of the store.
use Rattle.std.proofs.Common.{◌≡◌, ℕ, Bool, List, IsTrue, sym, subst, arith}
use Rattle.std.proofs.Math.Logic.{∥∥₁_map}
use Rattle.sqlite_disk.specs.declared.Disk.{Ghosts}
use Rattle.sqlite_store.specs.declared.store.FileStore.{FileStore}
use Rattle.sqlite_store.specs.FileStore.{view, faults, recovers, is_shielded}
use Rattle.sqlite_trees.specs.View.{doubt, IsClean, IsQuiet, IsRolledBack}
use Rattle.sqlite_catalog.specs.Listing.{IsSound}
use Rattle.sqlite.specs.Tree.{Trees}
use Rattle.sqlite.specs.Held.{Held, AreDatabases}
use Rattle.sqlite.specs.Files.{over_files}
use Rattle.sqlite.proofs.Theorems.{opens_again}
use Rattle.office_events.specs.declared.facts.Fact.{Fact}
use Rattle.office_store.specs.Holding.{IsLeft, LeavesFacts}
use Rattle.office_store.specs.Laws.Laws.{LeftFactsAreFound}
use Rattle.office_store.specs.Stops.Stops.{HasOneOf, LeaveInFiles, StopsLeaveFacts, OpenedFilesAreFound}

module _ {D : Type 0} (g : Ghosts D) where
  are_databases : (zone : List ℕ) (left : List (List Fact)) (it : FileStore D g)
      → ((trees : Trees) → recovers it trees → IsLeft zone left trees) → AreDatabases (recovers it)
  are_databases zone left it leaves trees may =
      let stopped = leaves trees may in
      (stopped.db.schema, subst (IsSound stopped.db.schema) (sym stopped.same) stopped.has.tables.sound)

  pub stops_leave_facts : LeftFactsAreFound → StopsLeaveFacts g
  stops_leave_facts law zone left it numbered leaves image db may found =
      ∥∥₁_map (opens_again it numbered (are_databases zone left it leaves) image may)
      (λ is.
      let stopped : IsLeft zone left is.0 = leaves is.0 is.1 in
      let made : HasOneOf zone left db = record {
        facts = stopped.facts;
        one = stopped.one;
        has = law zone left is.0 db stopped found.sound (found.holds is.0 is.2);
      } in made)

  pub opened_files_are_found : OpenedFilesAreFound g
  opened_files_are_found image h opened finds = record {
    sound = (opened.1 opened.0.is_open).1;
    holds = finds.holds;
  }

  -- Proofs that a crash after a database connection was closed leaves only files that a crash
  -- before the close could leave.
  module _ (law : StopsLeaveFacts g) (h : Held (FileStore D g)) (last : FileStore D g) (undone : IsRolledBack (view h.store) (view last))
      (quiet : IsQuiet view faults recovers is_shielded h.store last) (numbered : IsClean (view last) → IsTrue (view last).is_numbered)
      (clean : IsClean (view last)) (zone : List ℕ) (left : List (List Fact)) (leaves : LeavesFacts over_files zone h left) where
    recovered : (trees : Trees) → recovers h.store trees → IsLeft zone left trees
    unfolding LeavesFacts
    recovered trees =
        let was : doubt (view h.store).is_clean ≡ 0 = omega (arith, quiet.clean, clean) in
        leaves was trees

    pub left_before : LeaveInFiles g zone left h.store
    left_before =
        let P : Bool → Type 0 = λ b. IsTrue b in
        law zone left h.store (subst P undone.numbered (numbered clean)) recovered

    pub left_after : LeaveInFiles g zone left last
    left_after = law zone left last (numbered clean) (λ trees may. recovered trees (quiet.outcomes trees may))
