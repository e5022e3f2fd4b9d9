-- Defines which records a database encodes after a store was created or opened in it, also after a
-- crash.
use Rattle.std.specs.Prelude.{◌⊎◌, ℕ, List, [], ◌∷◌}
use Rattle.sqlite.specs.Tree.{Trees}
use Rattle.sqlite.specs.Store.{Ghosts}
use Rattle.sqlite.specs.Held.{Held, state}
use Rattle.sqlite.specs.State.{HasCleanDisk, KeepsCommit}
use Rattle.office_events.specs.declared.facts.Fact.{Fact}
use Rattle.store_tables.specs.declared.layouts.Layout.{Layout}
use Rattle.office_store.specs.Holding.{HoldsFacts, LeavesFacts, IsLeft}
use Rattle.office_store.specs.Laws.Files.{HasFactsIn}

module _ {S : Type 0} (g : Ghosts S) (zone : List ℕ) where
  -- States that, if reads of the database file return the written bytes, the file (of any version)
  -- encodes the given records.
  abbrev pub HasFile : Held S → List Fact → Type 0
  HasFile h facts = HasCleanDisk (state g h)
      → (layout : Layout) × HasFactsIn layout zone facts (state g h).committed

  -- True if the SQLite database of a connection encodes the given records, and a crash leaves
  -- tables that encode the same records.
  pub record HoldsAlone (h : Held S) (facts : List Fact) : Type 0 where
    pub holds : HoldsFacts g zone h facts
    pub leaves : LeavesFacts g zone h (facts ∷ [])

  -- States that, if reads of the database file return the written bytes, a call keeps the last
  -- commit. A crash after the call leaves tables that a crash before the call could leave, or
  -- tables that encode the given records.
  pub record KeepsFile (old new : Held S) (facts : List Fact) : Type 0 where
    pub kept : HasCleanDisk (state g new) → KeepsCommit (state g old) (state g new)
    pub leaves : HasCleanDisk (state g new) → (trees : Trees) → (state g new).may_leave trees
        → (state g old).may_leave trees ⊎ IsLeft zone (facts ∷ []) trees
