-- Defines when the command `carry` reports success. The command begins a new database file, in
-- which each open meter of the old file continues.
use Rattle.std.specs.Prelude.{ℕ, List, Option}
use Rattle.sqlite.specs.Store.{Ghosts}
use Rattle.sqlite.specs.Held.{Held}
use Rattle.office_books.specs.History.{History, facts_of}
use Rattle.stored_files.specs.BooksFound.{HasPast}
use Rattle.stored_files.specs.Carries.GoingOn.{IsCarriedInto}
use Rattle.stored_files.specs.declared.ends.ending.Ending.{Ending}
use Rattle.stored_files.specs.declared.ends.ending.Ending.TheVariants.{Fine}

module _ {S : Type 0} (g : Ghosts S) where
  -- States that `meters` open meters of the old database continue in a new database, each from its
  -- last entry up to the time `until`, if there is one. The definition does not state at which path
  -- the new database is.
  pub record Carries (old : Held S) (until : Option ℕ) (meters : ℕ) : Type 0 where
    pub new : Held S
    pub carries : (past : History) → (has : HasPast g old past)
        → IsCarriedInto g (facts_of past) has.zone until new meters

  -- States that the old database file at a path was opened, and that its open meters continue in a
  -- new database.
  pub record CarriesFile (opens : List ℕ → Held S → Type 0) (path : List ℕ) (until : Option ℕ)
      (meters : ℕ) : Type 0 where
    pub opened : Held S
    pub is_opened : opens path opened
    pub carries : Carries opened until meters

  -- States that the command `carry` ends with success only after all open meters of the old file
  -- continue in the new file.
  abbrev pub EndsCarry : (opens : List ℕ → Held S → Type 0) → (path : List ℕ) → (until : Option ℕ)
      → Ending → Type 0
  EndsCarry opens path until Fine = (meters : ℕ) × CarriesFile opens path until meters
  EndsCarry opens path until _ = Unit {0}
