-- Defines the energy of earlier database files, which the command `run` also reports.
use Rattle.std.specs.Prelude.{◌≡◌, ℕ, List, [], map, Option, Some, None}
use Rattle.std.specs.Borrow.{Bor}
use Rattle.sqlite.specs.Store.{Ghosts}
use Rattle.sqlite.specs.Held.{Held}
use Rattle.interval_core.specs.declared.day_range.DayRange.{DayRange}
use Rattle.carried_books.specs.declared.joining.earlier.EarlierRegister.{EarlierRegister}
use Rattle.carried_books.specs.declared.joining.earlier.KeptRegisters.{KeptRegisters}
use Rattle.carried_books.specs.Joining.Earlier.{kept_as, registers_in, registers_kept, reported}
use Rattle.stored_files.specs.declared.joins.stored.JoinedOffice.{JoinedOffice}
use Rattle.file_commands.specs.JoinedReports.{JoinsPaths}

-- States that `registers` are the accounting registers (named counters) that were collected from
-- database files, each with its name, its meters and its energy by day.
abbrev pub AreRegistersOf : Option (JoinedOffice KeptRegisters) → List EarlierRegister → Type 0
AreRegistersOf None registers = registers ≡ []
AreRegistersOf (Some joined) registers =
    map reported registers ≡ map kept_as (registers_in joined.kept)

module _ {S : Type 0} (g : Ghosts S) (opens : List ℕ → Held S → Type 0) where
  -- States that `registers` are the accounting registers (named counters) of the database files at
  -- the given paths, which were opened one after another. Each register has its meters and its
  -- energy by day over all these files.
  pub record SumsFiles (paths : List (Bor (List ℕ))) (registers : List EarlierRegister) : Type 0
    where
      pub range : DayRange
      pub register : List ℕ
      pub joined : Option (JoinedOffice KeptRegisters)
      pub joins : JoinsPaths registers_kept g opens range register paths None joined
      pub are : AreRegistersOf joined registers
