-- Defines what the command `run --carry` does with its current database file: whether the command
-- keeps using the file, or continues all meters in the file of a new month or year.
use Rattle.std.specs.Prelude.{ℕ, List, Option}
use Rattle.std.specs.Borrow.{Bor}
use Rattle.sqlite.specs.Store.{Ghosts}
use Rattle.sqlite.specs.Held.{Held, state}
use Rattle.sqlite.specs.State.{HasCleanDisk}
use Rattle.interval_core.specs.Zone.{HasRule}
use Rattle.interval_core.specs.declared.zone.Zone.{Zone}
use Rattle.office_events.specs.declared.facts.Fact.{Fact}
use Rattle.office_books.specs.Facts.{latest_in}
use Rattle.office_store.specs.declared.books.SqlBooks.{SqlBooks}
use Rattle.run_schedule.specs.Periods.Courses.{IsCourse}
use Rattle.run_schedule.specs.declared.periods.courses.Course.{Course}
use Rattle.run_schedule.specs.declared.periods.courses.Rollover.{Rollover}
use Rattle.stored_files.specs.BooksFound.{ledger_beneath}

module _ {S : Type 0} (g : Ghosts S) where
  -- States that `course` is what `run --carry` does at the time `now` with a database file that has
  -- the records `facts` and the time zone `zone`. `led` is the period in the name of the file. The
  -- statement assumes that the disk returned what was written to it.
  pub record DecidesCourse (old : Held S) (zone : List ℕ) (by : Rollover)
      (led : Option (Bor (List ℕ))) (facts : List Fact) (now : ℕ) (course : Course) : Type 0 where
    pub asked : SqlBooks S g
    pub clean : (ledger_beneath g asked).is_clean → HasCleanDisk (state g old)
    pub decides : (ledger_beneath g asked).is_clean → (its : Zone) × HasRule zone its
        × IsCourse its by led (latest_in facts) now course
