-- The result of a command that reports the energy of an accounting register (a named counter of a
-- device) by civil day. The command opens an office (the event engine) over a store.
use Rattle.std.specs.Prelude.{◌⊎◌, ℕ, List, Option}
use Rattle.std.specs.declared.io.Write as writers
use Rattle.mb_wire.specs.declared.sockets.clock.Clock as clocks
use Rattle.command_io.specs.declared.status.ExitStatus.{ExitStatus}
use Rattle.office_events.specs.Names.{named}
use Rattle.office_books.specs.History.{History}
use Rattle.office_books.specs.Ledgers.{Ledger}
use Rattle.office_books.specs.declared.books.Books as stores
use Rattle.office_core.specs.Standing.{Stands, books_in}
use Rattle.office_core.specs.Taking.{failures_of}
use Rattle.office_core.specs.declared.office.Office.{Office}
use Rattle.office_program.specs.Texts.AskedOffice.{ReportsUnasked}
use Rattle.office_program.specs.Texts.Reports.{ReportPrints}
use Rattle.office_program.specs.Texts.EndTexts.{ReportsEnd}
use Rattle.office_program.specs.Opened.{OverStanding, WithAsked}

-- True if all days of the accounting register (a named energy counter) were printed with their
-- energy, or the reason for a refusal was printed. The event engine was only queried.
pub record Reports {B : Type 0} (ledger : B → Ledger) (register had holds : Option (List ℕ))
    (status : ExitStatus) (following : History) (opened left : Office B) : Type 0 where
  pub prints : ReportsEnd (ReportPrints (ledger (books_in opened)).zone following register
      (failures_of ledger opened) (failures_of ledger left)) status had holds
  pub stands : Stands ledger following left

-- True if the event engine was opened for queries and the report was printed. Also true if opening
-- the engine was refused and only the refusal was printed.
abbrev pub ReportsReport : {B : Type 0} → (B → Ledger) → (past : History) → (register : List ℕ)
    → (moments later : Option (List ℕ)) → (books back : B) → (had holds : Option (List ℕ))
    → ExitStatus → Type 0
ReportsReport ledger past register moments later books back had holds status =
    ReportsUnasked past moments later (ledger books) (ledger back) status had holds
    ⊎ WithAsked ledger past moments later back (Reports ledger (named register) had holds status)

-- The contract of the command that reports an accounting register's energy
-- on all days, for any accepted events that the store records. The definition `ReportsReport`
-- states the result.
abbrev pub ReportsOver : {B C W : Type 0} → stores.Ghosts B → clocks.Ghosts C → writers.Ghosts W
    → (register : List ℕ) → (books back : B) → (before after : C) → (had holds : W) → ExitStatus
    → Type 0
ReportsOver b c w register books back before after had holds end =
    OverStanding b.ledger books back (λ past. ReportsReport b.ledger past register (c.moments before)
    (c.moments after) books back (w.contents had) (w.contents holds) end)
