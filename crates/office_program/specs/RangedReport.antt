-- The result of a command that reports the energy of an accounting register (a named counter of a
-- device) on a range of days. The command opens an office (the event engine) over a store.
use Rattle.std.specs.Prelude.{◌⊎◌, ℕ, List, Option}
use Rattle.std.specs.declared.io.Write as writers
use Rattle.mb_wire.specs.declared.sockets.clock.Clock as clocks
use Rattle.command_io.specs.declared.status.ExitStatus.{ExitStatus}
use Rattle.energy_report.specs.declared.form.ReportForm.{ReportForm}
use Rattle.office_events.specs.Names.{named}
use Rattle.office_books.specs.History.{History}
use Rattle.office_books.specs.Ledgers.{Ledger}
use Rattle.office_books.specs.declared.books.Books as stores
use Rattle.office_core.specs.Standing.{Stands, books_in}
use Rattle.office_core.specs.Taking.{failures_of}
use Rattle.office_core.specs.declared.office.Office.{Office}
use Rattle.office_program.specs.Texts.AskedOffice.{ReportsUnasked}
use Rattle.office_program.specs.Texts.RangedReports.{RangePrints}
use Rattle.office_program.specs.Texts.EndTexts.{ReportsEnd}
use Rattle.office_program.specs.Opened.{OverStanding, WithAsked}

-- True if the accounting register's days in the range were printed in the
-- requested period, unit and format, or the reason for a refusal was printed. The event engine was
-- only queried.
pub record ReportsRange {B : Type 0} (ledger : B → Ledger) (register : Option (List ℕ))
    (form : ReportForm) (had holds : Option (List ℕ)) (status : ExitStatus) (following : History)
    (opened left : Office B) : Type 0 where
  pub prints : ReportsEnd (RangePrints (ledger (books_in opened)).zone following register form
      (failures_of ledger opened) (failures_of ledger left)) status had holds
  pub stands : Stands ledger following left

-- True if the event engine was opened for queries and the report was printed. Also true if opening
-- the engine was refused and only the refusal was printed.
abbrev pub AnswersRange : {B : Type 0} → (B → Ledger) → (past : History) → (register : List ℕ)
    → ReportForm → (moments later : Option (List ℕ)) → (books back : B)
    → (had holds : Option (List ℕ)) → ExitStatus → Type 0
AnswersRange ledger past register form moments later books back had holds status =
    ReportsUnasked past moments later (ledger books) (ledger back) status had holds
    ⊎ WithAsked ledger past moments later back
    (ReportsRange ledger (named register) form had holds status)

-- The contract of the command that reports an accounting register's energy
-- on a range of days, for any accepted events that the store records. The definition `AnswersRange`
-- states the result.
abbrev pub RangeOver : {B C W : Type 0} → stores.Ghosts B → clocks.Ghosts C → writers.Ghosts W
    → (register : List ℕ) → ReportForm → (books back : B) → (before after : C) → (had holds : W)
    → ExitStatus → Type 0
RangeOver b c w register form books back before after had holds end =
    OverStanding b.ledger books back (λ past. AnswersRange b.ledger past register form
    (c.moments before) (c.moments after) books back (w.contents had) (w.contents holds) end)
