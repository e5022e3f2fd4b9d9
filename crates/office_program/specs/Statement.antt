-- The result of a command that prints the statements of an accounting register's meters. A
-- statement is a report on one meter, to check a bill. The command opens an office (the event
-- engine) over a store.
use Rattle.std.specs.Prelude.{◌⊎◌, ℕ, List, Option}
use Rattle.std.specs.declared.io.Write as writers
use Rattle.mb_wire.specs.declared.sockets.clock.Clock as clocks
use Rattle.command_io.specs.declared.status.ExitStatus.{ExitStatus}
use Rattle.energy_report.specs.declared.form.StatementForm.{StatementForm}
use Rattle.interval_core.specs.declared.zone.Zone.{Zone}
use Rattle.office_events.specs.Names.{named}
use Rattle.office_books.specs.History.{History}
use Rattle.office_books.specs.Ledgers.{Ledger}
use Rattle.office_books.specs.declared.books.Books as stores
use Rattle.office_core.specs.Standing.{Stands}
use Rattle.office_core.specs.Taking.{failures_of}
use Rattle.office_core.specs.declared.office.Office.{Office}
use Rattle.office_program.specs.Texts.AskedOffice.{ReportsUnasked}
use Rattle.office_program.specs.Texts.EndTexts.{ReportsEnd}
use Rattle.office_program.specs.Texts.Statements.{StatementPrints}
use Rattle.office_program.specs.Opened.{OverStanding, WithAsked}

-- True if the statements (reports to check a bill) of the accounting register's meters were
-- printed, or the reason for a refusal was printed. The event engine was only queried.
pub record StatesMeters {B : Type 0} (ledger : B → Ledger) (zone : Zone)
    (register : Option (List ℕ)) (form : StatementForm) (had holds : Option (List ℕ))
    (status : ExitStatus) (following : History) (opened left : Office B) : Type 0 where
  pub prints : ReportsEnd (StatementPrints zone following register form
      (failures_of ledger opened) (failures_of ledger left)) status had holds
  pub stands : Stands ledger following left

-- True if the event engine was opened for queries and the meters' statements (reports to check a
-- bill) were printed in the store's time zone. Also true if opening was refused and only the
-- refusal was printed.
abbrev pub ReportsStatement : {B : Type 0} → (B → Ledger) → (past : History) → (register : List ℕ)
    → StatementForm → (moments later : Option (List ℕ)) → (books back : B)
    → (had holds : Option (List ℕ)) → ExitStatus → Type 0
ReportsStatement ledger past register form moments later books back had holds status =
    ReportsUnasked past moments later (ledger books) (ledger back) status had holds
    ⊎ WithAsked ledger past moments later back
    (StatesMeters ledger (ledger books).zone (named register) form had holds status)

-- The contract of the command that prints statements (reports on single meters), for any accepted
-- events that the store records. The definition `ReportsStatement` states the result.
abbrev pub StatementOver : {B C W : Type 0} → stores.Ghosts B → clocks.Ghosts C → writers.Ghosts W
    → (register : List ℕ) → StatementForm → (books back : B) → (before after : C) → (had holds : W)
    → ExitStatus → Type 0
StatementOver b c w register form books back before after had holds end =
    OverStanding b.ledger books back (λ past. ReportsStatement b.ledger past register form
    (c.moments before) (c.moments after) books back (w.contents had) (w.contents holds) end)
