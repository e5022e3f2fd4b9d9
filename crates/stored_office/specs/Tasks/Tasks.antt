-- Defines what each task of the program (such as `report`, `serve` or `run`) does to the store in a
-- database, what it prints, and its results.
use Rattle.std.specs.Prelude.{ℕ, List, Option}
use Rattle.sqlite.specs.Store.{Ghosts}
use Rattle.office_books.specs.History.{History}
use Rattle.office_books.specs.Ledgers.{Ledger}
use Rattle.office_http.specs.Messages.Hosts.{texts}
use Rattle.office_program.specs.Report.{ReportsReport}
use Rattle.office_program.specs.RangedReport.{AnswersRange}
use Rattle.office_program.specs.Statement.{ReportsStatement}
use Rattle.office_program.specs.HttpPort.{ReportsServing, port as port_of}
use Rattle.office_program.specs.PortRound.{ReportsPolling}
use Rattle.office_program.specs.Entering.Entered.{ReportsEntering}
use Rattle.office_program.specs.Entering.Lines.{Reporting}
use Rattle.office_running.specs.Runs.{BooksRun}
use Rattle.office_program.specs.declared.port_round.PollEnd.{PollEnd}
use Rattle.run_http.specs.Status.Advice.Lacks.{LooksUp}
use Rattle.stored_office.specs.OverBooks.{OverBooks, ledger_in}
use Rattle.stored_office.specs.declared.tasks.tasks.Task.{Task}
use Rattle.stored_office.specs.declared.tasks.tasks.Task.TheVariants as task
use Rattle.stored_office.specs.declared.tasks.tasks.Done.{Done}
use Rattle.stored_office.specs.declared.tasks.tasks.Done.TheVariants.{Reported, Served, Entered, Polled, Ran}

-- True if a result is of the kind that a task returns. A task is the work of one command on the
-- store, such as a report, serving HTTP, or a polling round.
abbrev pub IsOf : Task → Done → Type 0
IsOf (task.Report register) (Reported end) = Unit {0}
IsOf (task.ReportRange register form) (Reported end) = Unit {0}
IsOf (task.Statement register form) (Reported end) = Unit {0}
IsOf (task.Serve host port names connections) (Served end) = Unit {0}
IsOf (task.Enter caller text) (Entered end) = Unit {0}
IsOf (task.Round device host port) (Polled end) = Unit {0}
IsOf (task.Run settings sites) (Ran end) = Unit {0}
IsOf _ _ = ⊥

module _ {B : Type 0} (ledger : B → Ledger) where
  -- States that a round of polls ran over a store. A query for missing parts of the device's setup
  -- may have followed.
  abbrev pub PollsAndLooks : (past : History) → (device : List ℕ)
      → (moments later : Option (List ℕ)) → (found left : B) → (had holds : Option (List ℕ))
      → PollEnd → Type 0
  PollsAndLooks past device moments later found left had holds end =
      (polled : B) × ReportsPolling ledger past device moments later found polled had holds end
      × LooksUp (ledger polled) (ledger left)

module _ {B : Type 0} (ledger : B → Ledger) (reports : Reporting) (past : History) where
  -- States that a task (the work of one command on the store) fulfilled its specification. It
  -- changed the store from `found` to `left` and the output from `had` to `holds`, and returned the
  -- given result. `reports` has the possible results of reading the files and device counters that
  -- an input text of the command `enter` names.
  unfoldable pub Does : (moments later had holds : Option (List ℕ))
      → (found left : B) → Task → Done → Type 0
  Does moments later had holds found left (task.Report register) (Reported end) =
      ReportsReport ledger past register.now moments later found left had holds end
  Does moments later had holds found left (task.ReportRange register form) (Reported end) =
      AnswersRange ledger past register.now form.now moments later found left had holds end
  Does moments later had holds found left (task.Statement register form) (Reported end) =
      ReportsStatement ledger past register.now form.now moments later found left had holds end
  Does moments later had holds found left (task.Serve host port names connections) (Served end) =
      ReportsServing ledger past (port_of (texts names.now) connections) moments later found left had
      holds end
  Does moments later had holds found left (task.Enter caller text) (Entered end) =
      ReportsEntering ledger past reports caller.now text.now moments later found left had holds end
  Does moments later had holds found left (task.Round device host port) (Polled end) =
      PollsAndLooks ledger past device.now moments later found left had holds end
  Does moments later had holds found left (task.Run settings sites) (Ran end) =
      BooksRun (texts settings.now.host_names.now) moments later (ledger left) past
  Does moments later had holds found left _ _ = ⊥

-- States that the task ran over the store that was opened from a database, with the changes, the
-- output and the result that `Does` (the specification of all tasks) states.
abbrev pub DoesOver : {S : Type 0} → Ghosts S → Reporting → (past : History)
    → (moments later had holds : Option (List ℕ)) → Task → Done → Type 0
DoesOver g reports past moments later had holds asked end = OverBooks g past (λ found left.
    Does (ledger_in g) reports past moments later had holds found left asked end)
