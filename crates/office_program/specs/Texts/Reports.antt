-- The printed text of an accounting register's energy report: the energy
-- of its days, or the reason why the program refused the report.
use Rattle.std.specs.Prelude.{◌≡◌, ℕ, List, map, Option, Some, Result, Ok, Err}
use Rattle.std.specs.Option.{option_and_then}
use Rattle.std.specs.declared.io.Write as writers
use Rattle.command_io.specs.declared.status.ExitStatus.{ExitStatus}
use Rattle.command_io.specs.declared.status.ExitStatus.TheVariants.{Fine, Refused}
use Rattle.interval_core.specs.Days.{account_of}
use Rattle.interval_core.specs.declared.totals.DayTotal.{DayTotal}
use Rattle.interval_core.specs.declared.zone.Zone.{Zone}
use Rattle.office_events.specs.declared.refusals.Refusal.{Refusal}
use Rattle.office_books.specs.Facts.{register_of}
use Rattle.office_books.specs.History.{History, facts_of}
use Rattle.office_books.specs.declared.failures.Failures.{Failures}
use Rattle.office_books.specs.Ledgers.{Ledger}
use Rattle.office_books.specs.declared.books.Books as stores
use Rattle.office_core.specs.Asking.{AreDaysNamed, IsFound, OnlyAsks, is_there}
use Rattle.office_core.specs.Standing.{After, books_in}
use Rattle.office_core.specs.Taking.{failures_of}
use Rattle.office_core.specs.declared.office.Office.{Office}
use Rattle.interval_core.specs.Lines.{days_text, end_line}
use Rattle.script_text.specs.AnswerText.{refused_line}
use Rattle.office_program.specs.Texts.EndTexts.{ReportsEnd}

-- The exit status of a command that prints a report. If the report was refused, the status is
-- `Refused`, otherwise `Fine`.
abbrev pub meant_by : Result (Unit {0}) Refusal → ExitStatus
meant_by (Ok done) = Fine
meant_by (Err why) = Refused

-- The last line of a report: the number of its days, or the refusal.
abbrev pub last_line : (count : ℕ) → Result (Unit {0}) Refusal → List ℕ
last_line count (Ok done) = end_line count
last_line count (Err why) = refused_line why

-- True if `text` is the text of an accounting register's report. The text
-- has all days of the register, as civil days of the time zone, in ascending order.
--
-- If the event engine refuses an accounting register's report, the printed
-- text is only the refusal.
abbrev pub IsReport : Zone → History → (register : Option (List ℕ)) → Result (Unit {0}) Refusal
    → (text : List ℕ) → Type 0
IsReport zone past register (Ok done) text =
    (days : List DayTotal) × AreDaysNamed zone (facts_of past) register (map account_of days)
    × (text ≡ days_text days)
IsReport zone past register (Err why) text = text ≡ refused_line why

-- The text and the exit status of an accounting register's report.
--
-- The report is refused if no accounting register (a named energy counter) has the requested name.
-- If a register has the name, the report is refused only because the store or memory failed, or the
-- event engine has stopped.
pub record ReportPrints (zone : Zone) (past : History) (register : Option (List ℕ))
    (before after : Failures)
    (text : List ℕ) (meant : ExitStatus) : Type 0 where
  pub reply : Result (Unit {0}) Refusal
  pub answer : let there = is_there (option_and_then (register_of (facts_of past)) register) in
      IsFound (there ≡ Some tt) there before after reply
  pub is : IsReport zone past register reply text
  pub means : meant ≡ meant_by reply

-- True if the office (the event engine) printed an accounting register's report from the records of
-- all accepted events, or a part of the report if a write failed.
abbrev pub ReportsDays : {B W : Type 0} → stores.Ghosts B → writers.Ghosts W
    → (register : Option (List ℕ)) → (old new : Office B) → (had holds : W) → ExitStatus → Type 0
ReportsDays b w register old new had holds status = After b.ledger old new
    (λ past. ReportsEnd (ReportPrints (b.ledger (books_in old)).zone past register
    (failures_of b.ledger old) (failures_of b.ledger new))
    status (w.contents had) (w.contents holds))

-- True if a command of `sunreg` only queried the event engine, and the engine answered or refused
-- the query. The engine's accepted events are unchanged.
pub record Asks {B : Type 0} (ledger : B → Ledger) (old new : Office B) : Type 0 where
  pub reply : Result (Unit {0}) Refusal
  pub only : OnlyAsks ledger old new reply
