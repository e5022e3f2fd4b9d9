-- The text of an accounting register's report on a range of days, in the
-- requested period, unit and format.
use Rattle.std.specs.Prelude.{◌≡◌, ℕ, List, map, Option, Some, Result, Ok, Err, if◌then◌else◌}
use Rattle.std.specs.Option.{option_and_then}
use Rattle.std.specs.declared.io.Write as writers
use Rattle.command_io.specs.declared.status.ExitStatus.{ExitStatus}
use Rattle.command_io.specs.declared.status.ExitStatus.TheVariants.{Fine, Failed, Refused}
use Rattle.energy_report.specs.Texts.{report_text}
use Rattle.energy_report.specs.Writing.{Finishes}
use Rattle.energy_report.specs.declared.form.ReportForm.{ReportForm}
use Rattle.energy_report.specs.declared.report_rows.ReportRows.{ReportRows}
use Rattle.interval_core.specs.Days.{account_of}
use Rattle.interval_core.specs.declared.totals.DayTotal.{DayTotal}
use Rattle.interval_core.specs.declared.zone.Zone.{Zone}
use Rattle.office_events.specs.declared.refusals.Refusal.{Refusal}
use Rattle.office_books.specs.Facts.{register_of}
use Rattle.office_books.specs.History.{History, facts_of}
use Rattle.office_books.specs.declared.books.Books as stores
use Rattle.office_books.specs.declared.failures.Failures.{Failures}
use Rattle.office_core.specs.Asking.{IsFound, is_there}
use Rattle.office_core.specs.DayRange.{AreDaysWithin}
use Rattle.office_core.specs.Standing.{After, books_in}
use Rattle.office_core.specs.Taking.{failures_of}
use Rattle.office_core.specs.declared.office.Office.{Office}
use Rattle.script_text.specs.AnswerText.{refused_line}
use Rattle.office_program.specs.Texts.EndTexts.{IsReported, ReportsEnd}
use Rattle.office_program.specs.Texts.Reports.{meant_by}

-- True if `text` is the text of an accounting register's report on a range
-- of days. The text has the days in the range, as civil days of the time zone, in the requested
-- period, unit and format.
--
-- If the event engine refuses an accounting register's report, the printed
-- text is only the refusal.
abbrev pub IsRangedReport : Zone → History → (register : Option (List ℕ)) → ReportForm
    → Result (Unit {0}) Refusal → (text : List ℕ) → Type 0
IsRangedReport zone past register form (Ok done) text =
    (days : List DayTotal)
    × AreDaysWithin zone (facts_of past) register form.range (map account_of days)
    × (text ≡ report_text form days)
IsRangedReport zone past register form (Err why) text = text ≡ refused_line why

-- The text and the exit status of an accounting register's report on a
-- range of days.
--
-- The report is refused if no accounting register (a named energy counter) has the requested name.
-- If a register has the name, the report is refused only because the store or memory failed, or the
-- event engine has stopped.
pub record RangePrints (zone : Zone) (past : History) (register : Option (List ℕ))
    (form : ReportForm) (before after : Failures) (text : List ℕ) (meant : ExitStatus) :
    Type 0 where
  pub reply : Result (Unit {0}) Refusal
  pub answer : let there = is_there (option_and_then (register_of (facts_of past)) register) in
      IsFound (there ≡ Some tt) there before after reply
  pub is : IsRangedReport zone past register form reply text
  pub means : meant ≡ meant_by reply

-- True if the office (the event engine) printed an accounting register's report from the records of
-- all accepted events, or a part of the report if a write failed.
abbrev pub ReportsRange : {B W : Type 0} → stores.Ghosts B → writers.Ghosts W
    → (register : Option (List ℕ)) → ReportForm → (old new : Office B) → (had holds : W)
    → ExitStatus → Type 0
ReportsRange b w register form old new had holds status = After b.ledger old new
    (λ past. ReportsEnd (RangePrints (b.ledger (books_in old)).zone past register form
    (failures_of b.ledger old) (failures_of b.ledger new))
    status (w.contents had) (w.contents holds))

-- True if the refusal of an energy report (the reason for printing no report) was printed, or a
-- part of the refusal if the write failed.
pub record PrintsRefusal {W : Type 0} (contents : W → Option (List ℕ)) (why : Refusal)
    (status : ExitStatus) (old new : ReportRows W) : Type 0 where
  pub output : new.output.ghost_name ≡ old.output.ghost_name
  pub reported : IsReported (refused_line why) Refused status (contents old.output.now)
      (contents new.output.now)

-- True if the text after the report's last row was printed. If any write of the report failed, the
-- exit status is `Failed`.
pub record PrintsLast {W : Type 0} (contents : W → Option (List ℕ)) (status : ExitStatus)
    (old new : ReportRows W) : Type 0 where
  pub finishes : Finishes contents old new
  pub means : status ≡ (if new.failed then Failed else Fine)

-- True if the text after the report's last row was printed, or if the report was refused and the
-- refusal was printed.
abbrev pub PrintsRest : {W : Type 0} → (W → Option (List ℕ)) → Result (Unit {0}) Refusal
    → ExitStatus → (old new : ReportRows W) → Type 0
PrintsRest contents (Ok done) status old new = PrintsLast contents status old new
PrintsRest contents (Err why) status old new = PrintsRefusal contents why status old new
