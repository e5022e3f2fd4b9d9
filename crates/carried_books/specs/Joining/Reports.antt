-- The report of an accounting register (a named counter) over several database files, on a range of
-- days.
use Rattle.std.specs.Prelude.{◌≡◌, ◌↔◌, ℕ, List, [], ◌∷◌, ◌++◌, map, Option, Some}
use Rattle.std.specs.declared.io.Write as writers
use Rattle.command_io.specs.declared.status.ExitStatus.{ExitStatus}
use Rattle.command_io.specs.declared.status.ExitStatus.TheVariants.{Fine}
use Rattle.energy_report.specs.Texts.{report_text}
use Rattle.energy_report.specs.declared.form.ReportForm.{ReportForm}
use Rattle.interval_core.specs.Days.{AreAccounts, DayAccount, account_of}
use Rattle.interval_core.specs.declared.shares.Share.{Share}
use Rattle.interval_core.specs.declared.day_range.DayRange.{DayRange}
use Rattle.interval_core.specs.declared.totals.DayTotal.{DayTotal}
use Rattle.interval_core.specs.declared.zone.Zone.{Zone}
use Rattle.meter_journal.specs.Audit.Carried.{AreCountedOnce}
use Rattle.office_core.specs.DayRange.{AreDaysWithin, accounts_within, span_of}
use Rattle.office_events.specs.declared.facts.Fact.{Fact}
use Rattle.office_program.specs.Texts.EndTexts.{IsReported}
use Rattle.carried_books.specs.Joining.Days.{HasNumber}
use Rattle.carried_books.specs.Joining.Files.{HasJoined, rows_over}
use Rattle.carried_books.specs.declared.joining.files.JoinedFiles.{JoinedFiles}

-- True if `days` are the civil days in the requested range, with the energy of the intervals of an
-- accounting register (a named counter) in all database files.
pub record AreDaysOver (zone : Zone) (register : List ℕ) (files : List (List Fact))
    (range : DayRange) (days : List DayAccount) : Type 0 where
  pub all : List DayAccount
  pub are : AreAccounts zone (rows_over register files) all
  pub asked : days ≡ accounts_within range all

-- The text of the report of an accounting register (a named counter) over all database files. The
-- text has the register's energy by day in the range, by the clocks of the time zone, in the
-- requested units and format.
abbrev pub IsReportOver : Zone → (register : List ℕ) → (files : List (List Fact)) → ReportForm
    → (text : List ℕ) → Type 0
IsReportOver zone register files form text = (days : List DayTotal)
    × AreDaysOver zone register files form.range (map account_of days)
    × (text ≡ report_text form days)

-- The report of a register (a named counter) over all database files was printed. If a write
-- failed, only a beginning of the report was printed.
pub record PrintsOver (zone : Zone) (register : List ℕ) (files : List (List Fact))
    (form : ReportForm) (status : ExitStatus) (had holds : Option (List ℕ)) : Type 0 where
  pub text : List ℕ
  pub is : IsReportOver zone register files form text
  pub reported : IsReported text Fine status had holds

-- Suppose that the total energy fits in 128 bits. Then the report of a register (a named counter)
-- was printed from the data of files that join (have one history of the register).
abbrev pub ReportsJoined : {W : Type 0} → writers.Ghosts W → JoinedFiles → ReportForm
    → (had holds : W) → ExitStatus → Type 0
ReportsJoined w joined form had holds status =
    (zone : Zone) (register : List ℕ) (files : List (List Fact))
    → HasJoined zone (span_of form.range) register files joined
    → HasNumber (rows_over register files)
    → PrintsOver zone register files form status (w.contents had) (w.contents holds)

-- The theorem that a report over one database file has the energy by day of the accounting register
-- (a named counter) in this file.
abbrev pub OneFileReportsItsDays : Type 0
OneFileReportsItsDays = (zone : Zone) (register : List ℕ) (facts : List Fact) (range : DayRange)
    (days : List DayAccount)
    → AreDaysOver zone register (facts ∷ []) range days
    ↔ AreDaysWithin zone facts (Some register) range days

-- The theorem that a report of a meter's energy by day over two database files equals the report
-- over a single file.
--
-- The theorem on a meter's report over two database files assumes that the second file continues
-- the meter from its state at the end of the first. The single file, whose report equals that over
-- both files, has the complete history of the meter.
abbrev pub BothFilesTellTheJoinedDays : Type 0
BothFilesTellTheJoinedDays = (zone : Zone) (old new both : List Share) (accounts : List DayAccount)
    → AreCountedOnce old new both
    → AreAccounts zone (old ++ new) accounts → AreAccounts zone both accounts
