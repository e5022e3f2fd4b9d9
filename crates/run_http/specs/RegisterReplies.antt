-- The responses to queries for the energy of an accounting register (a named counter of a device).
use Rattle.std.specs.Prelude.{◌≡◌, ℕ, false, List, map, Option, Some, Result, Ok, Err, IfOk, OnOk, codes}
use Rattle.std.specs.Option.{option_and_then}
use Rattle.std.specs.Io.KnownBytes.{Appends}
use Rattle.energy_report.specs.Texts.{report_text}
use Rattle.energy_report.specs.Writing.{Finishes}
use Rattle.energy_report.specs.declared.form.ReportForm.{ReportForm}
use Rattle.energy_report.specs.declared.report_rows.ReportRows.{ReportRows}
use Rattle.office_http.specs.declared.messages.status.Status.TheVariants.{Fine}
use Rattle.interval_core.specs.Days.{account_of}
use Rattle.interval_core.specs.declared.totals.DayTotal.{DayTotal}
use Rattle.interval_core.specs.declared.zone.Zone.{Zone}
use Rattle.office_events.specs.declared.refusals.Refusal.{Refusal}
use Rattle.office_books.specs.Facts.{register_of}
use Rattle.office_books.specs.History.{History, facts_of}
use Rattle.office_books.specs.Ledgers.{Ledger}
use Rattle.office_books.specs.declared.failures.Failures.{Failures}
use Rattle.office_core.specs.Asking.{IsFound, OnlyAsks, is_there}
use Rattle.office_core.specs.DayRange.{AreDaysWithin}
use Rattle.office_core.specs.Standing.{After, books_in}
use Rattle.office_core.specs.Taking.{failures_of}
use Rattle.office_core.specs.declared.office.Office.{Office}
use Rattle.run_http.specs.SiteReply.{with_refusal}
use Rattle.run_http.specs.StatusRoute.{with_reply}

-- States that a function writes the last row and the end of an energy report, unless memory runs
-- out.
pub record PutsLast {W E : Type 0} (contents : W → Option (List ℕ))
    (result : Result (Result (Unit {0}) Refusal) E) (old new : ReportRows W) : Type 0 where
  pub finishes : Finishes contents old new
  pub whole : OnOk result (new.failed ≡ false)

-- States that the condition `Is` holds for the text of a report on the daily energy of an
-- accounting register (a named energy counter). The report covers the range of days that the query
-- names, in the site's time zone.
abbrev pub IsReport : Zone → History → (register : Option (List ℕ)) → ReportForm
    → (Is : List ℕ → Type 0) → Type 0
IsReport zone past register form Is =
    (days : List DayTotal)
    × AreDaysWithin zone (facts_of past) register form.range (map account_of days)
    × Is (report_text form days)

-- States that a function writes the energy report, or the program refuses the query. Causes of a
-- refusal: no accounting register (a named energy counter) has the name, the store or memory
-- failed, or an earlier failure makes the program refuse all events. The program allocates memory
-- only for the days of a register that exists.
pub record ReportsDays (zone : Zone) (past : History) (register : Option (List ℕ))
    (form : ReportForm) (before after : Failures) (answer : Result (Unit {0}) Refusal)
    (Is : List ℕ → Type 0) : Type 0 where
  pub found : let there = is_there (option_and_then (register_of (facts_of past)) register) in
      IsFound (there ≡ Some tt) there before after answer
  pub report : OnOk answer (IsReport zone past register form Is)

-- States that the energy report is what the events accepted before the query determine
-- (`ReportsDays`).
abbrev pub ReportsDaysReport : {B : Type 0} → (B → Ledger) → (old new : Office B)
    → (register : Option (List ℕ)) → ReportForm → Result (Unit {0}) Refusal → (Is : List ℕ → Type 0)
    → Type 0
ReportsDaysReport ledger old new register form answer Is = After ledger old new
    (λ past. ReportsDays (ledger (books_in old)).zone past register form
    (failures_of ledger old) (failures_of ledger new) answer Is)

-- The contract of a function that queries the store once for the energy report and writes the
-- report. If memory for the report runs out, the text that was written is not specified.
pub record AsksEnergy {B : Type 0} (ledger : B → Ledger) (old new : Office B)
    (register : Option (List ℕ)) (form : ReportForm) (had holds : Option (List ℕ)) {E : Type 0}
    (result : Result (Result (Unit {0}) Refusal) E) : Type 0 where
  pub answer : Result (Unit {0}) Refusal
  pub asks : OnlyAsks ledger old new answer
  pub gives : IfOk result (λ reported. reported ≡ answer)
  pub reports : OnOk result (ReportsDaysReport ledger old new register form answer (Appends had holds))

-- The response with the energy report, or an error response if the program refused the query.
abbrev pub with_energy_reply : Result (Unit {0}) Refusal → (report : List ℕ) → List ℕ → List ℕ
with_energy_reply (Ok done) report text = with_reply Fine (codes "text/plain") report text
with_energy_reply (Err why) report text = with_refusal why text

-- The contract of a function that responds to a query for energy. The function queries the store
-- once. Unless memory runs out, it then appends the report as a response, or an error response if
-- the program refused the query.
pub record RepliesEnergy {B : Type 0} (ledger : B → Ledger) (old new : Office B)
    (register : Option (List ℕ)) (form : ReportForm) (from to : List ℕ) {E : Type 0}
    (result : Result (Unit {0}) E) : Type 0 where
  pub answer : Result (Unit {0}) Refusal
  pub report : List ℕ
  pub asks : OnlyAsks ledger old new answer
  pub reports : OnOk result
      (ReportsDaysReport ledger old new register form answer (λ text. report ≡ text))
  pub puts : OnOk result (to ≡ with_energy_reply answer report from)
