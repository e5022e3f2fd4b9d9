-- The energy report on an accounting register (a named energy counter), over the earlier database
-- files of a store and the current file. The days of the earlier files are summed up, one file
-- after the other.
use Rattle.std.specs.Prelude.{◌≡◌, ◌⊎◌, ℕ, List, ◌∷◌, ◌++◌, Some, Result, Ok, Err, IfOk, OnOk}
use Rattle.energy_report.specs.declared.form.ReportForm.{ReportForm}
use Rattle.interval_core.specs.declared.zone.Zone.{Zone}
use Rattle.office_events.specs.declared.facts.Fact.{Fact}
use Rattle.office_events.specs.declared.refusals.Refusal.{Refusal}
use Rattle.office_events.specs.declared.refusals.Refusal.TheVariants as refusal
use Rattle.office_events.specs.declared.refusals.StoreCause.TheVariants as store
use Rattle.office_books.specs.Facts.{register_of}
use Rattle.office_books.specs.History.{facts_of}
use Rattle.office_books.specs.Ledgers.{Ledger}
use Rattle.office_books.specs.declared.failures.Failures.{Failures}
use Rattle.office_core.specs.Asking.{IsFound, OnlyAsks, is_there}
use Rattle.office_core.specs.DayRange.{span_of}
use Rattle.office_core.specs.Standing.{After}
use Rattle.office_core.specs.Taking.{failures_of}
use Rattle.office_core.specs.declared.office.Office.{Office}
use Rattle.carried_books.specs.Joining.Days.{AreOutOfTurn, AreSumOf, HasNumber}
use Rattle.carried_books.specs.Joining.Files.{rows_over}
use Rattle.carried_books.specs.Joining.Offices.{rows_of_both}
use Rattle.carried_books.specs.Joining.Reports.{IsReportOver}
use Rattle.carried_books.specs.declared.joining.days.EarlierDays.{EarlierDays}
use Rattle.run_http.specs.RegisterReplies.{with_energy_reply}

-- States that the response reports the days of the current file and of the earlier files of the
-- store (`files`). There is no report if the current file does not have the accounting register (a
-- named energy counter), or the store or memory failed. There is also no report if the program
-- refuses all events after a failure, or if quarter hours of the range are out of order.
abbrev pub ReportsOver : Zone → (facts : List Fact) → (files : List (List Fact))
    → (register : List ℕ) → ReportForm → (before after : Failures)
    → Result (Unit {0}) Refusal → (text : List ℕ) → Type 0
ReportsOver zone facts files register form before after (Ok done) text =
    (is_there (register_of facts register) ≡ Some tt) × (after ≡ before)
    × IsReportOver zone register (facts ∷ files) form text
ReportsOver zone facts files register form before after (Err why) text =
    let there = is_there (register_of facts register) in
    IsFound {T = Unit {0}} (there ≡ Some tt) there before after (Err why)
    ⊎ ((why ≡ refusal.Store store.NoDay) × (after ≡ before)
    × AreOutOfTurn (rows_of_both (span_of form.range) (rows_over register files) facts register))

-- States that the reported days are the sums of the energy in the current database file and in the
-- earlier files. Nothing is stated if the total energy in mWh does not fit in 128 bits.
abbrev pub ReportsReportOver : {B : Type 0} → (B → Ledger) → (old new : Office B) → Zone
    → (earlier : EarlierDays) → (register : List ℕ) → ReportForm → Result (Unit {0}) Refusal
    → (text : List ℕ) → Type 0
ReportsReportOver ledger old new zone earlier register form answer text =
    After ledger old new (λ past. (files : List (List Fact))
    → AreSumOf zone (rows_over register files) earlier
    → HasNumber (rows_over register (facts_of past ∷ files))
    → ReportsOver zone (facts_of past) files register form
    (failures_of ledger old) (failures_of ledger new) answer text)

-- The contract of a function that queries the store once and appends the energy report. The
-- function appends no report if the program refuses the query or memory runs out.
pub record AsksEnergyOver {B : Type 0} (ledger : B → Ledger) (old new : Office B)
    (zone : Zone) (earlier : EarlierDays) (register : List ℕ) (form : ReportForm) (had holds : List ℕ)
    {E : Type 0} (result : Result (Result (Unit {0}) Refusal) E) : Type 0 where
  pub answer : Result (Unit {0}) Refusal
  pub report : List ℕ
  pub asks : OnlyAsks ledger old new answer
  pub gives : IfOk result (λ reported. reported ≡ answer)
  pub reports : OnOk result
      (ReportsReportOver ledger old new zone earlier register form answer report)
  pub puts : OnOk result (OnOk answer (holds ≡ had ++ report))

-- The contract of a function that responds to a query for energy. The function queries the store
-- once. Unless memory ran out, it then appends the energy report as a response, or an error
-- response if the program refused the query.
pub record RepliesEnergyOver {B : Type 0} (ledger : B → Ledger) (old new : Office B)
    (zone : Zone) (earlier : EarlierDays) (register : List ℕ) (form : ReportForm) (from to : List ℕ)
    {E : Type 0} (result : Result (Unit {0}) E) : Type 0 where
  pub answer : Result (Unit {0}) Refusal
  pub report : List ℕ
  pub asks : OnlyAsks ledger old new answer
  pub reports : OnOk result
      (ReportsReportOver ledger old new zone earlier register form answer report)
  pub puts : OnOk result (to ≡ with_energy_reply answer report from)
