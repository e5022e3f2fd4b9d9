-- Lemmas: the response to a query for energy has the energy of an accounting register (a named
-- energy counter) over the earlier and the current database files of a store.
use Rattle.std.proofs.Common.{◌≡◌, ℕ, inl, inr, List, [], ◌∷◌, ◌++◌, map, Some, Result, Ok, Err, IsErr, refl, sym, ap, subst, ◌∙◌}
use Rattle.std.specs.Prelude.{OnOk}
use Rattle.std.specs.declared.alloc.Global.{Global}
use Rattle.std.specs.declared.vec.Vec.{Vec}
use Rattle.command_io.specs.declared.status.ExitStatus.{ExitStatus}
use Rattle.command_io.specs.declared.status.ExitStatus.TheVariants.{Fine, Failed}
use Rattle.energy_report.specs.Texts.{report_text}
use Rattle.energy_report.specs.declared.form.ReportForm.{ReportForm}
use Rattle.interval_core.specs.Days.{AccountsAreOne}
use Rattle.interval_core.specs.declared.totals.DayTotal.{DayTotal}
use Rattle.interval_core.specs.declared.zone.Zone.{Zone}
use Rattle.office_events.specs.declared.facts.Fact.{Fact}
use Rattle.office_events.specs.declared.refusals.Refusal.{Refusal}
use Rattle.office_books.specs.Facts.{register_of}
use Rattle.office_books.specs.History.{facts_of}
use Rattle.office_books.specs.Intervals.{rows_of_register}
use Rattle.office_books.specs.Ledgers.{Ledger}
use Rattle.office_books.specs.declared.failures.Failures.{Failures}
use Rattle.office_books.specs.declared.spans.Span.{Span}
use Rattle.office_core.specs.Asking.{OnlyAsks, is_there}
use Rattle.office_core.specs.DayRange.{span_of}
use Rattle.office_core.specs.Taking.{failures_of}
use Rattle.office_core.specs.declared.office.Office.{Office}
use Rattle.office_core.proofs.SeveralAsked.{now_as, refused_as}
use Rattle.office_program.specs.Texts.EndTexts.{IsReported}
use Rattle.carried_books.specs.Joining.Days.{HasNumber}
use Rattle.carried_books.specs.Joining.Files.{rows_over}
use Rattle.carried_books.specs.Joining.Offices.{ListsOver, ReportsDaysOver, rows_of_both}
use Rattle.carried_books.specs.declared.joining.days.EarlierDays.{EarlierDays}
use Rattle.carried_books.proofs.JoiningLemmas.Reports.{report_with, with_number}
use Rattle.run_http.specs.RegisterReplies.{with_energy_reply}
use Rattle.office_running.specs.Http.EnergyOver.{AsksEnergyOver, RepliesEnergyOver, ReportsOver, ReportsReportOver}

-- If the status of a write to the output is `Fine`, then the complete text was written.
pub append_whole : (text : List ℕ) (status : ExitStatus) (had holds : List ℕ) → status ≡ Fine → IsReported text Fine status (Some had) (Some holds) → holds ≡ had ++ text
append_whole text status had holds fine (inl reported) = reported.1
append_whole text status had holds fine (inr failed) = absurd (let e : Fine ≡ Failed = sym fine ∙ failed.0 in cc e)

-- Lemmas: if the energy of days was summed up over several database files, then the energy report
-- has these sums.

module _ {B : Type 0} (ledger : B → Ledger) (a b : Office B) (zone : Zone) (earlier : EarlierDays) (register : List ℕ) (form : ReportForm) where
  abbrev asked : Span
  asked = span_of form.range

  fit_both : (facts : List Fact) (files : List (List Fact)) → HasNumber (rows_over register (facts ∷ files))
      → HasNumber (rows_of_both asked (rows_over register files) facts register)
  fit_both facts files fits = with_number asked (rows_over register files) (rows_of_register facts register) fits

  why_not : (why : Refusal) (facts : List Fact) (files : List (List Fact)) (before after : Failures)
      → ListsOver zone (rows_of_both asked (rows_over register files) facts register) (is_there (register_of facts register)) before after (Err why)
      → (text : List ℕ) → ReportsOver zone facts files register form before after (Err why) text
  why_not why facts files before after (inl found) text = inl found
  why_not why facts files before after (inr out) text = inr out

  pub refused : {E : Type 0} (had : List ℕ) (why : Refusal) → OnlyAsks {T = Vec DayTotal Global} ledger a b (Err why)
      → ReportsDaysOver ledger a b zone earlier register asked (Err why) → AsksEnergyOver ledger a b zone earlier register form had had {E = E} (Ok (Err why))
  refused had why asks reports = record {
    answer = Err why;
    report = [];
    asks = refused_as ledger {T = Vec DayTotal Global} {U = Unit {0}} a b why asks;
    gives = refl;
    reports = λ past stands clean files added fits.
        why_not why (facts_of past) files (failures_of ledger a) (failures_of ledger b)
        (reports past stands clean (rows_over register files) added (fit_both (facts_of past) files fits)) [];
    puts = tt;
  }

  as_reported : AccountsAreOne → (days : Vec DayTotal Global) → ReportsDaysOver ledger a b zone earlier register asked (Ok days)
      → ReportsReportOver ledger a b zone earlier register form (Ok tt) (report_text form days.items)
  as_reported one days reports = λ past stands clean files added fits.
      let facts = facts_of past in
      let it = reports past stands clean (rows_over register files) added (fit_both facts files fits) in
      (it.0, it.1, report_with zone register facts files form days.items one it.2)

  pub answered : {E : Type 0} (had holds : List ℕ) (days : Vec DayTotal Global) → AccountsAreOne → OnlyAsks ledger a b (Ok days)
      → ReportsDaysOver ledger a b zone earlier register asked (Ok days) → holds ≡ had ++ report_text form days.items
      → AsksEnergyOver ledger a b zone earlier register form had holds {E = E} (Ok (Ok tt))
  answered had holds days one asks reports puts = record {
    answer = Ok tt;
    report = report_text form days.items;
    asks = now_as ledger {T = Vec DayTotal Global} {U = Unit {0}} a b days tt asks;
    gives = refl;
    reports = as_reported one days reports;
    puts = puts;
  }

  -- If memory for the energy report runs out, then the function that writes the report returns an
  -- error, and its postcondition holds for any written text.
  pub unwritten : {E : Type 0} (had holds : List ℕ) (days : Vec DayTotal Global) (result : Result (Result (Unit {0}) Refusal) E) → OnlyAsks ledger a b (Ok days)
      → IsErr result → AsksEnergyOver ledger a b zone earlier register form had holds result
  unwritten had holds days (Ok reported) asks fault = cc fault
  unwritten had holds days (Err why) asks fault = record {
    answer = Ok tt;
    report = [];
    asks = now_as ledger {T = Vec DayTotal Global} {U = Unit {0}} a b days tt asks;
    gives = tt;
    reports = tt;
    puts = tt;
  }

  -- Lemmas: if the energy report was written, then the response has this report. If memory runs
  -- out, the function that builds the response returns an error.

  write_as : (answer reported : Result (Unit {0}) Refusal) (body report from to : List ℕ) → reported ≡ answer → OnOk answer (body ≡ report)
      → to ≡ with_energy_reply reported body from → to ≡ with_energy_reply answer report from
  write_as (Ok done) reported body report from to is same puts = puts ∙ ap (λ t. with_energy_reply t body from) is ∙ ap (λ t. with_energy_reply (Ok done) t from) same
  write_as (Err why) reported body report from to is same puts = puts ∙ ap (λ t. with_energy_reply t body from) is

  alone : (answer : Result (Unit {0}) Refusal) (had holds report : List ℕ) → had ≡ [] → OnOk answer (holds ≡ had ++ report) → OnOk answer (holds ≡ report)
  alone (Ok done) had holds report none is = is ∙ ap (λ t. t ++ report) none
  alone (Err why) had holds report none is = tt

  pub replied : {E F : Type 0} (had body from to : List ℕ) (reported : Result (Unit {0}) Refusal) (result : Result (Unit {0}) E)
      → AsksEnergyOver ledger a b zone earlier register form had body {E = F} (Ok reported) → had ≡ []
      → OnOk result (to ≡ with_energy_reply reported body from) → RepliesEnergyOver ledger a b zone earlier register form from to result
  replied had body from to reported (Ok done) asks none puts = record {
    answer = asks.answer;
    report = asks.report;
    asks = asks.asks;
    reports = asks.reports;
    puts = write_as asks.answer reported body asks.report from to asks.gives (alone asks.answer had body asks.report none asks.puts) puts;
  }
  replied had body from to reported (Err why) asks none puts = record {
    answer = asks.answer;
    report = asks.report;
    asks = asks.asks;
    reports = tt;
    puts = tt;
  }

  pub lacked : {E F : Type 0} (had holds from to : List ℕ) (reported : Result (Result (Unit {0}) Refusal) F) (result : Result (Unit {0}) E)
      → AsksEnergyOver ledger a b zone earlier register form had holds reported → IsErr result
      → RepliesEnergyOver ledger a b zone earlier register form from to result
  lacked had holds from to reported (Ok done) asks fault = cc fault
  lacked had holds from to reported (Err why) asks fault = record {
    answer = asks.answer;
    report = asks.report;
    asks = asks.asks;
    reports = tt;
    puts = tt;
  }
