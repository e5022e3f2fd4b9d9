-- Lemmas: the energy report has all requested days in order, or the function that writes it returns
-- an error.
use Rattle.std.proofs.Common.{◌≡◌, ℕ, Bool, Option, Some, List, [], ◌∷◌, ◌++◌, Result, Ok, Err, IsErr, sym, subst, ap, ◌∙◌, append-nil, append_assoc}
use Rattle.std.specs.Prelude.{OnOk}
use Rattle.std.specs.Io.KnownBytes.{Appends}
use Rattle.energy_report.specs.Texts.{report_text}
use Rattle.energy_report.specs.Writing.{GotUnless, HasTaken, IsFresh, TakesDay}
use Rattle.energy_report.specs.declared.form.ReportForm.{ReportForm}
use Rattle.energy_report.specs.declared.report_rows.ReportRows.{ReportRows}
use Rattle.interval_core.specs.declared.totals.DayTotal.{DayTotal}
use Rattle.interval_core.specs.declared.zone.Zone.{Zone}
use Rattle.office_books.specs.Ledgers.{Ledger}
use Rattle.office_books.specs.declared.failures.Failures.{Failures}
use Rattle.office_books.specs.Rows.{TakesAll}
use Rattle.office_core.specs.DayRange.{HandsDaysWithin, ReportsDaysWithin}
use Rattle.office_core.specs.Standing.{books_in}
use Rattle.office_core.specs.Taking.{failures_of}
use Rattle.office_core.specs.declared.office.Office.{Office}
use Rattle.office_events.specs.declared.refusals.Refusal.{Refusal}
use Rattle.office_books.specs.History.{History, facts_of}
use Rattle.run_http.specs.RegisterReplies.{AsksEnergy, IsReport, PutsLast, RepliesEnergy, ReportsDaysReport, with_energy_reply}

-- If the energy of some days and then of more days is added to a report, then the report has all
-- these days in order.
taken_all : {W : Type 0} (contents : W → Option (List ℕ)) (days more : List DayTotal) (from at to : ReportRows W)
    → HasTaken contents days from at → TakesAll (TakesDay contents) at more to → HasTaken contents (days ++ more) from to
taken_all {W} contents days [] from at to has took =
    let P : List DayTotal → Type 0 = λ those. HasTaken contents those from to in
    let Q : ReportRows W → Type 0 = λ s. HasTaken contents days from s in
    subst P (sym (append-nil days)) (subst Q (sym took) has)
taken_all contents days (day ∷ more) from at to has took =
    let P : List DayTotal → Type 0 = λ those. HasTaken contents those from to in
    subst P (append_assoc days (day ∷ []) more)
    (taken_all contents (days ++ day ∷ []) more from took.0 to (took.1.taken from days has) took.2)

-- If the energy of all days is added to a report, and the remaining text of the report is written,
-- then the output has the complete energy report.
written : {W : Type 0} (E : Type 0) (contents : W → Option (List ℕ)) (zone : Zone) (past : History) (register : Option (List ℕ)) (form : ReportForm)
    (before after : Failures) (from to left : ReportRows W) (output : W) (answer reported : Result (Unit {0}) Refusal)
    → IsFresh contents form output from
    → HandsDaysWithin (TakesDay contents) zone (facts_of past) register form.range before after from to answer
    → OnOk answer (PutsLast {E = E} contents (Ok reported) to left)
    → OnOk answer (IsReport zone past register form (Appends (contents output) (contents left.output.now)))
written {W} E contents zone past register form before after from to left output (Ok done) reported fresh hands last =
    let days = hands.whole.days in
    let taken = taken_all contents [] days from from to fresh.taken hands.whole.took in
    let P : Bool → Type 0 = λ failed. GotUnless failed (report_text from.form days) (contents from.output.now) (contents left.output.now) in
    let got = subst P last.whole (last.finishes.finished from days taken hands.whole.few) in
    let text : report_text from.form days ≡ report_text form days = ap (λ those. report_text those days) fresh.form in
    let Q : List ℕ → Type 0 = λ those. Appends (contents from.output.now) (contents left.output.now) those in
    (days, hands.whole.are, rw (sym fresh.output) (subst Q text got))
written E contents zone past register form before after from to left output (Err why) reported fresh hands last = tt

-- After the function `write_energy` queried the store, its output has the complete energy report,
-- or the function returns an error.
pub reports : {B W E : Type 0} (ledger : B → Ledger) (contents : W → Option (List ℕ)) (old new : Office B) (register : Option (List ℕ)) (form : ReportForm)
    (from to left : ReportRows W) (output holds : W) (answer : Result (Unit {0}) Refusal) (result : Result (Result (Unit {0}) Refusal) E)
    → IsFresh contents form output from → ReportsDaysWithin (TakesDay contents) ledger old new from to answer register form.range
    → OnOk answer (PutsLast contents result to left) → holds ≡ left.output.now
    → OnOk result (ReportsDaysReport ledger old new register form answer (Appends (contents output) (contents holds)))
reports {E = E} ledger contents old new register form from to left output holds answer (Ok reported) fresh days last end = λ past stands clean.
    let zone = (ledger (books_in old)).zone in
    let hands = days past stands clean in
    record {
      found = hands.answer;
      report =
          rw end (written E contents zone past register form (failures_of ledger old) (failures_of ledger new) from to left output answer reported fresh hands last);
    }
reports ledger contents old new register form from to left output holds answer (Err fault) fresh days last end = tt

-- If the energy of more days is added to a report, the report still writes to the same output.
pub taken_by : {W : Type 0} (contents : W → Option (List ℕ)) (days : List DayTotal) (from to : ReportRows W)
    → TakesAll (TakesDay contents) from days to → to.output.ghost_name ≡ from.output.ghost_name
taken_by {W} contents [] from to took = ap (λ (rows : ReportRows W). rows.output.ghost_name) took
taken_by contents (day ∷ more) from to took = taken_by contents more took.0 to took.2 ∙ took.1.output

-- Lemmas: unless memory runs out, the response to a query for energy has the complete report, or
-- reports the refusal of the query.

-- If the output was empty before the report was written, then the output now has only the report.
alone : (zone : Zone) (past : History) (register : Option (List ℕ)) (form : ReportForm) (had holds : List ℕ) (answer : Result (Unit {0}) Refusal)
    → had ≡ [] → OnOk answer (IsReport zone past register form (Appends (Some had) (Some holds)))
    → OnOk answer (IsReport zone past register form (λ text. holds ≡ text))
alone zone past register form had holds (Ok done) none (days, are, text) = (days, are, text ∙ ap (λ t. t ++ report_text form days) none)
alone zone past register form had holds (Err why) none text = tt

pub replied : {B E F : Type 0} (ledger : B → Ledger) (old new : Office B) (register : Option (List ℕ)) (form : ReportForm) (had holds from to : List ℕ)
    (reported : Result (Unit {0}) Refusal) (result : Result (Unit {0}) E)
    → AsksEnergy ledger old new register form (Some had) (Some holds) {E = F} (Ok reported) → had ≡ []
    → OnOk result (to ≡ with_energy_reply reported holds from) → RepliesEnergy ledger old new register form from to result
replied ledger old new register form had holds from to reported (Ok done) asked none puts = record {
  answer = asked.answer;
  report = holds;
  asks = asked.asks;
  reports = λ past stands clean.
      let it = asked.reports past stands clean in
      record { found = it.found; report = alone (ledger (books_in old)).zone past register form had holds asked.answer none it.report };
  puts = puts ∙ ap (λ answer. with_energy_reply answer holds from) asked.gives;
}
replied ledger old new register form had holds from to reported (Err why) asked none puts = record {
  answer = asked.answer;
  report = [];
  asks = asked.asks;
  reports = tt;
  puts = tt;
}

-- If memory for the energy report runs out, then the function `reply_energy` returns an error,
-- which its contract `RepliesEnergy` allows.
pub lacked : {B E F : Type 0} (ledger : B → Ledger) (old new : Office B) (register : Option (List ℕ)) (form : ReportForm) (had holds : Option (List ℕ))
    (from to : List ℕ) (asked : Result (Result (Unit {0}) Refusal) F) (result : Result (Unit {0}) E)
    → AsksEnergy ledger old new register form had holds asked → IsErr result → RepliesEnergy ledger old new register form from to result
lacked ledger old new register form had holds from to asked (Ok done) asks fault = cc fault
lacked ledger old new register form had holds from to asked (Err why) asks fault = record {
  answer = asks.answer;
  report = [];
  asks = asks.asks;
  reports = tt;
  puts = tt;
}
