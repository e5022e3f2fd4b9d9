-- Lemmas: an accounting register's report on a range of days has exactly the days in the range, and
-- the text of these days, or a refusal, was printed.
use Rattle.std.proofs.Common.{◌≡◌, inl, inr, ℕ, Bool, true, false, Option, List, [], ◌∷◌, ◌++◌, refl, sym, subst, ap, ◌∙◌, append-nil, append_assoc}
use Rattle.std.specs.Prelude.{Result, Ok, Err, if◌then◌else◌}
use Rattle.command_io.specs.declared.status.ExitStatus.{ExitStatus}
use Rattle.command_io.specs.declared.status.ExitStatus.TheVariants.{Fine, Failed, Refused}
use Rattle.energy_report.specs.Texts.{report_text}
use Rattle.energy_report.specs.Writing.{GotUnless, HasTaken, IsFresh, TakesDay}
use Rattle.energy_report.specs.declared.form.ReportForm.{ReportForm}
use Rattle.interval_core.specs.declared.day_range.DayRange.{DayRange}
use Rattle.energy_report.specs.declared.report_rows.ReportRows.{ReportRows}
use Rattle.interval_core.specs.declared.totals.DayTotal.{DayTotal}
use Rattle.interval_core.specs.declared.zone.Zone.{Zone}
use Rattle.office_books.specs.declared.failures.Failures.{Failures}
use Rattle.office_books.specs.Rows.{TakesAll}
use Rattle.office_core.specs.DayRange.{HandsDaysWithin}
use Rattle.office_events.specs.declared.refusals.Refusal.{Refusal}
use Rattle.office_books.specs.History.{History, facts_of}
use Rattle.script_text.specs.AnswerText.{refused_line}
use Rattle.office_program.specs.Texts.EndTexts.{IsReported}
use Rattle.office_program.specs.Texts.RangedReports.{IsRangedReport, PrintsRest}
use Rattle.office_program.specs.Texts.Reports.{meant_by}

-- Lemmas: the text of an accounting register's report on a range of days was printed, or a part of
-- it if a write failed, or the refusal of the report.

-- If the writer of a report received the first days and then more days one by one, then it has
-- received all days.
pub taken_all : {W : Type 0} (contents : W → Option (List ℕ)) (days more : List DayTotal) (from at to : ReportRows W)
    → HasTaken contents days from at → TakesAll (TakesDay contents) at more to → HasTaken contents (days ++ more) from to
taken_all {W} contents days [] from at to has took =
    let P : List DayTotal → Type 0 = λ those. HasTaken contents those from to in
    let Q : ReportRows W → Type 0 = λ s. HasTaken contents days from s in
    subst P (sym (append-nil days)) (subst Q (sym took) has)
taken_all contents days (day ∷ more) from at to has took =
    let P : List DayTotal → Type 0 = λ those. HasTaken contents those from to in
    subst P (append_assoc days (day ∷ []) more)
    (taken_all contents (days ++ day ∷ []) more from took.0 to (took.1.taken from days has) took.2)

reported_by : (failed : Bool) (status : ExitStatus) (text : List ℕ) (old new : Option (List ℕ)) → status ≡ (if failed then Failed else Fine)
    → GotUnless failed text old new → IsReported text Fine status old new
reported_by false status text old new is got = inl (is, got)
reported_by true status text old new is got = inr (is, got)

-- If the office (the event engine) passed the days of a range to the writer of a report, then the
-- report's text was printed. If the office refused the report, the refusal was printed.
pub printed : {W : Type 0} (contents : W → Option (List ℕ)) (zone : Zone) (past : History) (register : Option (List ℕ)) (form : ReportForm)
    (before after : Failures) (from to left : ReportRows W) (output : W) (status : ExitStatus) (reply : Result (Unit {0}) Refusal)
    → IsFresh contents form output from
    → HandsDaysWithin (TakesDay contents) zone (facts_of past) register form.range before after from to reply
    → PrintsRest contents reply status to left
    → (text : List ℕ) × IsRangedReport zone past register form reply text
    × IsReported text (meant_by reply) status (contents output) (contents left.output.now)
printed {W} contents zone past register form before after from to left output status (Ok done) fresh hands rest =
    let days = hands.whole.days in
    let taken = taken_all contents [] days from from to fresh.taken hands.whole.took in
    let got = rest.finishes.finished from days taken hands.whole.few in
    let reported = reported_by left.failed status (report_text from.form days) (contents from.output.now) (contents left.output.now) rest.means got in
    (report_text form days, (days, hands.whole.are, refl), rw (sym fresh.form, sym fresh.output) reported)
printed {W} contents zone past register form before after from to left output status (Err why) fresh hands rest =
    let same : to.output.now ≡ output = ap (λ (rows : ReportRows W). rows.output.now) hands.none ∙ fresh.output in
    let P : W → Type 0 = λ w. IsReported (refused_line why) Refused status (contents w) (contents left.output.now) in
    (refused_line why, refl, subst P same rest.reported)

-- After the days of a report were written, the report still prints to the same output as before.
taken_by : {W : Type 0} (contents : W → Option (List ℕ)) (days : List DayTotal) (from to : ReportRows W)
    → TakesAll (TakesDay contents) from days to → to.output.ghost_name ≡ from.output.ghost_name
taken_by {W} contents [] from to took = ap (λ (rows : ReportRows W). rows.output.ghost_name) took
taken_by contents (day ∷ more) from to took = taken_by contents more took.0 to took.2 ∙ took.1.output

pub same_writer : {W : Type 0} (contents : W → Option (List ℕ)) (zone : Zone) (past : History) (register : Option (List ℕ)) (range : DayRange)
    (before after : Failures) (from to : ReportRows W) (reply : Result (Unit {0}) Refusal)
    → HandsDaysWithin (TakesDay contents) zone (facts_of past) register range before after from to reply
    → to.output.ghost_name ≡ from.output.ghost_name
same_writer contents zone past register range before after from to (Ok done) hands = taken_by contents hands.whole.days from to hands.whole.took
same_writer {W} contents zone past register range before after from to (Err why) hands = ap (λ (rows : ReportRows W). rows.output.ghost_name) hands.none

pub rest_keeps : {W : Type 0} (contents : W → Option (List ℕ)) (reply : Result (Unit {0}) Refusal) (status : ExitStatus) (to left : ReportRows W)
    → PrintsRest contents reply status to left → left.output.ghost_name ≡ to.output.ghost_name
rest_keeps contents (Ok done) status to left rest = rest.finishes.output
rest_keeps contents (Err why) status to left rest = rest.output
