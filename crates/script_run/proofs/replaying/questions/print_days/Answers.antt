use Rattle.std.proofs.Common.{◌≡◌, Some, rules}
use Rattle.std.specs.declared.io.Error.{Error}
use Rattle.office_books.specs.History.{facts_of}
use Rattle.std.specs.Option.{option_and_then}
use Rattle.office_books.specs.Facts.{register_of}
use Rattle.office_core.specs.Asking.{is_there}
use Rattle.script_run.specs.Replaying.TextRun.{stage_of}
use Rattle.script_text.specs.RowLines.Rows.{day_line}
use Rattle.script_run.specs.Replaying.Asked.{AreDaysReported, last_line}
use Rattle.script_run.proofs.ReplayingLemmas.Reported.{handed_days, rows_reported}
use Rattle.script_run.proofs.ReplayingLemmas.Written.{got_all, got_part}
use Rattle.energy_report.proofs.RowLinesLemmas.{same_output}
use Rattle.script_run.proofs.replaying.questions.print_days.Goals as goal

pub returns-then-rows : goal.returns-then-rows
returns-then-rows g c = λ past stands.
    let reported = c.days-reported.ensures.days past stands tt in
    let from = c.to-rows.result in
    let to = c.days-reported.new.sink in
    let shown = handed_days _ (stage_of past c.args.office.now) c.args.register.now _ _ from to c.days-reported.result reported in
    let name = same_output g.W.Write.contents day_line shown.0 from to c.to-rows.ensures.works c.to-rows.ensures.none shown.1 in
    let last = c.output-1.given in
    let end : c.output-1.given.0 ≡ to.output.now = search rules in
    rows_reported (λ now. is_there (option_and_then (register_of (facts_of now.past)) c.args.register.now)) (λ now. AreDaysReported now c.args.register.now)
    day_line past _ _ shown.0 c.days-reported.result _ _ _
    (is_there (option_and_then (register_of (facts_of past)) c.args.register.now) ≡ Some tt) reported.answer shown.2 c.days-reported.ensures.asks stands
    (got_part {E = Error} g.W.Write.contents day_line shown.0 _ from to c.from.result c.args.output.now c.output-1.given.0 c.to-rows.ensures.works c.to-rows.ensures.none shown.1 c.if-rows.true
    c.to-rows.ensures.same end)

pub returns : goal.returns
returns g c = λ past stands.
    let reported = c.days-reported.ensures.days past stands tt in
    let from = c.to-rows.result in
    let to = c.days-reported.new.sink in
    let shown = handed_days _ (stage_of past c.args.office.now) c.args.register.now _ _ from to c.days-reported.result reported in
    let name = same_output g.W.Write.contents day_line shown.0 from to c.to-rows.ensures.works c.to-rows.ensures.none shown.1 in
    let last = c.output-2-1.given in
    let end : c.output-2-1.given.0 ≡ c.write_last.new.output = search rules in
    rows_reported (λ now. is_there (option_and_then (register_of (facts_of now.past)) c.args.register.now)) (λ now. AreDaysReported now c.args.register.now)
    day_line past _ _ shown.0 c.days-reported.result _ _ _
    (is_there (option_and_then (register_of (facts_of past)) c.args.register.now) ≡ Some tt) reported.answer shown.2 c.days-reported.ensures.asks stands
    (rw end (got_all g.W.Write.contents day_line shown.0 (λ n. last_line n c.days-reported.result) from to c.write_last.result _ _
    c.to-rows.ensures.works c.to-rows.ensures.none shown.1 c.if-rows.false c.to-rows.ensures.same c.write_last.ensures))
