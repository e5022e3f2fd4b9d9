use Rattle.std.proofs.Common.{◌≡◌, rules}
use Rattle.std.specs.declared.io.Error.{Error}
use Rattle.office_books.specs.History.{facts_of}
use Rattle.office_core.specs.Asking.{intervals_of, is_there}
use Rattle.script_text.specs.RowLines.Rows.{share_line}
use Rattle.script_run.specs.Replaying.Asked.{AreIntervals, last_line}
use Rattle.script_run.proofs.ReplayingLemmas.Reported.{handed, rows_reported}
use Rattle.script_run.proofs.ReplayingLemmas.Written.{got_all, got_part}
use Rattle.energy_report.proofs.RowLinesLemmas.{same_output}
use Rattle.script_run.proofs.replaying.questions.print_intervals.Goals as goal

pub returns-then-rows : goal.returns-then-rows
returns-then-rows g c = λ past stands.
    let reported = c.intervals-reported.ensures.rows past stands tt in
    let from = c.to-rows.result in
    let to = c.intervals-reported.new.sink in
    let shown = handed _ (intervals_of (facts_of past) c.args.meter.now) _ _ from to c.intervals-reported.result reported in
    let name = same_output g.W.Write.contents share_line shown.0 from to c.to-rows.ensures.works c.to-rows.ensures.none shown.1 in
    let last = c.output-1.given in
    let end : c.output-1.given.0 ≡ to.output.now = search rules in
    rows_reported (λ now. is_there (intervals_of (facts_of now.past) c.args.meter.now)) (λ now. AreIntervals (facts_of now.past) c.args.meter.now)
    share_line past _ _ shown.0 c.intervals-reported.result _ _ _ ⊥ reported.answer (record { begun = shown.2; whole = shown.3 }) c.intervals-reported.ensures.asks stands
    (got_part {E = Error} g.W.Write.contents share_line shown.0 _ from to c.from.result c.args.output.now c.output-1.given.0 c.to-rows.ensures.works c.to-rows.ensures.none shown.1 c.if-rows.true
    c.to-rows.ensures.same end)

pub returns : goal.returns
returns g c = λ past stands.
    let reported = c.intervals-reported.ensures.rows past stands tt in
    let from = c.to-rows.result in
    let to = c.intervals-reported.new.sink in
    let shown = handed _ (intervals_of (facts_of past) c.args.meter.now) _ _ from to c.intervals-reported.result reported in
    let name = same_output g.W.Write.contents share_line shown.0 from to c.to-rows.ensures.works c.to-rows.ensures.none shown.1 in
    let last = c.output-2-1.given in
    let end : c.output-2-1.given.0 ≡ c.write_last.new.output = search rules in
    rows_reported (λ now. is_there (intervals_of (facts_of now.past) c.args.meter.now)) (λ now. AreIntervals (facts_of now.past) c.args.meter.now)
    share_line past _ _ shown.0 c.intervals-reported.result _ _ _ ⊥ reported.answer (record { begun = shown.2; whole = shown.3 }) c.intervals-reported.ensures.asks stands
    (rw end (got_all g.W.Write.contents share_line shown.0 (λ n. last_line n c.intervals-reported.result) from to c.write_last.result _ _
    c.to-rows.ensures.works c.to-rows.ensures.none shown.1 c.if-rows.false c.to-rows.ensures.same c.write_last.ensures))
