use Rattle.std.proofs.Common.{◌≡◌, rules}
use Rattle.carried_books.proofs.JoiningLemmas.Reports.{taken_by, reported_over}
use Rattle.carried_books.proofs.joining.reports.report_days.Goals as goal

pub returns : goal.returns
returns g c =
    let contents = g.W.Write.contents in
    let days = c.args.days.now in
    let from = c.to-rows.result in
    let to = c.hand_on.new.sink in
    let left = c.finish.new.rows in
    let took = c.hand_on.ensures.took in
    let reported = reported_over contents c.args.form.now days from to left c.args.output.now c.finish.result c.to-rows.ensures.fresh took c.hand_on.ensures.few
    c.finish.ensures in
    let same = taken_by contents days from to took in
    let rest = c.finish.ensures.finishes.output in
    let last = c.output-1.given in
    let end : c.output-1.given.0 ≡ left.output.now = search rules in
    rw end reported
