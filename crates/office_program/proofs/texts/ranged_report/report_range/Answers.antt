use Rattle.std.proofs.Common.{◌≡◌, refl, rules}
use Rattle.office_core.specs.Standing.{books_in}
use Rattle.office_program.specs.Texts.Reports.{meant_by}
use Rattle.office_program.proofs.TextsLemmas.Ranged.{printed, rest_keeps, same_writer}
use Rattle.office_program.proofs.texts.ranged_report.report_range.Goals as goal

pub returns-clause-prints : goal.returns-clause-prints
returns-clause-prints g c = λ past stands clean.
    let hands = c.days_within-reported.ensures.days past stands clean in
    let reply = c.days_within-reported.result in
    let from = c.to-rows.result in
    let to = c.days_within-reported.new.sink in
    let left = c.print_rest.new.rows in
    let zone = (g.B.Books.ledger (books_in c.args.office.now)).zone in
    let taken = same_writer g.W.Write.contents zone past c.args.register.now c.args.form.now.range _ _ from to reply hands in
    let rest = rest_keeps g.W.Write.contents reply c.print_rest.result to left c.print_rest.ensures in
    let shown = printed g.W.Write.contents zone past c.args.register.now c.args.form.now _ _ from to left c.args.output.now c.print_rest.result reply
    c.to-rows.ensures.fresh hands c.print_rest.ensures in
    let last = c.output-1.given in
    let end : c.output-1.given.0 ≡ left.output.now = search rules in
    record {
      text = shown.0;
      meant = meant_by reply;
      prints = record { reply = reply; answer = hands.answer; is = shown.1; means = refl };
      reported = rw end shown.2;
    }
