use Rattle.std.proofs.Common.{◌≡◌, refl, rules}
use Rattle.office_core.specs.Standing.{books_in}
use Rattle.office_program.specs.Texts.Reports.{last_line, meant_by}
use Rattle.office_program.proofs.TextsLemmas.Reported.{as_reported}
use Rattle.office_program.proofs.TextsLemmas.Written.{reported_all, reported_part}
use Rattle.energy_report.proofs.RowLinesLemmas.{same_output}
use Rattle.interval_core.specs.Lines.{day_line}
use Rattle.office_program.proofs.texts.report.report_days.Goals as goal

pub returns-then-days-clause-prints : goal.returns-then-days-clause-prints
returns-then-days-clause-prints g c = λ past stands clean.
    let hands = c.days-reported.ensures.days past stands clean in
    let reply = c.days-reported.result in
    let from = c.to-days.result in
    let to = c.days-reported.new.sink in
    let zone = (g.B.Books.ledger (books_in c.args.office.now)).zone in
    let shown = as_reported _ zone past c.args.register.now _ _ from to reply hands in
    let name = same_output g.W.Write.contents day_line shown.0 from to c.to-days.ensures.works c.to-days.ensures.none shown.1 in
    let last = c.output-1.given in
    let end : c.output-1.given.0 ≡ to.output.now = search rules in
    record {
      text = _;
      meant = meant_by reply;
      prints = record { reply = reply; answer = hands.answer; is = shown.2; means = refl };
      reported = reported_part g.W.Write.contents day_line shown.0 _ from to (meant_by reply) c.args.output.now c.output-1.given.0 c.to-days.ensures.works c.to-days.ensures.none shown.1 c.if-days.true
          c.to-days.ensures.same end;
    }

pub returns-clause-prints : goal.returns-clause-prints
returns-clause-prints g c = λ past stands clean.
    let hands = c.days-reported.ensures.days past stands clean in
    let reply = c.days-reported.result in
    let from = c.to-days.result in
    let to = c.days-reported.new.sink in
    let zone = (g.B.Books.ledger (books_in c.args.office.now)).zone in
    let shown = as_reported _ zone past c.args.register.now _ _ from to reply hands in
    let name = same_output g.W.Write.contents day_line shown.0 from to c.to-days.ensures.works c.to-days.ensures.none shown.1 in
    let last = c.output-2-1.given in
    let end : c.output-2-1.given.0 ≡ c.print_last.new.output = search rules in
    record {
      text = _;
      meant = meant_by reply;
      prints = record { reply = reply; answer = hands.answer; is = shown.2; means = refl };
      reported = rw end (reported_all g.W.Write.contents day_line shown.0 (λ n. last_line n reply) from to (meant_by reply) c.print_last.result _ _
          c.to-days.ensures.works c.to-days.ensures.none shown.1 c.if-days.false c.to-days.ensures.same c.print_last.ensures);
    }
