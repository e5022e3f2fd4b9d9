use Rattle.std.proofs.Common.{◌≡◌, rules}
use Rattle.run_http.proofs.ReplyLemmas.Energy.{taken_by, reports}
use Rattle.run_http.proofs.register_replies.write_energy.Goals as goal

pub returns : goal.returns
returns g c =
    let from = c.to-rows.result in
    let to = c.days_within-reported.new.sink in
    let left = c.add_rest.new.rows in
    let taken = taken_by g.W.Write.contents c.days_within-reported.ensures.puts.0 from to c.days_within-reported.ensures.puts.1 in
    let rest = c.add_rest.ensures.output in
    let last = c.output-1.given in
    let end : c.output-1.given.0 ≡ left.output.now = search rules in
    record {
      answer = c.days_within-reported.result;
      asks = c.days_within-reported.ensures.asks;
      gives = c.add_rest.ensures.gives;
      reports =
          reports g.B.Books.ledger g.W.Write.contents c.args.office.now c.days_within-reported.new.self c.args.register.now c.args.form.now from to left c.args.output.now
          c.output-1.given.0 c.days_within-reported.result c.add_rest.result c.to-rows.ensures.fresh c.days_within-reported.ensures.days c.add_rest.ensures.last end;
    }
