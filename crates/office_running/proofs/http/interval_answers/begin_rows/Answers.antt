use Rattle.std.proofs.Common.{List, [], ℕ, subst}
use Rattle.run_http.specs.Pieces.{BeginsReply, with_rows}
use Rattle.office_running.proofs.HttpLemmas.ServingClients.{begins}
use Rattle.office_running.proofs.http.interval_answers.begin_rows.Goals as goal

pub returns : goal.returns
returns g c =
    let begun = c.begin_intervals-begun in
    let replies = subst (λ (had : List ℕ). BeginsReply g.B.Books.ledger c.meter.new.self begun.new.office c.in-Ok.it c.args.from c.args.till (with_rows had)
    begun.new.text.items begun.result) c.new-text.ensures.items begun.ensures in
    begins g.B.Books.ledger c.args.office.now c.meter.new.self begun.new.office c.args.meter.now c.args.from c.args.till (with_rows []) c.in-Ok.it
    begun.new.text begun.result c.args.rows.now c.begun_answer.new.rows c.begun_answer.result c.in-Ok.ensures.found c.in-Ok.ensures.asks replies
    c.begun_answer.ensures
