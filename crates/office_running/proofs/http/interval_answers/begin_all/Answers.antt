use Rattle.std.proofs.Common.{List, [], ℕ, subst}
use Rattle.run_http.specs.Pieces.{BeginsReply, with_all_rows}
use Rattle.office_running.proofs.HttpLemmas.ServingClients.{begins, of_request}
use Rattle.office_running.proofs.http.interval_answers.begin_all.Goals as goal

pub returns : goal.returns
returns g c =
    let begun = c.begin_all_intervals-begun in
    let replies = subst (λ (had : List ℕ). BeginsReply g.B.Books.ledger c.meter.new.self begun.new.office c.in-Ok.it 0 18446744073709551615 (with_all_rows had)
    begun.new.text.items begun.result) c.new-text.ensures.items begun.ensures in
    of_request g.B.Books.ledger c.args.office.now begun.new.office c.args.router.now c.args.request.now c.in-Some.meter c.args.rows.now
    c.begun_answer.new.rows c.begun_answer.result c.in-Some.ensures
    (begins g.B.Books.ledger c.args.office.now c.meter.new.self begun.new.office c.in-Some.meter 0 18446744073709551615 (with_all_rows []) c.in-Ok.it
    begun.new.text begun.result c.args.rows.now c.begun_answer.new.rows c.begun_answer.result c.in-Ok.ensures.found c.in-Ok.ensures.asks replies
    c.begun_answer.ensures)
