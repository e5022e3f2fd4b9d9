use Rattle.std.proofs.Common.{List, ℕ, subst}
use Rattle.office_running.specs.Http.Responses as responses
use Rattle.office_running.proofs.http.http_port.HttpPort.answer_request.Goals as goal

pub returns-clause-answers : goal.returns-clause-answers
returns-clause-answers g c =
    subst (λ (request : List ℕ). responses.Answers g.B.Books.ledger c.args.self.now c.args.office.now c.reply_again-asked.new.office request c.args.context.now)
    c.deref.ensures.value
    (record { after = c.reply_again-asked.new.rows; response = c.reply_again-asked.result; is = c.reply_again-asked.ensures.responds })
