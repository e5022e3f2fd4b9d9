use Rattle.office_http.proofs.Handled.{bare}
use Rattle.office_http.proofs.exchange.handle.Goals as goal

pub returns-in_default-clause-handles : goal.returns-in_default-clause-handles
returns-in_default-clause-handles g c = bare g.B.Books.ledger c.args.moment c.args.office.now _ c.refuse.result c.refuse.ensures.handles
