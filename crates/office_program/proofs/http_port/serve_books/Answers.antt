use Rattle.std.proofs.Common.{ap}
use Rattle.office_http.specs.Messages.Hosts.{texts}
use Rattle.office_program.specs.HttpPort.{port}
use Rattle.office_program.proofs.Done.{served}
use Rattle.office_program.proofs.http_port.serve_books.Goals as goal

pub returns-in-Ok-clause-reports : goal.returns-in-Ok-clause-reports
returns-in-Ok-clause-reports g c = λ past stand clean.
    served g.B.Books.ledger past (port (texts c.args.names.now) c.args.connections) _ (g.C.Clock.moments c.open_office.new.clock) _ c.args.books c.into_books.result
    c.in-Ok.office c.serve_port-end.new.office _ _ c.serve_port-end.result (c.in-Ok.ensures.opened past stand)
    c.serve_port-end.ensures.lasts.clean c.serve_port-end.ensures.serves (ap g.W.Write.contents c.in-Ok.ensures.silent)
    c.into_books.ensures clean
