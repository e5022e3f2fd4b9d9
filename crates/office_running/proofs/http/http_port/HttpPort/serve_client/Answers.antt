use Rattle.office_http.specs.Messages.Hosts.{texts}
use Rattle.office_running.proofs.HttpLemmas.ServingClients.{queries_serve}
use Rattle.office_running.proofs.http.http_port.HttpPort.serve_client.Goals as goal

pub returns : goal.returns
returns g c = queries_serve (texts c.args.context.now.names.now) c.args.context.now.at.moment g.B.Books.ledger c.args.office.now c.send_pieces.new.office c.send_pieces.ensures
