use Rattle.office_http.specs.Messages.Hosts.{texts}
use Rattle.office_http.proofs.ConnectionsLemmas.Named.{no_room}
use Rattle.office_http.proofs.connections.named.handle_named.Goals as goal

pub returns-in_default-clause-handles : goal.returns-in_default-clause-handles
returns-in_default-clause-handles g c =
    no_room (texts c.args.names.now) g.B.Books.ledger c.args.moment c.args.office.now _ _ _ _ _ c.refuse.result c.refuse.ensures.handles
