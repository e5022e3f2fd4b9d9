use Rattle.office_http.specs.Messages.Hosts.{texts}
use Rattle.office_http.proofs.ConnectionsLemmas.Served.{named_handled, unasked}
use Rattle.office_http.proofs.connections.connections.serve_connection.Goals as goal

pub returns-then-is_ok-clause-serves : goal.returns-then-is_ok-clause-serves
returns-then-is_ok-clause-serves g c =
    named_handled (texts c.args.names.now) g.B.Books.ledger c.args.moment c.args.office.now c.handle_named.new.office _ _ c.handle_named.ensures.handles

pub returns-else-is_ok-clause-serves : goal.returns-else-is_ok-clause-serves
returns-else-is_ok-clause-serves g c =
    named_handled (texts c.args.names.now) g.B.Books.ledger c.args.moment c.args.office.now c.handle_named.new.office _ _ c.handle_named.ensures.handles

pub returns-in_default-clause-serves : goal.returns-in_default-clause-serves
returns-in_default-clause-serves g c = λ past stands clean.
    unasked (texts c.args.names.now) c.args.moment g.B.Books.ledger past c.args.office.now stands
