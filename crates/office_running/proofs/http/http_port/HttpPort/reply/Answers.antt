use Rattle.std.proofs.Common.{Some, None}
use Rattle.office_http.specs.Messages.Hosts.{texts}
use Rattle.office_running.proofs.HttpLemmas.ServingClients.{begun_serves, executes}
use Rattle.office_running.proofs.http.http_port.HttpPort.reply.Goals as goal

pub returns-in-Some-clause-serves : goal.returns-in-Some-clause-serves
returns-in-Some-clause-serves g c =
    begun_serves (texts c.args.context.now.names.now) g.B.Books.ledger c.args.context.now.at.moment c.args.office.now c.begin_response.new.office c.args.context.now c.in-Some.route
    c.args.rows.now c.begin_response.new.rows c.begin_response.result c.begin_response.ensures

pub returns-in-Some-clause-responds : goal.returns-in-Some-clause-responds
returns-in-Some-clause-responds g c =
    record { route = Some c.in-Some.route; finds = c.in-Some.ensures; responds = c.begin_response.ensures }

pub returns-in-None-clause-serves : goal.returns-in-None-clause-serves
returns-in-None-clause-serves g c =
    executes (texts c.args.context.now.names.now) g.B.Books.ledger c.args.context.now.at.moment c.args.office.now c.execute.new.office _ _ _ c.args.request.now
    c.args.rows.now c.execute.new.rows c.execute.result c.in-None.ensures c.execute.ensures

pub returns-in-None-clause-responds : goal.returns-in-None-clause-responds
returns-in-None-clause-responds g c = record { route = None; finds = c.in-None.ensures; responds = c.execute.ensures }
