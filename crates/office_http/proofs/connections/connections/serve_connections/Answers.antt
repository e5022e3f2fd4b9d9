use Rattle.std.proofs.Common.{rules}
use Rattle.office_http.specs.Messages.Hosts.{texts}
use Rattle.office_http.proofs.ConnectionsLemmas.Served.{lasts_both, served_more, served_no_more, served_none}
use Rattle.office_http.proofs.connections.connections.serve_connections.Goals as goal
use Rattle.office_http.proofs.connections.connections.serve_connections.Goals.{in-Ok, in-Err+else-not-is_of_connection}

pub loop-connection-init : goal.loop-connection-init
loop-connection-init g c = record {
  serves = served_none (texts c.args.names.now) 0 (g.C.Clock.moments c.args.clock.now) g.B.Books.ledger c.args.office.now;
  lasts = search rules;
}

pub loop-connection-preserved : goal.loop-connection-preserved
loop-connection-preserved g c =
    let ledger = g.B.Books.ledger in
    let before = c.loop-connection.invariant in
    elim c.match-accept.branch [
      | in-Ok w ↦
          let next = w.serve_connection.ensures in
          rw (w.office-is, w.clock-is) (record {
            serves = served_more (texts c.args.names.now) _ _ _ _ w.now-moment.result ledger c.args.office.now c.loop-connection.office w.serve_connection.new.office
                before.serves w.now-moment.ensures next.lasts next.serves;
            lasts = lasts_both ledger c.args.office.now c.loop-connection.office w.serve_connection.new.office before.lasts next.lasts;
          })
      | in-Err+else-not-is_of_connection w ↦
          rw (w.office-is, w.clock-is) (record {
            serves = served_no_more (texts c.args.names.now) _ _ _ ledger c.args.office.now c.loop-connection.office before.serves;
            lasts = before.lasts;
          })
    ]
