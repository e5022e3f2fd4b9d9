use Rattle.office_http.specs.Messages.Hosts.{texts}
use Rattle.office_running.proofs.Going.{goes_both}
use Rattle.office_running.proofs.event_loop.Running.attend_device.Goals as goal

pub returns-then-is_ok : goal.returns-then-is_ok
returns-then-is_ok g c =
    let names = texts c.args.names.now in
    goes_both names c.args.now.moment g.B.Books.ledger c.args.office.now c.attend-has_fed.new.office c.attend_clients.new.office (c.attend-has_fed.ensures names) c.attend_clients.ensures

pub returns-else-has_fed : goal.returns-else-has_fed
returns-else-has_fed g c = c.attend-has_fed.ensures (texts c.args.names.now)
