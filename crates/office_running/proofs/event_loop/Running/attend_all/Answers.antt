use Rattle.office_http.specs.Messages.Hosts.{texts}
use Rattle.office_running.proofs.Going.{goes_both}
use Rattle.office_running.proofs.event_loop.Running.attend_all.Goals as goal

pub returns : goal.returns
returns g c =
    let ledger = g.B.Books.ledger in
    let names = texts c.args.names.now in
    let at = c.args.now.moment in
    goes_both names at ledger c.args.office.now c.attend_devices.new.office c.attend_clients.new.office
    (goes_both names at ledger c.args.office.now c.tick.new.office c.attend_devices.new.office (c.tick.ensures names) c.attend_devices.ensures)
    c.attend_clients.ensures
