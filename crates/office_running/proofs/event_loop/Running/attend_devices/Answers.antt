use Rattle.office_http.specs.Messages.Hosts.{texts}
use Rattle.office_running.proofs.Going.{goes_both, goes_none}
use Rattle.office_running.proofs.event_loop.Running.attend_devices.Goals as goal

pub loop-place-init : goal.loop-place-init
loop-place-init g c = goes_none (texts c.args.names.now) c.args.now.moment g.B.Books.ledger c.args.office.now

pub loop-place-preserved : goal.loop-place-preserved
loop-place-preserved g c =
    goes_both (texts c.args.names.now) c.args.now.moment g.B.Books.ledger c.args.office.now c.loop-place.office c.attend_device.new.office c.loop-place.invariant c.attend_device.ensures
