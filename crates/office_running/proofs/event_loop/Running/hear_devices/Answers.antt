use Rattle.office_running.proofs.Going.{goes_both, goes_none}
use Rattle.office_running.proofs.event_loop.Running.hear_devices.Goals as goal

pub loop-place-init : goal.loop-place-init
loop-place-init g c = λ names. goes_none names c.args.now.moment g.B.Books.ledger c.args.office.now

pub loop-place-preserved : goal.loop-place-preserved
loop-place-preserved g c = λ names.
    goes_both names c.args.now.moment g.B.Books.ledger c.args.office.now c.loop-place.office c.hear_device.new.office (c.loop-place.invariant names) (c.hear_device.ensures names)
