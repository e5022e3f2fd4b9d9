use Rattle.office_http.specs.Messages.Hosts.{texts}
use Rattle.office_running.proofs.Going.{goes_asked, goes_both, goes_none}
use Rattle.office_running.proofs.event_loop.Running.attend_clients.Goals as goal

pub loop-step-init : goal.loop-step-init
loop-step-init g c = goes_none (texts c.args.names.now) c.args.now.moment g.B.Books.ledger c.args.office.now

pub loop-step-preserved : goal.loop-step-preserved
loop-step-preserved g c =
    goes_both (texts c.args.names.now) c.args.now.moment g.B.Books.ledger c.args.office.now c.loop-step.office c.attend.new.office c.loop-step.invariant
    (goes_asked (texts c.args.names.now) c.args.now.moment g.B.Books.ledger c.loop-step.office c.attend.new.office c.attend.ensures)
