use Rattle.office_http.specs.Messages.Hosts.{texts}
use Rattle.office_running.proofs.Going.{goes_both}
use Rattle.office_running.proofs.event_loop.Running.act.Goals as goal

pub returns-clause-goes : goal.returns-clause-goes
returns-clause-goes g c =
    let names = texts c.args.names.now in
    goes_both names c.args.now.moment g.B.Books.ledger c.args.office.now c.attend_all.new.office c.end_rounds.new.office c.attend_all.ensures (c.end_rounds.ensures names)
