use Rattle.office_program.proofs.Done.{polled}
use Rattle.office_program.proofs.port_round.poll_books.Goals as goal

pub returns-in-Ok-clause-reports : goal.returns-in-Ok-clause-reports
returns-in-Ok-clause-reports g c = λ past stand clean.
    polled g.B.Books.ledger g.W.Write.contents past c.args.device.now _ (g.C.Clock.moments c.open_office.new.clock)
    (g.C.Clock.moments c.poll_port-end.new.clock) c.args.books c.into_books.result c.in-Ok.office c.poll_port-end.new.office
    c.args.output.now c.open_office.new.output (g.W.Write.contents c.poll_port-end.new.output) c.poll_port-end.result
    (c.in-Ok.ensures.opened past stand) c.in-Ok.ensures.silent c.poll_port-end.ensures.lasts.clean c.poll_port-end.ensures.polls
    c.into_books.ensures clean
