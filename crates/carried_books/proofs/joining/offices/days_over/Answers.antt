use Rattle.carried_books.proofs.JoiningLemmas.Offices.{days_reported}
use Rattle.carried_books.proofs.joining.offices.days_over.Goals as goal

pub returns-in-Ok-add_register-clause-days : goal.returns-in-Ok-add_register-clause-days
returns-in-Ok-add_register-clause-days g c =
    days_reported g.B.Books.ledger c.args.office.now c.add_register.new.office c.args.zone c.args.earlier.now c.in-Ok.copy c.add_register.new.days c.args.register.now
    c.args.span tt c.into_days.result c.in-Ok.ensures c.in-Ok-add_register.ensures.rows c.into_days.ensures
