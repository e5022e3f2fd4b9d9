use Rattle.carried_books.proofs.CarryingLemmas.Carried.{carries}
use Rattle.carried_books.proofs.carrying.carried.carry_books.Goals as goal

pub returns-in-Ok-clause-carries : goal.returns-in-Ok-clause-carries
returns-in-Ok-clause-carries g c =
    carries (g.O.Books.ledger c.args.old.now) (g.O.Books.ledger c.plan_of.new.books) c.args.until g.N.Books.ledger c.args.new.now c.follow.new.office
    c.in-Ok.plan c.follow.result c.in-Ok.ensures.found c.follow.ensures.follows
