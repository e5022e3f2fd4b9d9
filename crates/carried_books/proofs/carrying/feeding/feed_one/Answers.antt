use Rattle.carried_books.proofs.CarryingLemmas.Fed.{one_fed}
use Rattle.carried_books.proofs.carrying.feeding.feed_one.Goals as goal

pub returns-in-Ok-clause-feeds : goal.returns-in-Ok-clause-feeds
returns-in-Ok-clause-feeds g c =
    one_fed g.B.Books.ledger c.args.timed c.args.office.now c.feed.new.self c.in-Ok.field-0 c.in-Ok.ensures.answers c.in-Ok.ensures.stands
