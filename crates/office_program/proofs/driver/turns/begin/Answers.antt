use Rattle.office_core.specs.Taking.{failures_of}
use Rattle.office_program.specs.Driver.Going.{scene}
use Rattle.office_program.specs.Driver.Turns.{wished}
use Rattle.office_program.proofs.DriverLemmas.Steps.{turns_first}
use Rattle.office_program.proofs.driver.turns.begin.Goals as goal

pub returns-clause-turns : goal.returns-clause-turns
returns-clause-turns g c = λ past stands clean.
    turns_first g.B.Books.ledger g.V.Observer.sees c.args.at past (wished c.args.place c.args.event.now)
    (scene c.args.office.now (failures_of g.B.Books.ledger c.args.office.now) c.args.rounds.now c.args.observer.now)
    (scene c.feed_one.new.office (failures_of g.B.Books.ledger c.feed_one.new.office) c.feed_one.new.rounds c.feed_one.new.observer)
    (scene c.settle.new.office (failures_of g.B.Books.ledger c.settle.new.office) c.settle.new.rounds c.settle.new.observer)
    c.feed_one.ensures.feeds c.settle.ensures.settles c.settle.ensures.lasts.clean stands clean
