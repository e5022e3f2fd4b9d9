use Rattle.office_core.specs.Taking.{failures_of}
use Rattle.office_program.specs.Driver.Going.{scene}
use Rattle.office_program.proofs.DriverLemmas.Steps.{turns_on}
use Rattle.office_program.proofs.driver.turns.feed_requests.Goals as goal

pub returns-clause-turns : goal.returns-clause-turns
returns-clause-turns g c = λ past stands clean.
    turns_on g.B.Books.ledger g.V.Observer.sees c.args.at past
    (scene c.args.office.now (failures_of g.B.Books.ledger c.args.office.now) c.args.rounds.now c.args.observer.now)
    (scene c.settle.new.office (failures_of g.B.Books.ledger c.settle.new.office) c.settle.new.rounds c.settle.new.observer)
    c.settle.ensures.settles stands clean
