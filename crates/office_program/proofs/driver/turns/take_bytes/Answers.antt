use Rattle.std.proofs.Common.{ap}
use Rattle.office_core.specs.Taking.{failures_of}
use Rattle.office_program.specs.Driver.Going.{scene}
use Rattle.office_program.specs.Driver.Turns.{table}
use Rattle.office_program.proofs.DriverLemmas.Steps.{turns_as}
use Rattle.office_program.proofs.driver.turns.take_bytes.Goals as goal

pub returns-in-Some-clause-turns : goal.returns-in-Some-clause-turns
returns-in-Some-clause-turns g c = λ past stands clean.
    turns_as g.B.Books.ledger g.V.Observer.sees c.args.at past (failures_of g.B.Books.ledger c.args.office.now) _ _ c.args.observer.now
    (scene c.begin.new.office (failures_of g.B.Books.ledger c.begin.new.office) c.begin.new.rounds c.begin.new.observer)
    (ap (λ f. table f c.args.rounds.now) (c.in-Some.ensures c.args.piece)) (c.begin.ensures.turns past stands clean)

pub returns-in-None-clause-turns : goal.returns-in-None-clause-turns
returns-in-None-clause-turns g c = λ past stands clean.
    turns_as g.B.Books.ledger g.V.Observer.sees c.args.at past (failures_of g.B.Books.ledger c.args.office.now) _ _ c.args.observer.now
    (scene c.feed_requests.new.office (failures_of g.B.Books.ledger c.feed_requests.new.office) c.feed_requests.new.rounds c.feed_requests.new.observer)
    (ap (λ f. table f c.args.rounds.now) (c.in-None.ensures c.args.piece)) (c.feed_requests.ensures.turns past stands clean)
