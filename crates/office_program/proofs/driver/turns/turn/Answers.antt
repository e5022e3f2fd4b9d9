use Rattle.std.proofs.Common.{ap, sym, ◌∙◌, None}
use Rattle.office_core.specs.Taking.{failures_of}
use Rattle.office_program.specs.Driver.Going.{scene}
use Rattle.office_program.specs.Driver.Turns.{opened, table}
use Rattle.office_program.proofs.DriverLemmas.Steps.{turns_as}
use Rattle.office_program.proofs.driver.turns.turn.Goals as goal

pub returns-in-Connected-clause-turns : goal.returns-in-Connected-clause-turns
returns-in-Connected-clause-turns g c = λ past stands clean.
    turns_as g.B.Books.ledger g.V.Observer.sees c.args.at past (failures_of g.B.Books.ledger c.args.office.now) _ _ c.args.observer.now
    (scene c.feed_requests.new.office (failures_of g.B.Books.ledger c.feed_requests.new.office) c.feed_requests.new.rounds c.feed_requests.new.observer)
    (ap (table None) c.join.ensures ∙ ap (λ h. opened h c.args.rounds.now) (sym c.in-Connected.is)) (c.feed_requests.ensures.turns past stands clean)
