use Rattle.office_running.proofs.Going.{goes_turn, opened_is}
use Rattle.office_running.proofs.device_polls.Polling.feed.Goals as goal

pub returns : goal.returns
returns g c = λ names.
    goes_turn names g.B.Books.ledger _ c.args.now.moment c.args.office.now c.turn.new.office _ _ _ _ (opened_is c.args.device_event _) c.turn.ensures.turns c.turn.ensures.lasts
