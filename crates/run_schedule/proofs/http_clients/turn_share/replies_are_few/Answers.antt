use Rattle.run_schedule.proofs.HttpClientsLemmas.TurnShares.{are_few}
use Rattle.run_schedule.proofs.http_clients.turn_share.replies_are_few.Goals as goal

pub returns : goal.returns
returns c = are_few
