use Rattle.run_schedule.proofs.HttpClientsLemmas.HeldReplies.{holds_little}
use Rattle.run_schedule.proofs.http_clients.held_replies.little_is_held.Goals as goal

pub returns : goal.returns
returns c = holds_little
