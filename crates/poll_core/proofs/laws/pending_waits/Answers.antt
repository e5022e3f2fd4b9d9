use Rattle.poll_core.proofs.Accounts.{each_waits}
use Rattle.poll_core.proofs.laws.pending_waits.Goals as goal

pub returns : goal.returns
returns c = each_waits
