use Rattle.std.proofs.Common.{[]}
use Rattle.poll_core.proofs.Afterwards.{pending_more, results_more, nobody_reported}
use Rattle.poll_core.proofs.Agreement.{outcomes_after-push, newly_is}
use Rattle.poll_core.proofs.laws.one_event_more.Goals as goal

pub returns : goal.returns
returns c = record { outcomes = λ t es e. outcomes_after-push t [] es e; settled = newly_is; pending = pending_more; results = results_more; nobody = nobody_reported }
