use Rattle.std.proofs.Common.{length}
use Rattle.poll_core.specs.Reporting.{IsCall}
use Rattle.poll_core.specs.declared.outcome.Call.TheVariants as call
use Rattle.device_tests.proofs.session_script.close.Given as goal

abbrev pub invariant-turns : goal.invariant-turns
invariant-turns g l = IsCall (call.Close l.closing) l.session l.moment

abbrev pub decreases-turns : goal.decreases-turns
decreases-turns g l = length l.session.polls
