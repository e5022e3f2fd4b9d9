use Rattle.std.proofs.Common.{◌≡◌, [], take}
use Rattle.std.specs.List.{filter}
use Rattle.poll_core.specs.Polls.{has_id}
use Rattle.poll_core.proofs.table.first_with_id.Given as goal

abbrev pub invariant-loop-i : goal.invariant-loop-i
invariant-loop-i l = filter (has_id l.id) (take l.i l.polls) ≡ []
