use Rattle.std.proofs.Common.{◌≡◌, [], take}
use Rattle.std.specs.List.{filter}
use Rattle.poll_core.specs.Polls.{due}
use Rattle.poll_core.proofs.table.first_due.Given as goal

abbrev pub invariant-loop-i : goal.invariant-loop-i
invariant-loop-i l = filter (due l.moment) (take l.i l.polls) ≡ []
