use Rattle.std.proofs.Common.{◌≡◌, ℕ, ◌<◌, ◌+◌, ◌%◌, false}
use Rattle.std.specs.List.{list_any}
use Rattle.poll_core.specs.Polls.{has_id}
use Rattle.poll_core.proofs.table.free_ids.Given as goal

abbrev pub invariant-loop-k : goal.invariant-loop-k
invariant-loop-k l = (j : ℕ) → j < l.k → list_any (has_id ((l.next + j) % 65536)) l.polls ≡ false
