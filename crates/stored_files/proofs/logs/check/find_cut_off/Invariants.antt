use Rattle.std.proofs.Common.{ℕ, ◌<◌}
use Rattle.stored_files.specs.Logs.Damage.{IsCutOff}
use Rattle.stored_files.proofs.logs.check.find_cut_off.Given as goal

abbrev pub invariant-loop-i : goal.invariant-loop-i
invariant-loop-i l = (j : ℕ) → j < l.i → ¬ IsCutOff l.page_size l.log l.taken j
