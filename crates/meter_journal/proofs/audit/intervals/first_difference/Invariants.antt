use Rattle.std.proofs.Common.{◌≡◌, ◌≤◌, length, take}
use Rattle.meter_journal.proofs.audit.intervals.first_difference.Given as goal

abbrev pub invariant-loop-same : goal.invariant-loop-same
invariant-loop-same l = record {
  same : take l.same l.wanted ≡ take l.same l.found;
  within : l.same ≤ length l.found;
}
