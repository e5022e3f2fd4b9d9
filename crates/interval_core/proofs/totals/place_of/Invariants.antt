use Rattle.std.proofs.Common.{◌≤◌, ◌≤ℤ◌, length, drop, map, All}
use Rattle.jiff.specs.Words.{epoch_day}
use Rattle.interval_core.specs.Days.{account_of}
use Rattle.interval_core.proofs.totals.place_of.Given as goal

abbrev pub invariant-loop-place : goal.invariant-loop-place
invariant-loop-place l = record {
  within : l.place ≤ length l.totals;
  others : All (λ account. epoch_day l.day ≤ℤ account.day) (drop l.place (map account_of l.totals));
}

abbrev pub decreases-loop-place : goal.decreases-loop-place
decreases-loop-place l = l.place
