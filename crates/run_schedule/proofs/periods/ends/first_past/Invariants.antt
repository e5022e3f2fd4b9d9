use Rattle.std.proofs.Common.{ℕ, ◌<◌}
use Rattle.std.specs.Prelude.{◌≤ℤ◌}
use Rattle.jiff.specs.Words.{epoch_day}
use Rattle.interval_core.specs.Zone.{day_at}
use Rattle.run_schedule.proofs.periods.ends.first_past.Given as goal

abbrev pub invariant-loop-at : goal.invariant-loop-at
invariant-loop-at l = record {
  later : l.moment < l.at;
  none : (at : ℕ) → at < l.at → l.moment < at → day_at l.zone at ≤ℤ epoch_day l.last;
}
