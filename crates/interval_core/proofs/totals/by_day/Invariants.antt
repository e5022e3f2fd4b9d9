use Rattle.std.proofs.Common.{◌*◌, ◌≤◌, take}
use Rattle.interval_core.specs.Account.{energy_of}
use Rattle.interval_core.specs.Fold.{HasTaken}
use Rattle.interval_core.proofs.totals.by_day.Given as goal

abbrev pub invariant-loop-row : goal.invariant-loop-row
invariant-loop-row l = record {
  taken : HasTaken l.zone (take l.row-index l.rows) l.fold;
  energy : energy_of (take l.row-index l.rows) ≤ l.row-index * 18446744073709551615;
}
