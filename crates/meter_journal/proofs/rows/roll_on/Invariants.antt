use Rattle.std.proofs.Common.{◌≡◌, ◌++◌, length, take, drop}
use Rattle.meter_journal.specs.Lists.{rolled_on}
use Rattle.meter_journal.proofs.rows.roll_on.Given as goal

abbrev pub invariant-loop-i : goal.invariant-loop-i
invariant-loop-i l = record {
  as_many : length l.rows ≡ length l.fn.rows;
  rolled : take l.i l.rows ++ rolled_on l.stand (drop l.i l.rows) ≡ take l.from l.fn.rows ++ rolled_on l.last (drop l.from l.fn.rows);
}
