use Rattle.std.proofs.Common.{◌≡◌, ◌≤◌, drop}
use Rattle.interval_core.specs.declared.limits.TheConstants.{LAST_MOMENT}
use Rattle.table_seals.specs.Notes as say
use Rattle.table_seals.proofs.notes.last_valid.Given as goal

abbrev pub invariant-loop-row : goal.invariant-loop-row
invariant-loop-row l = record {
  time : say.last_valid l.found (drop l.row-index l.rows) ≡ say.last_valid l.otherwise l.rows;
  limit : l.found ≤ LAST_MOMENT;
}
