use Rattle.std.proofs.Common.{◌≤◌, ◌<◌, ◌*◌, ◌^◌, length}
use Rattle.table_audit.specs.declared.differences.TheConstants.{MOST}
use Rattle.table_audit.proofs.lawful.append_each.Given as goal

abbrev pub invariant-reported : goal.invariant-reported
invariant-reported l = record {
  reported : 0 < length l.found.first.items;
  few : length l.found.first.items ≤ MOST;
  wanted : length l.wanted * 16 < 2 ^ 64;
  has : length l.has * 16 < 2 ^ 64;
}
