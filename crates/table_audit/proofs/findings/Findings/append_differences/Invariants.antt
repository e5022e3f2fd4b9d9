use Rattle.std.proofs.Common.{◌≡◌, ◌≤◌, ◌+◌, ◌-◌, take, length}
use Rattle.table_audit.specs.declared.differences.TheConstants.{MOST}
use Rattle.table_audit.specs.Meters.{up_to_most}
use Rattle.table_audit.specs.Named.{KeepsFirst}
use Rattle.table_audit.proofs.findings.Findings.append_differences.Given as goal

abbrev pub invariant-loop-difference : goal.invariant-loop-difference
invariant-loop-difference l = record {
  first : KeepsFirst l.meter (take l.difference-index l.found) l.fn.self l.self;
  more : l.self.more ≡ up_to_most (l.fn.self.more + (length l.fn.self.first.items + l.difference-index - MOST));
  counts : l.self.counts ≡ l.fn.self.counts;
  few : length l.self.first.items ≤ MOST;
}
