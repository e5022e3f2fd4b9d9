use Rattle.std.proofs.Common.{◌≤◌, take, length}
use Rattle.table_audit.specs.declared.differences.TheConstants.{MOST}
use Rattle.table_audit.specs.Named.{IsReported}
use Rattle.table_audit.proofs.findings.Findings.append_all.Given as goal

abbrev pub invariant-loop-difference : goal.invariant-loop-difference
invariant-loop-difference l = record {
  reported : IsReported (take l.difference-index l.found) l.fn.self l.self;
  few : length l.self.first.items ≤ MOST;
}
