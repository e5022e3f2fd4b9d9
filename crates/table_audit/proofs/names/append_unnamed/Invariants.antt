use Rattle.std.proofs.Common.{◌≡◌, ◌++◌, ◌+◌, drop}
use Rattle.table_audit.specs.Names.{of_each, unnamed_row, unnamed_in}
use Rattle.table_audit.proofs.names.append_unnamed.Given as goal

abbrev pub invariant-loop-index : goal.invariant-loop-index
invariant-loop-index l = l.found.items ++ of_each (unnamed_row l.table) (l.index + 1) (drop l.index l.rows) ≡ l.initial.found.items ++ unnamed_in l.table l.rows
