use Rattle.std.proofs.Common.{◌≡◌, take, Ok}
use Rattle.table_audit.specs.Reading.{void_in, all_in}
use Rattle.table_audit.proofs.reading.voids.Given as goal

abbrev pub invariant-loop-row : goal.invariant-loop-row
invariant-loop-row l = all_in void_in (take l.row-index l.rows) ≡ Ok l.found.items
