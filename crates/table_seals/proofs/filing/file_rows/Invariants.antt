use Rattle.std.proofs.Common.{take, Ok}
use Rattle.table_audit.specs.Looking.{Finds}
use Rattle.table_seals.specs.Filing.{AreFiled}
use Rattle.table_seals.proofs.filing.file_rows.Given as goal

abbrev pub invariant-loop-row : goal.invariant-loop-row
invariant-loop-row g l = Finds g.S.Store l.fn.conn l.conn (Ok l.meters) (λ content meters. AreFiled l.file content (take l.row-index l.rows) meters.items)
