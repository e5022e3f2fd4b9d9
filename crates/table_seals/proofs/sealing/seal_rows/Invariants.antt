use Rattle.std.proofs.Common.{take, Ok}
use Rattle.table_audit.specs.Looking.{Finds}
use Rattle.table_seals.specs.Sealing.{AreSealed}
use Rattle.table_seals.proofs.sealing.seal_rows.Given as goal

abbrev pub invariant-loop-row : goal.invariant-loop-row
invariant-loop-row g l = Finds g.S.Store l.fn.conn l.conn (Ok l.seals) (λ content seals. AreSealed l.zone content (take l.row-index l.rows) seals.items)
