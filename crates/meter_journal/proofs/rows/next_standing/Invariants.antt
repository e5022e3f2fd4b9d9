use Rattle.std.proofs.Common.{◌≡◌, drop}
use Rattle.std.specs.List.{find}
use Rattle.meter_journal.proofs.rows.next_standing.Given as goal

abbrev pub invariant-loop-row : goal.invariant-loop-row
invariant-loop-row l = find (λ row. row.stands) (drop l.row-index l.row-items) ≡ find (λ row. row.stands) (drop l.from l.rows)
