use Rattle.std.proofs.Common.{◌≡◌, drop}
use Rattle.table_seals.specs.Notes as say
use Rattle.table_seals.proofs.notes.first_valid.Given as goal

abbrev pub invariant-loop-row : goal.invariant-loop-row
invariant-loop-row l = say.first_valid l.otherwise (drop l.row-index l.rows) ≡ say.first_valid l.otherwise l.rows
