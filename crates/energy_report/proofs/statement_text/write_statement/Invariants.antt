use Rattle.std.proofs.Common.{◌≡◌, ◌==◌, take}
use Rattle.std.specs.Io.KnownBytes.{Appends}
use Rattle.energy_report.specs.StatementTexts.{begun_text}
use Rattle.energy_report.proofs.statement_text.write_statement.Given as goal

abbrev pub invariant-loop-row : goal.invariant-loop-row
invariant-loop-row g l = record {
  text : Appends (g.W.Write.contents l.fn.output) (g.W.Write.contents l.output) (begun_text l.form (take l.row-index l.rows));
  first : l.is_first ≡ (l.row-index == 0);
}
