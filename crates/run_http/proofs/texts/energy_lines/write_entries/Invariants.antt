use Rattle.std.proofs.Common.{◌≡◌, drop}
use Rattle.run_http.specs.Texts.EnergyLines as text
use Rattle.run_http.proofs.texts.energy_lines.write_entries.Given as goal

abbrev pub invariant-loop-row : goal.invariant-loop-row
invariant-loop-row l = text.with_entries l.text.items (drop l.row-index l.rows) ≡ text.with_entries l.initial.text.items l.rows
