use Rattle.std.proofs.Common.{◌≡◌, drop}
use Rattle.table_audit.specs.Texts as say
use Rattle.table_audit.proofs.texts.write_lines.Given as goal

abbrev pub invariant-loop-finding : goal.invariant-loop-finding
invariant-loop-finding l = say.with_lines l.text.items (drop l.finding-index l.findings) ≡ say.with_lines l.initial.text.items l.findings
