use Rattle.std.proofs.Common.{◌≡◌, drop}
use Rattle.table_audit.specs.JsonTexts as json
use Rattle.table_audit.proofs.json_texts.write_objects.Given as goal

abbrev pub invariant-loop-finding : goal.invariant-loop-finding
invariant-loop-finding l = json.with_objects l.text.items (drop l.finding-index l.findings) ≡ json.with_objects l.initial.text.items l.findings
