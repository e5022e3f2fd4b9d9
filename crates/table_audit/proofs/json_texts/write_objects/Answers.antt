use Rattle.std.proofs.Common.{arith}
use Rattle.table_audit.proofs.JsonLines.{one_object, all_objects}
use Rattle.table_audit.proofs.json_texts.write_objects.Goals as goal

pub loop-finding-preserved : goal.loop-finding-preserved
loop-finding-preserved c =
    one_object c.args.findings.now c.loop-finding.finding-index c.finding-item.result c.loop-finding.text.items c.write_object.new.text.items _
    c.loop-finding-test.true c.finding-item.is c.loop-finding.invariant c.in_ok-write_object.ensures

pub returns : goal.returns
returns c = all_objects c.args.findings.now c.loop-finding.finding-index c.loop-finding.text.items _ (omega arith) c.loop-finding.invariant
