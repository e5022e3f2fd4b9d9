use Rattle.std.proofs.Common.{arith}
use Rattle.table_audit.proofs.Lines.{one_line, all_lines}
use Rattle.table_audit.proofs.texts.write_lines.Goals as goal

pub loop-finding-preserved : goal.loop-finding-preserved
loop-finding-preserved c =
    one_line c.args.findings.now c.loop-finding.finding-index c.finding-item.result c.loop-finding.text.items c.write_line.new.text.items _
    c.loop-finding-test.true c.finding-item.is c.loop-finding.invariant c.in_ok-write_line.ensures

pub returns : goal.returns
returns c = all_lines c.args.findings.now c.loop-finding.finding-index c.loop-finding.text.items _ (omega arith) c.loop-finding.invariant
