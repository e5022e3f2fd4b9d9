use Rattle.command_io.specs.Lines.{seen_line, speaking_lines}
use Rattle.script_run.proofs.BankLemmas.Lines.{all_ran, one_more, stopped_by}
use Rattle.script_run.proofs.bank.setup_lines.run_text.Goals as goal

pub loop-line-preserved : goal.loop-line-preserved
loop-line-preserved g c =
    one_more c.args.setup.now (speaking_lines c.args.text.now) c.loop-line.setup c.run_line.new.setup c.loop-line.lines c.next_line.new.self
    (seen_line c.in-Some.line) _ _ _ c.in-Some.ensures c.in-Ok.ensures c.loop-line.invariant

pub returns-in-Err : goal.returns-in-Err
returns-in-Err g c =
    stopped_by c.args.setup.now c.args.text.now c.loop-line.setup c.run_line.new.setup c.loop-line.lines c.next_line.new.self
    (seen_line c.in-Some.line) c.in-Err.status _ _ _ c.in-Some.ensures c.in-Err.ensures c.loop-line.invariant

pub returns : goal.returns
returns g c = all_ran c.args.setup.now c.args.text.now _ c.loop-line.lines _ _ c.in_default.ensures.0 c.loop-line.invariant
