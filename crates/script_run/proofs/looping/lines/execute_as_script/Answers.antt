use Rattle.script_run.proofs.LoopingLemmas.Carrying.{alike}
use Rattle.script_run.proofs.looping.lines.execute_as_script.Goals as goal

pub returns : goal.returns
returns g c =
    alike c.carry_out.result c.args.said c.args.run.now.office c.carry_out.new.office c.args.run.now.bank c.args.run.now.connected
    (g.W.Write.contents c.args.output.now) (g.W.Write.contents c.carry_out.new.output) c.carry_out.ensures
