use Rattle.script_run.proofs.LoopingLemmas.Carrying.{plain}
use Rattle.script_run.proofs.looping.lines.run_command.Goals as goal

pub returns-in-None : goal.returns-in-None
returns-in-None g c =
    rw c.in-None.is
    (plain c.feed.result c.args.at c.args.event.now c.args.run.now.office c.feed.new.office c.args.run.now.bank c.args.run.now.connected
    (g.W.Write.contents c.args.output.now) (g.W.Write.contents c.feed.new.output) c.feed.ensures)
