use Rattle.script_run.proofs.LoopingLemmas.Loops.{nothing_run}
use Rattle.script_run.proofs.looping.text_run.run_text.Goals as goal

pub returns-in_default : goal.returns-in_default
returns-in_default g c = nothing_run c.args.zone c.args.text.now (g.W.Write.contents c.args.output.now)

pub returns-in_default-empty_bank : goal.returns-in_default-empty_bank
returns-in_default-empty_bank g c = nothing_run c.args.zone c.args.text.now (g.W.Write.contents c.args.output.now)
