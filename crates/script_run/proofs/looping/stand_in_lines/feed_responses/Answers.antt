use Rattle.script_run.specs.Looping.Answers.{AnswersPrint}
use Rattle.script_run.proofs.LoopingLemmas.Breaking.{begins_as, breaks}
use Rattle.script_run.proofs.LoopingLemmas.Feeding.{only_ok}
use Rattle.script_run.proofs.looping.stand_in_lines.feed_responses.Goals as goal

pub returns-in_err-stays-in-Some : goal.returns-in_err-stays-in-Some
returns-in_err-stays-in-Some g c =
    breaks c.from_residual.result (λ done now printed next. AnswersPrint c.args.device.now c.args.at now printed next) c.args.office.now _ _ _
    c.from_residual.ensures.0
    (λ past stands. begins_as _ _ _ _ (λ printed broken. (tt, broken.1, broken.2)) (c.in_err-stays-in-Some.ensures past stands))

pub returns-in-None : goal.returns-in-None
returns-in-None g c =
    only_ok c.args.device.now c.args.at c.args.office.now (g.W.Write.contents c.args.output.now) (g.W.Write.contents c.write_ok.new.output) c.write_ok.result
    c.write_ok.ensures
