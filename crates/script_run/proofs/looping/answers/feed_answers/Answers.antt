use Rattle.std.proofs.Common.{◌+◌, arith}
use Rattle.script_run.specs.Looping.Answers.{AnswersPrint}
use Rattle.script_run.proofs.LoopingLemmas.Breaking.{breaks, none_yet}
use Rattle.script_run.proofs.LoopingLemmas.Feeding.{fed_broken, fed_end, fed_more, fed_part, fed_refused, none_fed}
use Rattle.script_run.proofs.looping.answers.feed_answers.Goals as goal

pub loop-take-init : goal.loop-take-init
loop-take-init g c = λ past stands. none_fed c.args.device.now c.args.at past c.args.office.now _ stands

pub returns-in_default : goal.returns-in_default
returns-in_default g c =
    fed_end c.end_well.result c.loop-take._take c.args.device.now c.args.at c.args.office.now c.loop-take.office _ _ _ (omega arith) c.loop-take.invariant c.end_well.ensures

pub returns-then-not-accepted : goal.returns-then-not-accepted
returns-then-not-accepted g c = λ past stands.
    fed_refused c.loop-take._take c.args.device.now c.args.at past c.in-Some.came c.into_event.result c.in_ok-accepted.accepted c.args.office.now c.loop-take.office
    c.feed.new.office _ _ _ (omega arith) (c.loop-take.invariant past stands) c.into_event.ensures c.if-not-accepted.true c.in_ok-accepted.ensures

pub returns-then-over : goal.returns-then-over
returns-then-over g c =
    fed_end c.end_well-then-over.result (c.loop-take._take + 1) c.args.device.now c.args.at c.args.office.now c.feed.new.office _ _ _ (omega arith)
    (λ past stands. fed_more c.loop-take._take c.args.device.now c.args.at past c.in-Some.came c.into_event.result c.in_ok-accepted.accepted c.args.office.now c.loop-take.office
    c.feed.new.office _ _ _ (c.loop-take.invariant past stands) c.into_event.ensures c.if-not-accepted.false c.in_ok-accepted.ensures)
    c.end_well-then-over.ensures

pub loop-take-preserved : goal.loop-take-preserved
loop-take-preserved g c = λ past stands.
    fed_more c.loop-take._take c.args.device.now c.args.at past c.in-Some.came c.into_event.result c.in_ok-accepted.accepted c.args.office.now c.loop-take.office
    c.feed.new.office _ _ _ (c.loop-take.invariant past stands) c.into_event.ensures c.if-not-accepted.false c.in_ok-accepted.ensures

pub returns : goal.returns
returns g c =
    fed_end c.end_well-2.result c.loop-take._take c.args.device.now c.args.at c.args.office.now c.loop-take.office _ _ _ (omega arith) c.loop-take.invariant c.end_well-2.ensures

pub returns-in_err-came : goal.returns-in_err-came
returns-in_err-came g c =
    breaks c.from_residual.result (λ stays now printed next. AnswersPrint c.args.device.now c.args.at now printed next) c.args.office.now c.loop-take.office
    _ _ c.from_residual.ensures.0
    (λ past stands.
    fed_part c.loop-take._take c.args.device.now c.args.at past c.args.office.now c.loop-take.office _ _ _ (omega arith) (c.loop-take.invariant past stands)
    (none_yet _ _))

pub returns-in_err-accepted : goal.returns-in_err-accepted
returns-in_err-accepted g c =
    breaks c.from_residual-in_err-accepted.result (λ stays now printed next. AnswersPrint c.args.device.now c.args.at now printed next) c.args.office.now
    c.feed.new.office _ _ c.from_residual-in_err-accepted.ensures.0
    (λ past stands.
    let so = c.loop-take.invariant past stands in
    fed_broken c.loop-take._take c.args.device.now c.args.at past c.in-Some.came c.into_event.result c.args.office.now c.loop-take.office _ _ _ (omega arith) so
    c.into_event.ensures (c.in_err-accepted.ensures so.after so.stands))
